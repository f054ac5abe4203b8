-- Slices of a strip between the heights of its rings.
use Rattle.std.specs.Prelude.{ℕ, ◌*◌, ◌≤◌, unsigned_abs, List, map}
use Rattle.fku_types.specs.declared.limits.TheConstants.{MAX_COORDINATE}
use Rattle.plane_geom.specs.Rings.{around}
use Rattle.plane_geom.specs.Segments.{scaled}
use Rattle.strip_graph.specs.declared.tilings.Step.{Step}
use Rattle.strip_graph.specs.declared.slices.Cut.{Cut}
use Rattle.strip_graph.specs.Strips.{Strip}
use Rattle.strip_graph.specs.Spans.{spans}

-- the point that lies t/d of the way up the span of row i and column j, its x and y times d
abbrev pub span_cut : Strip → ℕ → ℕ → ℕ → ℕ → Cut
span_cut s d t i j = record {
  x = scaled d t (around s.low i).x (around s.high j).x;
  y = scaled d t (around s.low i).y (around s.high j).y;
}

-- the numerators over d are those of coordinates in range
pub record IsOver (d : ℕ) (c : Cut) : Type 0 where
  pub x : unsigned_abs c.x ≤ MAX_COORDINATE * d
  pub y : unsigned_abs c.y ≤ MAX_COORDINATE * d

-- the loop of a word from the span of row i and column j: such a point of each span that it passes
abbrev pub slice_loop : Strip → ℕ → ℕ → ℕ → ℕ → List Step → List Cut
slice_loop s d t i j w = map (λ span. span_cut s d t span.row span.col) (spans i j w)
