-- The tiles of a strip.
use Rattle.std.specs.Prelude.{ℕ, ◌+◌, List, [], ◌∷◌, map}
use Rattle.strip_graph.specs.declared.tilings.Step.{Step}
use Rattle.strip_graph.specs.declared.tilings.Step.TheVariants.{V, H}
use Rattle.strip_graph.specs.Spans.{spans}
use Rattle.plane_geom.specs.Rings.{item_around}

-- the tile of a step from the span of row i and column j of two rings of ids
abbrev pub tile : List ℕ → List ℕ → ℕ → ℕ → Step → List ℕ
tile low high i j V = item_around 0 low i ∷ item_around 0 low (i + 1) ∷ item_around 0 high j ∷ []
tile low high i j H = item_around 0 high (j + 1) ∷ item_around 0 high j ∷ item_around 0 low i ∷ []

-- the tiles of a word from the span of row i and column j: one for each span that it passes
abbrev pub tiles : List ℕ → List ℕ → ℕ → ℕ → List Step → List (List ℕ)
tiles low high i j w = map (λ span. tile low high span.row span.col span.step) (spans i j w)
