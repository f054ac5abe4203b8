-- The loops of slices, rounded to integer coordinates.
use Rattle.std.specs.Prelude.{ℕ, ◌*◌, ◌≤◌, ◌&&◌, Bool, List, [], ◌∷◌, Contains, map, ℤ, pos, ◌+ℤ◌, ◌-ℤ◌, ◌*ℤ◌, unsigned_abs, if◌then◌else◌}
use Rattle.std.specs.Int.{int_div_euclid}
use Rattle.std.specs.List.{dedup}
use Rattle.std.specs.Ordering.{int_eq}
use Rattle.fku_types.specs.declared.points.Spot.{Spot}
use Rattle.fku_types.specs.Points.{IsCoordinate}
use Rattle.strip_graph.specs.declared.slices.Cut.{Cut}

-- x over d, rounded: the greatest integer not above (2x + d) / 2d
abbrev pub rounded : ℕ → ℤ → ℤ
rounded d x = int_div_euclid ((pos 2 *ℤ x) +ℤ pos d) (pos (2 * d))

abbrev pub rounded_spot : ℕ → Cut → Spot
rounded_spot d c = record { x = rounded d c.x; y = rounded d c.y }

abbrev pub is_same_spot : Spot → Spot → Bool
is_same_spot s t = int_eq s.x t.x && int_eq s.y t.y

-- spots with one spot before them, which is omitted if it is the same as s and none follows
abbrev pub before_rest : Spot → Spot → List Spot → List Spot
before_rest s p [] = if is_same_spot p s then [] else p ∷ []
before_rest s p (q ∷ qs) = p ∷ q ∷ qs

-- spots, without those at the end that are the same as s
abbrev pub without_end : Spot → List Spot → List Spot
without_end s [] = []
without_end s (p ∷ ps) = before_rest s p (without_end s ps)

-- spots, without those at the end that are the same as the first, which stays
abbrev pub opened_loop : List Spot → List Spot
opened_loop [] = []
opened_loop (p ∷ ps) = p ∷ without_end p ps

-- the points of a loop over d, each rounded; without a spot that is the same as the one before it, and then without
-- those at the end that are the same as the first
abbrev pub rounded_loop : ℕ → List Cut → List Spot
rounded_loop d points = opened_loop (dedup is_same_spot (map (rounded_spot d) points))

-- |2dX - 2x| is at most d: X is at most one half away from x over d
abbrev pub IsClose : ℕ → ℤ → ℤ → Type 0
IsClose d x r = unsigned_abs ((pos (2 * d) *ℤ r) -ℤ (pos 2 *ℤ x)) ≤ d

-- a spot is that close to one of the points
pub record IsCloseToOne (d : ℕ) (points : List Cut) (s : Spot) : Type 0 where
  pub point : Cut
  pub there : Contains points point
  pub x : IsClose d point.x s.x
  pub y : IsClose d point.y s.y

-- both coordinates are in range
pub record IsRoundedInRange (s : Spot) : Type 0 where
  pub x : IsCoordinate s.x
  pub y : IsCoordinate s.y
