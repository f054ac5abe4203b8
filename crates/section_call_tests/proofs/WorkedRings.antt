-- Squares, the last of a list, and rings, at worked examples.
use Rattle.std.proofs.Common.{◌≡◌, ℕ, ℤ, List, [], ◌∷◌, pos, negsuc, Vec, refl, arith}
use Rattle.std.specs.Prelude.{All}
use Rattle.std.specs.declared.alloc.Global.{Global}
use Rattle.std.proofs.lemmas.List.Elements.{All-from_recursion}
use Rattle.fku_types.specs.declared.points.Point.{Point}
use Rattle.fku_types.specs.Points.{square, IsCoordinate, IsInRange}
use Rattle.plane_geom.specs.Rings.{IsRing}
use Rattle.plane_geom.specs.RingViews.{ring_view, ring_views, IsContour}
use Rattle.plane_geom.specs.declared.ring.Ring.{Ring}
use Rattle.strip_graph.proofs.ComputedTests.{list_at}
use Rattle.section_core.specs.Steps.{add_last, last, push_last, last_list}

abbrev at : ℤ → ℤ → ℤ → Point
at x y z = record { x = x; y = y; z = z }

-- squares of integers
squares : square (negsuc 11) ≡ 144
unfolding square
squares = refl

-- what the last of a list becomes
lasts : (add_last (1 ∷ 2 ∷ 4 ∷ []) 3 ≡ 1 ∷ 2 ∷ 7 ∷ []) × (last (1 ∷ 2 ∷ 4 ∷ []) ≡ 4)
    × (push_last ((pos 1 ∷ []) ∷ [] ∷ []) (pos 3) ≡ (pos 1 ∷ []) ∷ (pos 3 ∷ []) ∷ [])
    × (last_list ((pos 1 ∷ []) ∷ (pos 2 ∷ pos 3 ∷ []) ∷ []) ≡ pos 2 ∷ pos 3 ∷ [])
lasts = (refl, refl, refl, refl)

-- rings of contours and of pairs
abbrev corners : List Point
corners = at (pos 0) (pos 0) (pos 7) ∷ at (pos 999999) (pos 0) (pos 7) ∷ at (pos 0) (negsuc 999998) (pos 7) ∷ []

all_in_range : All IsInRange corners
all_in_range = All-from_recursion IsInRange corners (
  near _ (omega arith) (omega arith) (omega arith),
  (near _ (omega arith) (omega arith) (omega arith), (near _ (omega arith) (omega arith) (omega arith), tt)),
)
  where
    near : (p : Point) → IsCoordinate p.x → IsCoordinate p.y → IsCoordinate p.z → IsInRange p
    near p x y z = record { x = x; y = y; z = z }

abbrev ring : Vec ℕ Global → Ring
ring v = record { points = list_at v corners tt; ids = list_at v (4 ∷ 5 ∷ 6 ∷ []) tt; one_id_each = refl }

contours : (v : Vec ℕ Global) → IsContour (ring v)
    × (ring_view (ring v) ≡ record { points = corners; ids = 4 ∷ 5 ∷ 6 ∷ [] }) × IsRing corners
contours v = (
  record { enough = omega arith; few = omega arith; in_range = all_in_range },
  refl,
  record { enough = omega arith; few = omega arith; in_range = all_in_range },
)

views : (v : Vec ℕ Global) → ring_views (ring v ∷ ring v ∷ []) ≡ ring_view (ring v) ∷ ring_view (ring v) ∷ []
views v = refl
