-- The definitions at worked examples: a square of side 10, and segments about it.
use Rattle.std.proofs.Common.{◌≡◌, ℕ, true, false, List, [], ◌∷◌, pos, negsuc, inl, refl, arith}
use Rattle.fku_types.specs.declared.points.Point.{Point}
use Rattle.fku_types.specs.Points.{square}
use Rattle.plane_geom.specs.Rings.{around, ring_edges, edge_count}
use Rattle.plane_geom.specs.Planes.{side, turns}
use Rattle.plane_geom.specs.Lengths.{distance_square}
use Rattle.plane_geom.specs.Segments.{SharePoint, ShareMore}
use Rattle.plane_geom.specs.Nesting.{Crossed, Inside, is_inside}
use Rattle.plane_geom.proofs.CrossedTests.{inside_test}

abbrev corner : ℕ → ℕ → Point
corner x y = record { x = pos x; y = pos y; z = pos 7 }

abbrev box : List Point
box = corner 0 0 ∷ corner 10 0 ∷ corner 10 10 ∷ corner 0 10 ∷ []

abbrev box_back : List Point
box_back = corner 0 0 ∷ corner 0 10 ∷ corner 10 10 ∷ corner 10 0 ∷ []

-- signs of areas: to the left, on the line and to the right
sides : (side (corner 0 0) (corner 10 0) (corner 3 10) ≡ pos 100)
    × (side (corner 0 0) (corner 10 0) (corner 25 0) ≡ pos 0)
    × (side (corner 0 10) (corner 10 10) (corner 3 0) ≡ negsuc 99)
sides = (refl, refl, refl)

both_turns : (turns box ≡ pos 200) × (turns box_back ≡ negsuc 199)
both_turns = (refl, refl)

in_three_dimensions : distance_square (record { x = pos 1; y = pos 2; z = pos 0 })
    (record { x = negsuc 1; y = pos 6; z = pos 12 }) ≡ 169
unfolding distance_square square
in_three_dimensions = refl

-- the last vertex is followed by the first
last_edge : ring_edges {X = ℕ} (4 ∷ 7 ∷ 9 ∷ []) ≡ (4, 7) ∷ (7, 9) ∷ (9, 4) ∷ []
last_edge = refl

round : (around box 3 ≡ corner 0 10) × (around box 4 ≡ corner 0 0) × (around box 9 ≡ corner 10 0)
unfolding around
round = (refl, refl, refl)

counted_edges : (edge_count ((0 ∷ 1 ∷ 2 ∷ []) ∷ (0 ∷ 1 ∷ 5 ∷ []) ∷ []) 0 1 ≡ 2)
    × (edge_count ((0 ∷ 1 ∷ 2 ∷ []) ∷ []) 1 0 ≡ 0) × (edge_count ((0 ∷ 1 ∷ 2 ∷ []) ∷ []) 2 0 ≡ 1)
counted_edges = (refl, refl, refl)

-- a vertex on an edge, in the middle of it
touching : SharePoint (corner 0 0) (corner 10 0) (corner 5 0) (corner 5 9)
touching = record {
  s = 1;
  t = 0;
  e = 2;
  at =
      record { positive = omega arith; on_first = omega arith; on_second = omega arith; x = refl; y = refl };
}

-- a crossing, not in the middle of either
crossing : SharePoint (corner 0 0) (corner 9 9) (corner 0 6) (corner 6 0)
crossing = record {
  s = 6;
  t = 9;
  e = 18;
  at =
      record { positive = omega arith; on_first = omega arith; on_second = omega arith; x = refl; y = refl };
}

-- an edge that turns back on the one before, and an edge of no length
turned_back : ShareMore (corner 0 0) (corner 10 0) (corner 5 0)
turned_back = record {
  s = 1;
  t = 2;
  e = 2;
  at =
      record { positive = omega arith; on_first = omega arith; on_second = omega arith; x = refl; y = refl };
  more =
      λ f. absurd (omega arith);
}

no_length : ShareMore (corner 3 4) (corner 3 4) (corner 9 9)
no_length = record {
  s = 0;
  t = 0;
  e = 1;
  at =
      record { positive = omega arith; on_first = omega arith; on_second = omega arith; x = refl; y = refl };
  more =
      λ f. absurd (omega arith);
}

-- at height 5 the right side of the square passes to the right of its centre
right_of_centre : Crossed (corner 5 5) (corner 10 0) (corner 10 10)
right_of_centre = record {
  height = inl (omega arith, omega arith);
  s = pos 5;
  e = 10;
  positive = omega arith;
  level =
      refl;
  right = omega arith;
}

-- the centre and the lower and left edges are inside, the upper and right edges are not
tested : (is_inside (corner 5 5) box ≡ true) × (is_inside (corner 0 5) box ≡ true) × (is_inside (corner 5 0) box ≡ true)
    × (is_inside (corner 10 5) box ≡ false) × (is_inside (corner 5 10) box ≡ false)
    × (is_inside (corner 12 5) box ≡ false)
unfolding is_inside
tested = (refl, refl, refl, refl, refl, refl)

centre_inside : Inside (corner 5 5) box
unfolding is_inside
centre_inside = (inside_test (corner 5 5) box).0 refl

beside_outside : Inside (corner 12 5) box → ⊥
unfolding is_inside
beside_outside w = let e : false ≡ true = (inside_test (corner 12 5) box).1 w in absurd (cc)
