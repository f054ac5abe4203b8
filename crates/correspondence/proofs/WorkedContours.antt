-- The definitions at worked examples.
use Rattle.std.proofs.Common.{◌≡◌, ℕ, true, false, List, [], ◌∷◌, pos, refl, arith}
use Rattle.fku_types.specs.declared.points.Point.{Point}
use Rattle.plane_geom.specs.Rings.{around}
use Rattle.plane_geom.specs.Nesting.{is_inside}
use Rattle.correspondence.specs.Simple.{AgainstRule}
use Rattle.correspondence.specs.Simple.AgainstRule.{following, closing, distant}
use Rattle.correspondence.specs.Apart.{Touch}
use Rattle.correspondence.specs.Nesting.{depth, depths, is_turned, turned, ring_from, oriented}

abbrev at : ℕ → ℕ → Point
at x y = record { x = pos x; y = pos y; z = pos 0 }

-- squares of side 30 and, in it, of side 10, counterclockwise; and another one beside them
abbrev outer : List Point
outer = at 0 0 ∷ at 30 0 ∷ at 30 30 ∷ at 0 30 ∷ []

abbrev inner : List Point
inner = at 10 10 ∷ at 20 10 ∷ at 20 20 ∷ at 10 20 ∷ []

abbrev beside : List Point
beside = at 40 0 ∷ at 50 0 ∷ at 50 10 ∷ at 40 10 ∷ []

abbrev inmost : List Point
inmost = at 12 12 ∷ at 13 12 ∷ at 12 13 ∷ []

-- a contour whose vertices 5 and 2 have the same point
abbrev pinched : List Point
pinched = at 0 0 ∷ at 4 0 ∷ at 2 2 ∷ at 4 4 ∷ at 0 4 ∷ at 2 2 ∷ []

nested : (depths (outer ∷ inner ∷ []) ≡ 0 ∷ 1 ∷ [])
    × (depths (inner ∷ beside ∷ outer ∷ inmost ∷ []) ≡ 1 ∷ 0 ∷ 0 ∷ 2 ∷ [])
unfolding depth is_inside
nested = (refl, refl)

turning : (is_turned 0 outer ≡ false) × (is_turned 1 inner ≡ true) × (is_turned 2 inmost ≡ false)
    × (is_turned 0 (turned outer) ≡ true) × (is_turned 1 (turned inner) ≡ false)
turning = (refl, refl, refl, refl, refl)

first_stays_first : turned {X = ℕ} (4 ∷ 5 ∷ 6 ∷ 7 ∷ []) ≡ 4 ∷ 7 ∷ 6 ∷ 5 ∷ []
first_stays_first = refl

-- the ids of a hole go with its points
rings : oriented 0 (outer ∷ inner ∷ []) ≡ record { points = outer; ids = 0 ∷ 1 ∷ 2 ∷ 3 ∷ [] }
    ∷ record { points = at 10 10 ∷ at 10 20 ∷ at 20 20 ∷ at 20 10 ∷ []; ids = 4 ∷ 7 ∷ 6 ∷ 5 ∷ [] } ∷ []
unfolding depth is_inside ring_from oriented
rings = refl

clockwise : ring_from 0 8 (at 0 0 ∷ at 0 9 ∷ at 9 0 ∷ [])
    ≡ record { points = at 0 0 ∷ at 9 0 ∷ at 0 9 ∷ []; ids = 8 ∷ 10 ∷ 9 ∷ [] }
unfolding ring_from
clockwise = refl

-- edges 1 and 4 of the pinched contour meet in a vertex of both
edges_1_and_4 : AgainstRule pinched 1 4
unfolding around
edges_1_and_4 = distant (λ e. absurd (omega (arith, e))) (λ c. absurd (omega (arith, c.0)))
    (record {
      s = 1;
      t = 1;
      e = 1;
      at =
          record { positive = omega arith; on_first = omega arith; on_second = omega arith; x = refl; y = refl };
    })

-- an edge that turns back, between neighbours and where the ring closes
turned_back : AgainstRule (at 0 0 ∷ at 9 0 ∷ at 4 0 ∷ at 0 7 ∷ []) 0 1
unfolding around
turned_back = following refl (record {
  s = 4;
  t = 9;
  e = 9;
  at = record
      { positive = omega arith; on_first = omega arith; on_second = omega arith; x = refl; y = refl };
  more =
      λ f. absurd (omega (arith, f));
})

closed_by_turning : AgainstRule (at 0 0 ∷ at 9 0 ∷ at 0 7 ∷ at 4 0 ∷ []) 0 3
unfolding around
closed_by_turning = closing (refl, refl)
    (record {
      s = 0;
      t = 4;
      e = 9;
      at =
          record { positive = omega arith; on_first = omega arith; on_second = omega arith; x = refl; y = refl };
      more =
          λ f. absurd (omega (arith, f));
    })

-- two squares with a common corner touch
corner_to_corner : Touch outer (at 30 30 ∷ at 40 30 ∷ at 40 40 ∷ at 30 40 ∷ [])
unfolding around
corner_to_corner = record {
  e = 1;
  within = omega arith;
  edge =
      record {
        f = 0;
        within = omega arith;
        meet =
            record {
              s = 1;
              t = 0;
              e = 1;
              at =
                  record {
                    positive = omega arith;
                    on_first = omega arith;
                    on_second = omega arith;
                    x = refl;
                    y =
                        refl;
                  };
            };
      };
}
