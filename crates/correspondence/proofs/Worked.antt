-- The definitions at worked examples: squares above one another, and one in another.
use Rattle.std.proofs.Common.{◌≡◌, inl, inr, ℕ, zero, suc, ◌<◌, true, false, List, [], ◌∷◌, pos, Some, None, refl, arith}
use Rattle.fku_types.specs.declared.points.Point.{Point}
use Rattle.fku_types.specs.declared.rules.PairRule.{PairRule}
use Rattle.fku_types.specs.declared.rules.PairRule.TheVariants.{Overlap, Links}
use Rattle.fku_types.specs.declared.fault.LinkCause.TheVariants.{Unknown, NotNeighbours, DepthDiffers, Repeated}
use Rattle.fku_types.specs.declared.fault.Fault.TheVariants.{Link, NoContours}
use Rattle.section_core.specs.Parts.{span, Spot, ContourParts, SectionParts, LinkParts, Parts}
use Rattle.plane_geom.specs.Rings.{around}
use Rattle.plane_geom.specs.Nesting.{is_inside}
use Rattle.plane_geom.proofs.CrossedTests.{inside_test}
use Rattle.correspondence.specs.Nesting.{depth}
use Rattle.correspondence.specs.Contours.{first_point}
use Rattle.correspondence.specs.Outlines.{layer_at, link_at, name_in, section_at}
use Rattle.correspondence.specs.Overlaps.{Overlap as Overlaps}
use Rattle.correspondence.specs.Correspondences.{same_parity, Agree, Correspond}
use Rattle.correspondence.specs.Links.{names_of, depths_of, contour_place_of, depth_at, cause_of, AreGood, IsFirstBad, IsLinkFault}
use Rattle.correspondence.specs.Components.{Below, Above, AreConnected, IsMember, IsRising, AreInOrder}

abbrev box : ℕ → ℕ → List Spot
box low high = (pos low, pos low) ∷ (pos high, pos low) ∷ (pos high, pos high) ∷ (pos low, pos high) ∷ []

abbrev square : List ℕ → ContourParts
square name = record { name = name; count = pos 4; points = box 0 9 }

abbrev link : List ℕ → List ℕ → LinkParts
link below above = record { below = below; above = above }

abbrev a : List ℕ
a = 97 ∷ []

abbrev b : List ℕ
b = 98 ∷ []

abbrev c : List ℕ
c = 99 ∷ []

abbrev z : List ℕ
z = 122 ∷ []

-- squares a, b, c at the heights 0, 10, 20
abbrev three : List LinkParts → Parts
three links = record {
  cost = span;
  rule = Links;
  sections = record { z = pos 0; contours = square a ∷ [] } ∷ record { z = pos 10; contours = square b ∷ [] }
      ∷ record { z = pos 20; contours = square c ∷ [] } ∷ [];
  links = links;
}

-- a square with a hole under an equal one
abbrev ring : List ℕ → List ℕ → ℕ → SectionParts
ring outer hole height = record {
  z = pos height;
  contours =
      record { name = outer; count = pos 4; points = box 0 30 }
      ∷ record { name = hole; count = pos 4; points = box 10 20 } ∷ [];
}

abbrev nested : PairRule → List LinkParts → Parts
nested rule links = record { cost = span; rule = rule; sections = ring a b 0 ∷ ring c z 10 ∷ []; links = links }

-- why links are not good
unknown : (cause_of (three (link a z ∷ [])) 0 ≡ Some Unknown) × (cause_of (three (link z a ∷ [])) 0 ≡ Some Unknown)
unfolding cause_of depth is_inside
unknown = (refl, refl)

not_neighbours : (cause_of (three (link a c ∷ [])) 0 ≡ Some NotNeighbours)
    × (cause_of (three (link b a ∷ [])) 0 ≡ Some NotNeighbours)
unfolding cause_of depth is_inside
not_neighbours = (refl, refl)

depth_differs : (cause_of (nested Links (link b c ∷ [])) 0 ≡ Some DepthDiffers)
    × (cause_of (nested Links (link b z ∷ [])) 0 ≡ None)
unfolding cause_of depth is_inside
depth_differs = (refl, refl)

abbrev twice : Parts
twice = three (link a b ∷ link a b ∷ [])

repeated : (cause_of twice 0 ≡ None) × (cause_of twice 1 ≡ Some Repeated)
    × (cause_of (three (link a b ∷ link b c ∷ [])) 1 ≡ None)
unfolding cause_of depth is_inside
repeated = (refl, refl, refl)

good_before : (k : ℕ) → k < 1 → cause_of twice k ≡ None
good_before zero l = repeated.0
good_before (suc k) l = absurd (omega arith)

first_bad : IsFirstBad twice 1 a b Repeated
first_bad = record { there = omega arith; good_before = good_before; cause = repeated.1; below = refl; above = refl }

told : (IsLinkFault twice (Link a b Repeated)) × (IsLinkFault twice NoContours → ⊥)
told = ((1, first_bad), λ h. h)

-- names, depths, and the places of contours
tables : (names_of (nested Overlap []) ≡ (a ∷ b ∷ []) ∷ (c ∷ z ∷ []) ∷ [])
    × (depths_of (nested Overlap []) ≡ (0 ∷ 1 ∷ []) ∷ (0 ∷ 1 ∷ []) ∷ [])
unfolding depth is_inside
tables = (refl, refl)

places : (contour_place_of (names_of (nested Overlap [])) z ≡ Some (record { section = 1; contour = 1 }))
    × (contour_place_of (names_of (three [])) z ≡ None)
    × (depth_at ((0 ∷ 1 ∷ []) ∷ (2 ∷ 3 ∷ []) ∷ []) (record { section = 1; contour = 0 }) ≡ 2)
places = (refl, refl, refl)

-- points lie at the height of their section
heights : (layer_at (three []) 1).outlines
    ≡ (record { x = pos 0; y = pos 0; z = pos 10 } ∷ record { x = pos 9; y = pos 0; z = pos 10 }
    ∷ record { x = pos 9; y = pos 9; z = pos 10 } ∷ record { x = pos 0; y = pos 9; z = pos 10 } ∷ []) ∷ []
heights = refl

parts : ((section_at (three []) 2).z ≡ pos 20) × (link_at (three (link a b ∷ link b c ∷ [])) 1 ≡ link b c)
    × (name_in (layer_at (three []) 1) 0 ≡ b)
parts = (refl, refl, refl)

-- contours overlap if their edges share a point or one is inside the other
abbrev flat : ℕ → ℕ → List Point
flat low high = record { x = pos low; y = pos low; z = pos 0 } ∷ record { x = pos high; y = pos low; z = pos 0 }
    ∷ record { x = pos high; y = pos high; z = pos 0 } ∷ record { x = pos low; y = pos high; z = pos 0 } ∷ []

at_a_corner : Overlaps (flat 0 10) (flat 10 20)
unfolding around
at_a_corner = inl (record {
  e = 1;
  within = omega arith;
  edge =
      record {
        f = 0;
        within = omega arith;
        meet =
            record {
              s = 1;
              t = 0;
              e = 1;
              at =
                  record {
                    positive = omega arith;
                    on_first = omega arith;
                    on_second = omega arith;
                    x = refl;
                    y =
                        refl;
                  };
            };
      };
})

inside : Overlaps (flat 10 20) (flat 0 30)
unfolding is_inside
inside = inr (inl ((inside_test (first_point (flat 10 20)) (flat 0 30)).0 refl))

around_it : Overlaps (flat 0 30) (flat 10 20)
unfolding is_inside
around_it = inr (inr ((inside_test (first_point (flat 10 20)) (flat 0 30)).0 refl))

-- depths of equal parity
parity : (same_parity 0 2 ≡ true) × (same_parity 1 3 ≡ true) × (same_parity 0 1 ≡ false)
parity = (refl, refl, refl)

-- the condition of the pair rule on the hole below and the outer contour above
holes : Agree Overlap [] (layer_at (nested Overlap []) 0) (layer_at (nested Overlap []) 1) 1 0 → ⊥
unfolding depth is_inside
holes h = let e : false ≡ true = h.0 in cc

linked : (Correspond (three (link a b ∷ [])) 0 0 0) × (Correspond (three (link b a ∷ [])) 0 0 0 → ⊥)
    × (Correspond (three (link a b ∷ [])) 1 0 0 → ⊥)
linked = (
  record { below = omega arith; above = omega arith; agree = refl },
  (λ h. let e : false ≡ true = h.agree in cc),
  λ h. let e : false ≡ true = h.agree in cc,
)

-- one contour below two: it connects those above
abbrev under_two : ℕ → ℕ → Type 0
under_two i j = (i ≡ 0) × (j < 2)

connected : AreConnected under_two (Above 0) (Above 1)
connected = (Below 0 ∷ Above 1 ∷ [], ((refl, omega arith), ((refl, omega arith), refl)))

members : (IsMember (Above 1) (record { below = 0 ∷ []; above = 1 ∷ [] }))
    × (IsMember (Below 1) (record { below = 0 ∷ []; above = 1 ∷ [] }) → ⊥)
members = (refl, λ h. let e : false ≡ true = h in cc)

-- places in file order, and components by their first contours below
rising : (IsRising (0 ∷ 2 ∷ 5 ∷ [])) × (IsRising (2 ∷ 0 ∷ []) → ⊥) × (IsRising (2 ∷ 2 ∷ []) → ⊥)
rising = (
  ((omega arith, (omega arith, tt)), ((omega arith, tt), (tt, tt))),
  (λ h. omega (arith, h.0.0)),
  λ h. omega (arith, h.0.0),
)

ordered : (AreInOrder (record { below = 0 ∷ 3 ∷ []; above = 2 ∷ [] } ∷ record { below = 1 ∷ []; above = 0 ∷ [] } ∷ []))
    × (AreInOrder (record { below = 1 ∷ []; above = 0 ∷ [] } ∷ record { below = 0 ∷ []; above = 1 ∷ [] } ∷ []) → ⊥)
ordered = (((omega arith, tt), (tt, tt)), λ h. omega (arith, h.0.0))

-- links between neighbours of one depth, each once, are good
good : AreGood (three (link a b ∷ link b c ∷ [])) 2
unfolding cause_of depth is_inside
good zero l = refl
good (suc zero) l = refl
good (suc (suc k)) l = absurd (omega (arith, l))

good_holes : AreGood (nested Links (link b z ∷ link a c ∷ [])) 2
unfolding cause_of depth is_inside
good_holes zero l = refl
good_holes (suc zero) l = refl
good_holes (suc (suc k)) l = absurd (omega (arith, l))

not_all_good : AreGood twice 2 → ⊥
unfolding cause_of depth is_inside
not_all_good g = let e : Some Repeated ≡ None = g 1 (omega arith) in absurd (cc)
