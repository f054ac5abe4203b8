-- The definitions at worked examples: two equal squares at the heights 0 and 10.
use Rattle.std.proofs.Common.{◌≡◌, ℕ, zero, suc, inl, inr, List, [], ◌∷◌, pos, negsuc, refl, arith, ◌<ℤ◌}
use Rattle.std.proofs.lemmas.Int.{ints}
use Rattle.std.proofs.lemmas.List.Elements.{All-from_recursion}
use Rattle.fku_types.specs.declared.points.Point.{Point}
use Rattle.fku_types.specs.declared.rules.CostRule.TheVariants.{Span}
use Rattle.fku_types.specs.declared.rules.PairRule.TheVariants.{Overlap}
use Rattle.fku_types.specs.declared.fault.Fault.TheVariants.{Outside, OnSection}
use Rattle.section_core.specs.Parts.{span, Parts, SectionParts}
use Rattle.plane_geom.specs.Rings.{around}
use Rattle.strip_graph.specs.declared.slices.Cut.{Cut}
use Rattle.strip_graph.specs.declared.tilings.Step.TheVariants.{V, H}
use Rattle.row_paths.specs.Solutions.{Solution}
use Rattle.section_pairs.specs.Pairs.{PairParts}
use Rattle.surface_core.specs.Surfaces.{strips_in}
use Rattle.section_slices.proofs.SliceHeights.{no_section}
use Rattle.section_slices.specs.Slices.{IsGapAt, IsOutside, IsOnSection, IsHeightFault, outside, on_section, pairs_in_gap, loops_at}

abbrev corner : ℕ → ℕ → ℕ → Point
corner x y z = record { x = pos x; y = pos y; z = pos z }

abbrev square_at : ℕ → List Point
square_at z = corner 0 0 z ∷ corner 10 0 z ∷ corner 10 10 z ∷ corner 0 10 z ∷ []

abbrev turned_at : ℕ → List Point
turned_at z = corner 10 10 z ∷ corner 0 10 z ∷ corner 0 0 z ∷ corner 10 0 z ∷ []

abbrev between : List Point → List Point → ℕ → PairParts
between low high gap = record {
  strip = record { low = low; low_ids = []; high = high; high_ids = []; cost = Span };
  gap = gap;
  below = 0 ∷ [];
  above = 0 ∷ [];
}

-- two equal squares below, and a turned one above
abbrev three : List PairParts
three = between (square_at 0) (square_at 10) 0 ∷ between (square_at 10) (turned_at 20) 1 ∷ []

abbrev straight : Solution
straight = record { row = 0; word = V ∷ H ∷ V ∷ H ∷ V ∷ H ∷ V ∷ H ∷ []; cost = pos 1200 }

abbrev turned : Solution
turned = record { row = 1; word = V ∷ V ∷ H ∷ V ∷ H ∷ V ∷ H ∷ H ∷ []; cost = pos 1200 }

abbrev point : ℕ → ℕ → Cut
point x y = record { x = pos x; y = pos y }

-- 3 above the lowest square
pub squares_loop : loops_at 10 3 (strips_in (pairs_in_gap 0 three)) (straight ∷ [])
    ≡ (point 0 0 ∷ point 70 0 ∷ point 100 0 ∷ point 100 70 ∷ point 100 100 ∷ point 30 100 ∷ point 0 100 ∷ point 0 30
    ∷ []) ∷ []
unfolding around
squares_loop = refl

-- half way up to the turned square, from row 1 on
pub turned_loop : loops_at 10 5 (strips_in (pairs_in_gap 1 three)) (turned ∷ [])
    ≡ (point 100 50 ∷ point 100 100 ∷ point 50 100 ∷ point 0 100 ∷ point 0 50 ∷ point 0 0 ∷ point 50 0 ∷ point 100 0
    ∷ []) ∷ []
unfolding around
turned_loop = refl

-- no pair in this gap
pub no_loop : loops_at 10 5 (strips_in (pairs_in_gap 2 three)) [] ≡ []
no_loop = refl

-- sections at the heights 0 and 10, without contours
abbrev two : Parts
two = record {
  cost = span;
  rule = Overlap;
  sections =
      record { z = pos 0; contours = [] } ∷ record { z = pos 10; contours = [] } ∷ [];
  links = [];
}

pub at_five : IsGapAt two (pos 5) 0
at_five = record { there = omega arith; above_low = omega (arith, ints); below_high = omega (arith, ints) }

pub at_ten : IsHeightFault two (pos 10) (OnSection (pos 10))
at_ten = on_section (1, omega arith, refl)

pub at_minus_one : IsHeightFault two (negsuc 0) (Outside (negsuc 0))
at_minus_one = outside (inl (All-from_recursion (λ (s : SectionParts). negsuc 0 <ℤ s.z) two.sections
    (omega (arith, ints), (omega (arith, ints), tt))))

pub at_eleven : IsHeightFault two (pos 11) (Outside (pos 11))
at_eleven = outside (inr (All-from_recursion (λ (s : SectionParts). s.z <ℤ pos 11) two.sections
    (omega (arith, ints), (omega (arith, ints), tt))))

-- a height between them is neither outside nor that of a section, and the height of a section lies in no gap
not_outside : IsOutside two (pos 5) → ⊥
not_outside (inl all) = absurd (omega (arith, ints, all 0 no_section (omega arith)))
not_outside (inr all) = absurd (omega (arith, ints, all 1 no_section (omega arith)))

not_on_section : IsOnSection two (pos 5) → ⊥
not_on_section (zero, l, e) = absurd (omega (arith, ints, e))
not_on_section (suc zero, l, e) = absurd (omega (arith, ints, e))
not_on_section (suc (suc k), l, e) = absurd (omega (arith, l))

no_gap : IsGapAt two (pos 10) 0 → ⊥
no_gap g = absurd (omega (arith, ints, g.below_high))
