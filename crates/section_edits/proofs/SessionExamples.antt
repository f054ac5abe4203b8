-- The new pairs of a stack of squares after edits, computed.
use Rattle.std.proofs.Common.{◌≡◌, ℕ, ℤ, pos, List, [], ◌∷◌, ◌+◌, refl}
use Rattle.fku_types.specs.declared.points.Point.{Point}
use Rattle.fku_types.specs.declared.rules.CostRule.TheVariants.{Span}
use Rattle.strip_graph.specs.Strips.{Strip}
use Rattle.section_edits.specs.Fresh.{fresh}

abbrev ring : ℤ → ℕ → List Point
ring z corner = record { x = pos 0; y = pos 0; z = z } ∷ record { x = pos 10; y = pos 0; z = z }
    ∷ record { x = pos corner; y = pos corner; z = z } ∷ record { x = pos 0; y = pos 10; z = z } ∷ []

-- the pair of squares at two heights, with one corner each; the ids are those of the file
abbrev pair : ℕ → ℕ → ℕ → ℕ → ℕ → Strip
pair z low first high y = record {
  low = ring (pos z) low;
  low_ids = first ∷ (first + 1) ∷ (first + 2) ∷ (first + 3) ∷ [];
  high = ring (pos y) high;
  high_ids = (first + 4) ∷ (first + 5) ∷ (first + 6) ∷ (first + 7) ∷ [];
  cost = Span;
}

-- two squares: the one pair is new
one_fresh : fresh (pair 0 10 0 10 10 ∷ []) (pair 0 10 0 12 10 ∷ []) ≡ 1
one_fresh = refl

-- three squares: only the upper pair is new
upper_fresh : fresh (pair 0 10 0 10 10 ∷ pair 10 10 4 10 20 ∷ []) (pair 0 10 0 10 10 ∷ pair 10 10 4 12 20 ∷ []) ≡ 1
upper_fresh = refl

abbrev five : List Strip
five = pair 0 10 0 10 10 ∷ pair 10 10 4 10 20 ∷ pair 20 10 8 10 30 ∷ pair 30 10 12 10 40 ∷ []

abbrev five_moved : List Strip
five_moved = pair 0 10 0 10 10 ∷ pair 10 10 4 12 20 ∷ pair 20 12 8 10 30 ∷ pair 30 10 12 10 40 ∷ []

abbrev four_moved : List Strip
four_moved = pair 0 10 0 10 10 ∷ pair 10 10 4 12 20 ∷ pair 20 12 8 10 30 ∷ []

abbrev four : List Strip
four = pair 0 10 0 10 10 ∷ pair 10 10 4 10 20 ∷ pair 20 10 8 10 30 ∷ []

middle_moved : fresh five five_moved ≡ 2
middle_moved = refl

last_dropped : fresh five_moved four_moved ≡ 0
last_dropped = refl

middle_moved_back : fresh four_moved four ≡ 2
middle_moved_back = refl

-- ids do not count
other_ids : fresh (pair 0 10 0 10 10 ∷ []) (pair 0 10 4 10 10 ∷ []) ≡ 0
other_ids = refl

-- two equal pairs are both new
both_fresh : fresh [] (pair 0 10 0 10 10 ∷ pair 0 10 0 10 10 ∷ []) ≡ 2
both_fresh = refl
