-- The definitions of this crate at worked examples, by computation.
use Rattle.std.proofs.Common.{◌≡◌, pos, negsuc, [], ◌∷◌, Some, None, refl}
use Rattle.std.specs.Prelude.{codes}
use Rattle.text_io.specs.Text.{lines, words, kept_lines, number_of}

-- lines end with a line feed or with the text, and one carriage return at their end is dropped
lines_of_a_text : lines (codes "# a\r\n\t12 \r-7\r\n\nEND\r") ≡ codes "# a" ∷ codes "\t12 \r-7" ∷ [] ∷ codes "END" ∷ []
lines_of_a_text = refl

words_of_a_line : words (codes "\t12  ab ") ≡ codes "12" ∷ codes "ab" ∷ []
words_of_a_line = refl

-- empty lines and comments are counted and skipped
kept_lines_of_a_text : kept_lines (codes "# a\n\n 1 2\n  # b\nEND") ≡ (3, codes "1" ∷ codes "2" ∷ [])
    ∷ (5, codes "END" ∷ []) ∷ []
kept_lines_of_a_text = refl

whole_numbers : (number_of (codes "0") ≡ Some (pos 0)) × (number_of (codes "-0") ≡ Some (pos 0))
    × (number_of (codes "-007") ≡ Some (negsuc 6)) × (number_of (codes "1000000") ≡ Some (pos 1000000))
whole_numbers = (refl, refl, refl, refl)

no_whole_numbers : (number_of (codes "") ≡ None) × (number_of (codes "-") ≡ None) × (number_of (codes "+5") ≡ None)
    × (number_of (codes "1.5") ≡ None) × (number_of (codes "--1") ≡ None)
no_whole_numbers = (refl, refl, refl, refl, refl)
