-- Digits are bytes of names.
use Rattle.std.proofs.Common.{◌≡◌, ℕ, true, List, [], ◌∷◌, refl, arith}
use Rattle.std.specs.List.{list_all}
use Rattle.std.proofs.lemmas.Bool.{and_parts, and_from}
use Rattle.std.proofs.lemmas.Bool.Decides.{nat_tests}
use Rattle.fku_types.specs.Names.{is_name_byte}
use Rattle.text_io.specs.Text.{is_digit}

digit_name : (d : ℕ) → is_digit d ≡ true → is_name_byte d ≡ true
digit_name d e = grind (arith, nat_tests)

pub digits_name : (ds : List ℕ) → list_all is_digit ds ≡ true → list_all is_name_byte ds ≡ true
digits_name [] e = refl
digits_name (d ∷ ds) e = let p = and_parts (is_digit d) (list_all is_digit ds) e in
    and_from (is_name_byte d) (list_all is_name_byte ds) (digit_name d p.0) (digits_name ds p.1)
