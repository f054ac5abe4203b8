-- A name is text.
use Rattle.std.proofs.Common.{◌≡◌, ℕ, ◌<◌, true, ◌&&◌, List, length, arith}
use Rattle.std.specs.Prelude.{nat_le}
use Rattle.std.specs.List.{list_all}
use Rattle.std.specs.Str.{IsUtf8}
use Rattle.std.proofs.lemmas.Bool.{and_parts}
use Rattle.std.proofs.lemmas.Bool.Decides.{nat_tests}
use Rattle.std.proofs.lemmas.List.Sums.{AllPass-from_list_all}
use Rattle.std.proofs.lemmas.Str.{IsUtf8-from_ascii}
use Rattle.std.proofs.lemmas.Str.Ascii.{IsAscii-from_all}
use Rattle.fku_types.specs.declared.limits.TheConstants.{MAX_NAME_BYTES}
use Rattle.fku_types.specs.Names.{is_name, is_name_byte}

name_byte-small : (b : ℕ) → is_name_byte b ≡ true → b < 128
name_byte-small b h = grind (arith, nat_tests)

pub name_is_text : (bytes : List ℕ) → is_name bytes ≡ true → IsUtf8 bytes
name_is_text bytes h =
    let all = (and_parts (nat_le 1 (length bytes) && nat_le (length bytes) MAX_NAME_BYTES) (list_all is_name_byte bytes)
    h).1 in
    IsUtf8-from_ascii bytes (IsAscii-from_all bytes
    (λ k d inside. name_byte-small _ (AllPass-from_list_all is_name_byte bytes all k d inside)))
