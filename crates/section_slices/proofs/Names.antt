-- The names of middle contours.
use Rattle.std.proofs.Common.{◌≡◌, ℕ, ◌+◌, ◌<◌, ◌≤◌, Bool, true, ◌&&◌, length, ap₂, arith}
use Rattle.std.specs.Prelude.{decimal}
use Rattle.std.proofs.lemmas.Bool.{le-leb}
use Rattle.std.proofs.lemmas.Fmt.{digits_decimal, length-decimal-le}
use Rattle.fku_types.specs.declared.limits.TheConstants.{MAX_NAME_BYTES, MAX_PAIRS}
use Rattle.fku_types.specs.Names.{is_name}
use Rattle.text_io.proofs.DigitNames.{digits_name}
use Rattle.text_io.proofs.WrittenLines.{numerals}
use Rattle.section_slices.specs.Densified.{middle_name}

-- each is a name
pub name_is : (k : ℕ) → k < MAX_PAIRS → is_name (middle_name k) ≡ true
name_is k h =
    let l : length (middle_name k) ≤ MAX_NAME_BYTES =
    omega (arith, length-decimal-le 5 (k + 1) (omega arith) (omega arith) (omega arith)) in
    ap₂ (λ (a b : Bool). a && b) (ap₂ (λ (a b : Bool). a && b) (le-leb 1 (length (middle_name k)) (omega arith))
    (le-leb (length (middle_name k)) MAX_NAME_BYTES l))
    (digits_name (decimal (k + 1)) (digits_decimal numerals (k + 1) (omega arith)))
