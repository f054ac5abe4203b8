-- The names of a stack's contours.
use Rattle.std.proofs.Common.{◌≡◌, ℕ, ◌<◌, ◌≤◌, Bool, true, ◌&&◌, length, drop, ap, ap₂, arith}
use Rattle.std.specs.Prelude.{decimal}
use Rattle.std.proofs.lemmas.Bool.{le-leb}
use Rattle.std.proofs.lemmas.Fmt.{digits_decimal, decimal_injective, length-decimal-le}
use Rattle.fku_types.specs.declared.limits.TheConstants.{MAX_NAME_BYTES}
use Rattle.fku_types.specs.Names.{is_name}
use Rattle.text_io.proofs.DigitNames.{digits_name}
use Rattle.text_io.proofs.WrittenLines.{numerals}
use Rattle.demo_stack.specs.Demo.{name}

-- each is a name
pub name_is : (s : ℕ) → s < 64 → is_name (name s) ≡ true
name_is s h =
    let l : length (name s) ≤ MAX_NAME_BYTES =
    omega (arith, length-decimal-le 2 s (omega arith) (omega arith) (omega arith)) in
    ap₂ (λ (a b : Bool). a && b) (ap₂ (λ (a b : Bool). a && b) (le-leb 1 (length (name s)) (omega arith))
    (le-leb (length (name s)) MAX_NAME_BYTES l)) (digits_name (decimal s) (digits_decimal numerals s (omega arith)))

-- no two are equal
pub name_one : (s t : ℕ) → s < 64 → t < 64 → name s ≡ name t → s ≡ t
name_one s t h k e = decimal_injective s t (omega arith) (omega arith) (ap (drop 1) e)
