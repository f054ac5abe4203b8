-- The numbers that a typed getter of `clap` reads from a value that passed its range.
use Rattle.std.proofs.Common.{◌≡◌, ◌∙◌, ◌≤◌, ap, sym, subst, ℕ, ℤ, [], Option, Some, None, Result, Ok, Err, refl, arith, pos, negsuc, w32, FitsSigned, unsigned_abs}
use Rattle.std.specs.Prelude.{◌≤ℤ◌, unwrap_or}
use Rattle.std.specs.Str.Parse.{ParsesSigned, ParsesUnsigned, digits_value, signed_digits_value, without_leading_plus}
use Rattle.std.proofs.lemmas.Int.{fits_signed_from_abs, ints}
use Rattle.clap.specs.Words.{ReadsOne, Text, one_of, one_text, rows_of, without_minus}
use Rattle.clap.specs.declared.builder.value_parser.ValueParser.TheVariants.{Signed}
use Rattle.clap.specs.declared.parser.matches.Found.{Found}
use Rattle.clap.proofs.WalkLemmas.{one_text-rows}
use Rattle.clap.proofs.CallerReads.{signed_reads}
use Rattle.surface_cli.specs.Arguments.{integer_of, natural_of}
use Rattle.surface_cli.specs.Taking.{HasNatural, HasValue}

value_read : (E : Type 0) (G : Text → Result ℕ E → Type 0) (t : Text) (n : ℕ) → G t (Ok n)
    → ((u : Text) (x : Result ℕ E) → G u x → ParsesUnsigned 32 10 u x)
    → n ≡ digits_value 10 (without_leading_plus t)
value_read E G t n read only = (only t (Ok n) read).1

text_of : (f : Found) (id : Text) (t : Text) → one_text f id ≡ Some t → t ≡ unwrap_or (one_of id (rows_of f)) []
text_of f id t is = ap (λ (o : Option Text). unwrap_or o []) (sym is ∙ one_text-rows f id)

-- `get_one::<u32>` finds the number of the matches, and it is in the range
pub natural_read : (E : Type 0) (G : Text → Result ℕ E → Type 0) (f : Found) (id : Text) (least most : ℕ) (r : Option ℕ)
    → HasNatural least most id f → ((t : Text) → one_text f id ≡ Some t → ReadsOne G t r)
    → ((u : Text) (x : Result ℕ E) → G u x → ParsesUnsigned 32 10 u x)
    → (n : ℕ) × (r ≡ Some n) × (n ≡ natural_of id (rows_of f)) × (least ≤ n) × (n ≤ most)
natural_read E G f id least most r has value only =
    let t = has.1.0 in
    let read : ReadsOne G (without_minus t) r = value (without_minus t) has.1.1 in
    let got = signed_reads E G 32 least most t r read only has.0 has.1.2 in
    let of_n : G (without_minus t) (Ok got.0) = subst (λ (o : Option ℕ). ReadsOne G (without_minus t) o) got.1 read in (
      got.0,
      got.1,
      value_read E G (without_minus t) got.0 of_n only
          ∙ ap (λ (u : Text). digits_value 10 (without_leading_plus u)) (text_of f id (without_minus t) has.1.1),
      got.2,
      got.3,
    )

small : (z : ℤ) → negsuc 999998 ≤ℤ z → z ≤ℤ pos 999999 → unsigned_abs z ≤ 999999
small z low high = omega (arith, ints)

-- `get_one::<i32>` finds the height of the matches, and it is in the range
pub height_read : (E : Type 0) (G : Text → Result ℤ E → Type 0) (f : Found) (id : Text) (r : Option ℤ)
    → HasValue (Signed (negsuc 999998) (pos 999999)) id f → ((t : Text) → one_text f id ≡ Some t → ReadsOne G t r)
    → ((u : Text) (x : Result ℤ E) → G u x → ParsesSigned w32 10 u x)
    → (z : ℤ) × (r ≡ Some z) × (z ≡ integer_of id (rows_of f)) × (unsigned_abs z ≤ 999999)
height_read E G f id r has value only = go r (value has.0 has.1)
  where
    go : (o : Option ℤ) → ReadsOne G has.0 o → (z : ℤ) × (o ≡ Some z) × (z ≡ integer_of id (rows_of f))
        × (unsigned_abs z ≤ 999999)
    go (Some z) read =
        let is : z ≡ signed_digits_value 10 has.0 = (only has.0 (Ok z) read).1 in
        let bound = small (signed_digits_value 10 has.0) has.2.2 has.2.3 in
        (z, refl, is ∙ ap (signed_digits_value 10) (text_of f id has.0 has.1), rw is bound)
    go None read =
        let bound = small (signed_digits_value 10 has.0) has.2.2 has.2.3 in
        let fits : FitsSigned w32 (signed_digits_value 10 has.0) =
        fits_signed_from_abs w32 (signed_digits_value 10 has.0) (omega arith) in
        absurd (only has.0 (Err read.0) read.1 (has.2.0, fits))
