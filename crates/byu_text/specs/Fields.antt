-- The fields of the written text, as bytes.
use Rattle.std.specs.Prelude.{◌≡◌, ℕ, ◌+◌, ◌-◌, ◌/◌, ◌%◌, ◌≤ℤ◌, ℤ, pos, negsuc, unsigned_abs, List, [], ◌∷◌, ◌++◌, length, take, drop, replicate, codes, decimal}
use Rattle.std.specs.List.{flat_map}
use Rattle.std.specs.Fmt.{signed_decimal}
use Rattle.fku_types.specs.declared.points.Point.{Point}

-- an integer that 8 columns have room for, from -9,999,999 to 99,999,999
abbrev pub FitsField : ℤ → Type 0
FitsField z = (negsuc 9999998 ≤ℤ z) × (z ≤ℤ pos 99999999)

-- an integer right-aligned in 8 columns, with blanks before it
abbrev pub number_field : ℤ → List ℕ
number_field z = replicate (8 - length (signed_decimal z)) 32 ++ signed_decimal z

-- a blank, or a minus before a negative number
abbrev pub sign_byte : ℤ → ℕ
sign_byte (pos n) = 32
sign_byte (negsuc n) = 45

-- the last three digits of a number, and the last six, with leading zeros
abbrev pub three_digits : ℕ → List ℕ
three_digits n = (48 + n / 100 % 10) ∷ (48 + n / 10 % 10) ∷ (48 + n % 10) ∷ []

abbrev pub six_digits : ℕ → List ℕ
six_digits n = three_digits (n / 1000) ++ three_digits n

-- a number has `others` digits after its first, and `six` is the number filled up to six digits with zeros at its end
pub record IsFilled (number others six : ℕ) : Type 0 where
  pub count : others + 1 ≡ length (decimal number)
  pub digits : six_digits six ≡ decimal number ++ replicate (5 - others) 48

-- a coordinate in 12 columns: its sign, its first digit, a point, its other digits and zeros up to five, `E+0`, and how
-- many other digits it has
abbrev pub coordinate_field : ℤ → List ℕ
coordinate_field z =
    let digits = decimal (unsigned_abs z) in
    let others = length digits - 1 in
    sign_byte z ∷ (take 1 digits ++ (codes "."
    ++ (drop 1 digits ++ (replicate (5 - others) 48 ++ (codes "E+0" ++ decimal others)))))

-- the coordinates of a point
abbrev pub point_fields : Point → List ℕ
point_fields p = coordinate_field p.x ++ (coordinate_field p.y ++ coordinate_field p.z)

-- a line of integers, and a line of points
abbrev pub number_line : List ℤ → List ℕ
number_line numbers = flat_map number_field numbers ++ codes "\n"

abbrev pub coordinates_line : List Point → List ℕ
coordinates_line points = flat_map point_fields points ++ codes "\n"
