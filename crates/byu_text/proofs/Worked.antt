-- Worked texts, by computation.
use Rattle.std.proofs.Common.{◌≡◌, pos, negsuc, [], ◌∷◌, ◌++◌, refl}
use Rattle.std.specs.Prelude.{codes}
use Rattle.std.specs.Fmt.{digits}
use Rattle.triangle_meshes.specs.Meshes.{Surface}
use Rattle.byu_text.specs.Fields.{number_field, three_digits, six_digits, IsFilled, coordinate_field}
use Rattle.byu_text.specs.Byu.{byu_of}

-- integers right-aligned in their columns
numbers : (number_field (pos 0) ≡ codes "       0") × (number_field (negsuc 11) ≡ codes "     -12")
    × (number_field (pos 99999999) ≡ codes "99999999") × (number_field (negsuc 9999998) ≡ codes "-9999999")
unfolding digits
numbers = (refl, refl, refl, refl)

coordinates : (coordinate_field (pos 0) ≡ codes " 0.00000E+00") × (coordinate_field (pos 7) ≡ codes " 7.00000E+00")
    × (coordinate_field (negsuc 9) ≡ codes "-1.00000E+01") × (coordinate_field (pos 12345) ≡ codes " 1.23450E+04")
    × (coordinate_field (pos 999999) ≡ codes " 9.99999E+05")
    × (coordinate_field (negsuc 999998) ≡ codes "-9.99999E+05")
unfolding digits
coordinates = (refl, refl, refl, refl, refl, refl)

-- three digits, six digits, and a number filled up with zeros
some_digits : (three_digits 345007 ≡ codes "007") × (six_digits 12345 ≡ codes "012345")
some_digits = (refl, refl)

filled : IsFilled 7 0 700000 × IsFilled 1906 3 190600
unfolding digits
filled = (record { count = refl; digits = refl }, record { count = refl; digits = refl })

-- a single triangle of the greatest coordinates, capped above and below
abbrev triangle : Surface
triangle = record {
  vertices = record { x = negsuc 999998; y = negsuc 999998; z = negsuc 999998 }
      ∷ record { x = pos 999999; y = negsuc 999998; z = negsuc 999998 }
      ∷ record { x = pos 0; y = pos 999999; z = negsuc 999998 } ∷ [];
  parts = ((0 ∷ 2 ∷ 1 ∷ []) ∷ (0 ∷ 1 ∷ 2 ∷ []) ∷ []) ∷ [];
}

triangle_written : byu_of triangle ≡ codes "       1       3       2       6\n"
    ++ (codes "       1       2\n" ++ (codes
    "-9.99999E+05-9.99999E+05-9.99999E+05 9.99999E+05-9.99999E+05-9.99999E+05\n"
    ++ (codes " 0.00000E+00 9.99999E+05-9.99999E+05\n"
    ++ (codes "       1       3      -2\n" ++ (codes "       1       2      -3\n")))))
unfolding digits
triangle_written = refl
