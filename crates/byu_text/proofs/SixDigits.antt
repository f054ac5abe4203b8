-- Fields of coordinates: their six digits, the zeros after them, and the marks between.
use Rattle.std.proofs.Common.{◌≡◌, ℕ, zero, suc, ◌+◌, ◌-◌, ◌<◌, ◌≤◌, ◌^◌, ℤ, pos, List, [], ◌∷◌, ◌++◌, length, take, drop, get_or, replicate, refl, sym, ap, ap₂, ◌∙◌, arith, append_assoc, subst}
use Rattle.std.specs.Prelude.{unsigned_abs, decimal}
use Rattle.std.proofs.lemmas.List.{take_at, drop_at, length-append, length-replicate, length-take-le, take-append-drop}
use Rattle.fku_types.specs.Points.{IsCoordinate}
use Rattle.byu_text.specs.Fields.{coordinate_field, sign_byte}
use Rattle.byu_text.proofs.FieldLaws.{digits_few, digits_some, written, written_is, coordinate_one}

-- ---- the bytes of a list, one by one

tabled : (ℕ → ℕ) → ℕ → List ℕ
tabled f zero = []
tabled f (suc n) = f 0 ∷ tabled (λ i. f (suc i)) n

listed : (xs : List ℕ) → xs ≡ tabled (λ i. get_or xs i 0) (length xs)
unfolding tabled
listed [] = refl
listed (x ∷ xs) = ap (λ (l : List ℕ). x ∷ l) (listed xs)

listed_at : (xs : List ℕ) (n : ℕ) → length xs ≡ n → xs ≡ tabled (λ i. get_or xs i 0) n
listed_at xs n l = listed xs ∙ ap (tabled (λ i. get_or xs i 0)) l

-- ---- six digits in a field

-- the bytes after the sign, where the digits end with zeros and k of the digits before these come after the point
abbrev pub form : List ℕ → ℕ → List ℕ
form six k = take 1 six ++ (46 ∷ (drop 1 six ++ (69 ∷ 43 ∷ 48 ∷ (48 + k) ∷ [])))

-- the digits of a field
abbrev pub six_of : List ℕ → List ℕ
six_of f = get_or f 1 0 ∷ get_or f 3 0 ∷ get_or f 4 0 ∷ get_or f 5 0 ∷ get_or f 6 0 ∷ get_or f 7 0 ∷ []

-- digits and the zeros after them
abbrev pub filled : List ℕ → List ℕ
filled digits = digits ++ replicate (6 - length digits) 48

length-filled : (digits : List ℕ) → length digits ≤ 6 → length (filled digits) ≡ 6
length-filled digits l = omega (
  arith,
  length-append digits (replicate (6 - length digits) 48),
  length-replicate {A = ℕ} (6 - length digits) 48,
)

written_form : (s : ℕ) (digits : List ℕ) → 0 < length digits → length digits ≤ 6
    → written s digits ≡ s ∷ form (filled digits) (length digits - 1)
written_form s [] some few = absurd (omega arith)
written_form s (d ∷ others) some few =
    let last : ℕ → List ℕ = λ k. 69 ∷ 43 ∷ 48 ∷ (48 + k) ∷ [] in
    let zeros : List ℕ = replicate (5 - length others) 48 in
    let k : length others ≡ length (d ∷ others) - 1 = omega arith in
    let z : 5 - length others ≡ 6 - length (d ∷ others) = omega arith in
    written_is s d others (omega arith)
    ∙ ap (λ (l : List ℕ). s ∷ d ∷ 46 ∷ l) (sym (append_assoc others zeros (last (length others))))
    ∙ ap₂ (λ (n m : ℕ). s ∷ d ∷ 46 ∷ ((others ++ replicate n 48) ++ last m)) z k

pub coordinate_form : (z : ℤ) → IsCoordinate z
    → coordinate_field z ≡ sign_byte z
    ∷ form (filled (decimal (unsigned_abs z))) (length (decimal (unsigned_abs z)) - 1)
coordinate_form z h = written_form (sign_byte z) (decimal (unsigned_abs z)) (digits_some z h) (digits_few z h)

-- the bytes of a field, from those after the sign
pub record Told (field six : List ℕ) (k : ℕ) : Type 0 where
  pub digits : six_of field ≡ six
  pub marks : (get_or field 2 0 ≡ 46) × (get_or field 8 0 ≡ 69) × (get_or field 9 0 ≡ 43) × (get_or field 10 0 ≡ 48)
  pub power : get_or field 11 0 ≡ 48 + k

told_form : (s : ℕ) (six : List ℕ) (k : ℕ) → length six ≡ 6 → Told (s ∷ form six k) six k
unfolding tabled
told_form s six k l = subst (λ (x : List ℕ). Told (s ∷ form x k) x k) (sym (listed_at six 6 l))
    (record { digits = refl; marks = (refl, refl, refl, refl); power = refl })

told_by : (field : List ℕ) (six : List ℕ) (k : ℕ) → length field ≡ 12 → length six ≡ 6 → drop 1 field ≡ form six k
    → Told field six k
told_by [] six k l m e = absurd (omega (arith, l))
told_by (s ∷ field) six k l m e = subst (λ (x : List ℕ). Told (s ∷ x) six k) (sym e) (told_form s six k m)

-- a coordinate's field has the digits of its size, its marks and its power
pub coordinate_told : (z : ℤ) (field : List ℕ) → IsCoordinate z → length field ≡ 12
    → drop 1 field ≡ drop 1 (coordinate_field z)
    → Told field (filled (decimal (unsigned_abs z))) (length (decimal (unsigned_abs z)) - 1)
coordinate_told z field h l e =
    told_by field (filled (decimal (unsigned_abs z))) (length (decimal (unsigned_abs z)) - 1) l
    (length-filled (decimal (unsigned_abs z)) (digits_few z h)) (e ∙ ap (drop 1) (coordinate_form z h))

-- and a field with these is that of the coordinate
form_by : (field : List ℕ) (k : ℕ) → length field ≡ 12 → (get_or field 2 0 ≡ 46) × (get_or field 8 0 ≡ 69)
    × (get_or field 9 0 ≡ 43) × (get_or field 10 0 ≡ 48) → get_or field 11 0 ≡ 48 + k
    → drop 1 field ≡ form (six_of field) k
unfolding tabled
form_by field k l m p =
    let point = m.0 in
    let letter = m.1 in
    let plus = m.2 in
    let zero = m.3 in
    let whole : drop 1 field ≡ get_or field 1 0 ∷ get_or field 2 0 ∷ get_or field 3 0 ∷ get_or field 4 0
    ∷ get_or field 5 0 ∷ get_or field 6 0 ∷ get_or field 7 0 ∷ get_or field 8 0 ∷ get_or field 9 0
    ∷ get_or field 10 0 ∷ get_or field 11 0 ∷ [] = ap (drop 1) (listed_at field 12 l) in
    cc

-- the digits before the zeros, and the zeros
pub digits_there : (z : ℤ) (six : List ℕ) (n : ℕ) → IsCoordinate z → six ≡ filled (decimal (unsigned_abs z))
    → n ≡ length (decimal (unsigned_abs z)) → (take n six ≡ decimal (unsigned_abs z))
    × (drop n six ≡ replicate (6 - n) 48)
digits_there z six n h e l =
    let digits : List ℕ = decimal (unsigned_abs z) in
    let zeros : List ℕ = replicate (6 - length digits) 48 in (
      ap (take n) e ∙ take_at digits zeros n (sym l),
      ap (drop n) e ∙ drop_at digits zeros n (sym l)
          ∙ ap (λ (i : ℕ). replicate (6 - i) 48) (sym l),
    )

pub coordinate_by : (n k : ℕ) (field : List ℕ) → n < 10 ^ 6 → length field ≡ 12 → k ≤ 5 →
    (get_or field 2 0 ≡ 46) × (get_or field 8 0 ≡ 69) × (get_or field 9 0 ≡ 43) × (get_or field 10 0 ≡ 48)
    → get_or field 11 0 ≡ 48 + k →
    take (1 + k) (six_of field) ≡ decimal n → drop (1 + k) (six_of field) ≡ replicate (5 - k) 48
    → drop 1 field ≡ drop 1 (coordinate_field (pos n))
coordinate_by n k field h l few m p some zeros =
    let h' : IsCoordinate (pos n) = omega arith in
    let size : length (decimal n) ≡ 1 + k =
    omega (arith, ap length some, length-take-le (1 + k) (six_of field) (omega arith)) in
    let six : six_of field ≡ filled (decimal n) = sym (take-append-drop (1 + k) (six_of field))
    ∙ ap₂ (λ (x y : List ℕ). x ++ y) some zeros
    ∙ ap (λ (i : ℕ). decimal n ++ replicate i 48)
    (let e : 5 - k ≡ 6 - length (decimal n) = omega (arith, size) in e) in
    form_by field k l m p ∙ ap₂ form six (let e : k ≡ length (decimal n) - 1 = omega (arith, size) in e)
    ∙ sym (ap (drop 1) (coordinate_form (pos n) h'))

-- one field has one size
pub size_one : (m n : ℕ) (field : List ℕ) → m < 10 ^ 6 → n < 10 ^ 6 → drop 1 field ≡ drop 1 (coordinate_field (pos m))
    → drop 1 field ≡ drop 1 (coordinate_field (pos n)) → m ≡ n
size_one m n field h g a b =
    let h' : IsCoordinate (pos m) = omega arith in
    let g' : IsCoordinate (pos n) = omega arith in
    let e : pos m ≡ pos n = coordinate_one (pos m) (pos n) h' g' (ap (λ (l : List ℕ). 32 ∷ l) (sym a ∙ b)) in
    cc

-- a field after its first byte
pub behind_first : (field : List ℕ) (s : ℕ) (rest : List ℕ) → 0 < length field → get_or field 0 0 ≡ s
    → drop 1 field ≡ rest → field ≡ s ∷ rest
behind_first [] s rest l b e = absurd (omega arith)
behind_first (x ∷ field) s rest l b e = ap₂ (λ (y : ℕ) (ys : List ℕ). y ∷ ys) b e
