-- Lines of fields: a line feed is only their last byte, they have fixed widths, and they determine what is in them.
use Rattle.std.proofs.Common.{◌≡◌, ℕ, suc, ◌+◌, ◌-◌, ◌*◌, ◌<◌, ◌^◌, ◌%◌, ℤ, pos, negsuc, List, [], ◌∷◌, ◌++◌, length, take, drop, replicate, refl, sym, ap, ap₂, ◌∙◌, arith, All, subst}
use Rattle.std.specs.Prelude.{unsigned_abs, decimal}
use Rattle.std.specs.List.{flat_map}
use Rattle.std.specs.Fmt.{signed_decimal}
use Rattle.std.proofs.lemmas.Fmt.{decimal_by_steps}
use Rattle.std.proofs.lemmas.List.{length-append, append_cancel_right, take-append-drop}
use Rattle.std.proofs.lemmas.List.Elements.{All-head, All-tail, All-replicate, recursion_from_All}
use Rattle.fku_types.specs.declared.points.Point.{Point}
use Rattle.fku_types.specs.Points.{IsCoordinate, IsInRange}
use Rattle.fku_types.proofs.ListLaws.{all_join, all_front, all_rest}
use Rattle.byu_text.specs.Fields.{FitsField, number_field, sign_byte, coordinate_field, point_fields, number_line, coordinates_line}
use Rattle.byu_text.proofs.FieldLaws.{pos_below, negsuc_below, number_columns, number_one, coordinate_columns, coordinate_one, digits_few}
use Rattle.byu_text.proofs.Cancel.{split_same}
use Rattle.byu_text.proofs.TextLines.{IsBare, IsLine, IsOther}

-- ---- no line feeds

bare-replicate : (n b : ℕ) → IsOther b → IsBare (replicate n b)
bare-replicate n b h = recursion_from_All IsOther (replicate n b) (All-replicate IsOther n b h)

bare_decimal : (n : ℕ) → n < 2 ^ 64 → IsBare (decimal n)
bare_decimal n h = decimal_by_steps (λ (n : ℕ) (ds : List ℕ). IsBare ds) (λ n l. (λ e. absurd (omega (arith, e)), tt))
    (λ n ds l a. all_join IsOther ds ((48 + n % 10) ∷ []) a (λ e. absurd (omega (arith, e)), tt)) n h

bare_signed : (z : ℤ) → FitsField z → IsBare (signed_decimal z)
bare_signed (pos n) h = bare_decimal n (omega (arith, pos_below n h))
bare_signed (negsuc n) h = (λ e. absurd (omega (arith, e)), bare_decimal (suc n) (omega (arith, negsuc_below n h)))

bare_number : (z : ℤ) → FitsField z → IsBare (number_field z)
bare_number z h = all_join IsOther (replicate (8 - length (signed_decimal z)) 32) (signed_decimal z)
    (bare-replicate (8 - length (signed_decimal z)) 32 (λ e. absurd (omega (arith, e)))) (bare_signed z h)

bare_sign : (z : ℤ) → sign_byte z ≡ 10 → ⊥
bare_sign (pos n) e = absurd (omega (arith, e))
bare_sign (negsuc n) e = absurd (omega (arith, e))

bare_coordinate : (z : ℤ) → IsCoordinate z → IsBare (coordinate_field z)
bare_coordinate z h =
    let digits : List ℕ = decimal (unsigned_abs z) in
    let others : ℕ = length digits - 1 in
    let ne : (b : ℕ) → 10 < b → b ≡ 10 → ⊥ = λ b l e. absurd (omega (arith, e)) in
    let bare : IsBare digits = bare_decimal (unsigned_abs z) (omega arith) in
    let parts : IsBare (take 1 digits ++ drop 1 digits) = subst IsBare (sym (take-append-drop 1 digits)) bare in
    let last : IsBare (69 ∷ 43 ∷ 48 ∷ decimal others) = (
      ne 69 (omega arith),
      (
        ne 43 (omega arith),
        (ne 48 (omega arith), bare_decimal others (omega (arith, digits_few z h))),
      ),
    ) in (
      bare_sign z,
      all_join IsOther (take 1 digits) (46
          ∷ (drop 1 digits ++ (replicate (5 - others) 48 ++ (69 ∷ 43 ∷ 48 ∷ decimal others))))
          (all_front IsOther (take 1 digits) (drop 1 digits) parts) (
            ne 46 (omega arith),
            all_join IsOther (drop 1 digits) (replicate (5 - others) 48 ++ (69 ∷ 43 ∷ 48 ∷ decimal others))
                (all_rest IsOther (take 1 digits) (drop 1 digits) parts)
                (all_join IsOther (replicate (5 - others) 48) (69 ∷ 43 ∷ 48 ∷ decimal others)
                (bare-replicate (5 - others) 48 (ne 48 (omega arith))) last),
          ),
    )

bare_point : (p : Point) → IsInRange p → IsBare (point_fields p)
bare_point p h = all_join IsOther (coordinate_field p.x) (coordinate_field p.y ++ coordinate_field p.z)
    (bare_coordinate p.x h.x) (all_join IsOther (coordinate_field p.y) (coordinate_field p.z) (bare_coordinate p.y h.y)
    (bare_coordinate p.z h.z))

bare_numbers : (zs : List ℤ) → All FitsField zs → IsBare (flat_map number_field zs)
bare_numbers [] a = tt
bare_numbers (z ∷ zs) a = all_join IsOther (number_field z) (flat_map number_field zs)
    (bare_number z (All-head FitsField z zs a)) (bare_numbers zs (All-tail FitsField z zs a))

bare_points : (ps : List Point) → All IsInRange ps → IsBare (flat_map point_fields ps)
bare_points [] a = tt
bare_points (p ∷ ps) a = all_join IsOther (point_fields p) (flat_map point_fields ps)
    (bare_point p (All-head IsInRange p ps a)) (bare_points ps (All-tail IsInRange p ps a))

pub number_line_is : (zs : List ℤ) → All FitsField zs → IsLine (number_line zs)
number_line_is zs a = record { body = flat_map number_field zs; bare = bare_numbers zs a; is = refl }

pub point_line_is : (ps : List Point) → All IsInRange ps → IsLine (coordinates_line ps)
point_line_is ps a = record { body = flat_map point_fields ps; bare = bare_points ps a; is = refl }

-- ---- widths

numbers_width : (zs : List ℤ) → All FitsField zs → length (flat_map number_field zs) ≡ 8 * length zs
numbers_width [] a = refl
numbers_width (z ∷ zs) a = omega (
  arith,
  length-append (number_field z) (flat_map number_field zs),
  number_columns z (All-head FitsField z zs a),
  numbers_width zs (All-tail FitsField z zs a),
)

pub number_line_width : (zs : List ℤ) → All FitsField zs → length (number_line zs) ≡ 8 * length zs + 1
number_line_width zs a = omega (arith, length-append (flat_map number_field zs) (10 ∷ []), numbers_width zs a)

pub point_width : (p : Point) → IsInRange p → length (point_fields p) ≡ 36
point_width p h = omega (
  arith,
  length-append (coordinate_field p.x) (coordinate_field p.y ++ coordinate_field p.z),
  length-append (coordinate_field p.y) (coordinate_field p.z),
  coordinate_columns p.x h.x,
  coordinate_columns p.y h.y,
  coordinate_columns p.z h.z,
)

points_width : (ps : List Point) → All IsInRange ps → length (flat_map point_fields ps) ≡ 36 * length ps
points_width [] a = refl
points_width (p ∷ ps) a = omega (
  arith,
  length-append (point_fields p) (flat_map point_fields ps),
  point_width p (All-head IsInRange p ps a),
  points_width ps (All-tail IsInRange p ps a),
)

pub point_line_width : (ps : List Point) → All IsInRange ps → length (coordinates_line ps) ≡ 36 * length ps + 1
point_line_width ps a = omega (arith, length-append (flat_map point_fields ps) (10 ∷ []), points_width ps a)

-- ---- one text for each

numbers_one : (ys zs : List ℤ) → All FitsField ys → All FitsField zs → length ys ≡ length zs
    → flat_map number_field ys ≡ flat_map number_field zs → ys ≡ zs
numbers_one [] [] a b l e = refl
numbers_one [] (z ∷ zs) a b l e = absurd (omega (arith, l))
numbers_one (y ∷ ys) [] a b l e = absurd (omega (arith, l))
numbers_one (y ∷ ys) (z ∷ zs) a b l e =
    let hy = All-head FitsField y ys a in
    let hz = All-head FitsField z zs b in
    let parts = split_same (number_field y) (number_field z) (flat_map number_field ys) (flat_map number_field zs)
    (number_columns y hy ∙ sym (number_columns z hz)) e in
    ap₂ (λ (h : ℤ) (t : List ℤ). h ∷ t) (number_one y z hy hz parts.0)
    (numbers_one ys zs (All-tail FitsField y ys a) (All-tail FitsField z zs b) (omega (arith, l)) parts.1)

pub number_line_one : (ys zs : List ℤ) → All FitsField ys → All FitsField zs → length ys ≡ length zs
    → number_line ys ≡ number_line zs → ys ≡ zs
number_line_one ys zs a b l e = numbers_one ys zs a b l
    (append_cancel_right (flat_map number_field ys) (flat_map number_field zs) (10 ∷ []) e)

point_one : (p q : Point) → IsInRange p → IsInRange q → point_fields p ≡ point_fields q → p ≡ q
point_one p q h g e =
    let x = split_same (coordinate_field p.x) (coordinate_field q.x) (coordinate_field p.y ++ coordinate_field p.z)
    (coordinate_field q.y ++ coordinate_field q.z) (coordinate_columns p.x h.x ∙ sym (coordinate_columns q.x g.x)) e
    in
    let y = split_same (coordinate_field p.y) (coordinate_field q.y) (coordinate_field p.z) (coordinate_field q.z)
    (coordinate_columns p.y h.y ∙ sym (coordinate_columns q.y g.y)) x.1 in
    made p q (coordinate_one p.x q.x h.x g.x x.0) (coordinate_one p.y q.y h.y g.y y.0)
    (coordinate_one p.z q.z h.z g.z y.1)
  where
    made : (p q : Point) → p.x ≡ q.x → p.y ≡ q.y → p.z ≡ q.z → p ≡ q
    made p q a b c = ap₂ (λ (x y : ℤ). record { x = x; y = y; z = p.z }) a b
        ∙ ap (λ (z : ℤ). record { x = q.x; y = q.y; z = z }) c

points_one : (ps qs : List Point) → All IsInRange ps → All IsInRange qs → length ps ≡ length qs
    → flat_map point_fields ps ≡ flat_map point_fields qs → ps ≡ qs
points_one [] [] a b l e = refl
points_one [] (q ∷ qs) a b l e = absurd (omega (arith, l))
points_one (p ∷ ps) [] a b l e = absurd (omega (arith, l))
points_one (p ∷ ps) (q ∷ qs) a b l e =
    let hp = All-head IsInRange p ps a in
    let hq = All-head IsInRange q qs b in
    let parts = split_same (point_fields p) (point_fields q) (flat_map point_fields ps) (flat_map point_fields qs)
    (point_width p hp ∙ sym (point_width q hq)) e in
    ap₂ (λ (h : Point) (t : List Point). h ∷ t) (point_one p q hp hq parts.0)
    (points_one ps qs (All-tail IsInRange p ps a) (All-tail IsInRange q qs b) (omega (arith, l)) parts.1)

pub point_line_one : (ps qs : List Point) → All IsInRange ps → All IsInRange qs → length ps ≡ length qs
    → coordinates_line ps ≡ coordinates_line qs → ps ≡ qs
point_line_one ps qs a b l e = points_one ps qs a b l
    (append_cancel_right (flat_map point_fields ps) (flat_map point_fields qs) (10 ∷ []) e)
