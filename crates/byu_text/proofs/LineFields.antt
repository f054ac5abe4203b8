-- Lines at a place, and the content of their fields.
use Rattle.std.proofs.Common.{◌≡◌, ℕ, suc, ◌+◌, ◌<◌, ◌≤◌, ◌^◌, ℤ, pos, negsuc, List, [], ◌∷◌, ◌++◌, length, take, drop, get_or, append_assoc, drop-cons, refl, sym, ap, ap₂, ◌∙◌, arith, subst, All}
use Rattle.std.specs.List.{flat_map}
use Rattle.std.proofs.lemmas.List.{take_at, drop_at, drop-drop, drop_all, take_all, take-append-drop, length-append, length-drop, get_or-drop, get_or-append-add, append_cancel_right}
use Rattle.std.proofs.lemmas.List.Elements.{All-head, All-tail}
use Rattle.fku_types.specs.declared.limits.TheConstants.{MAX_MESH_VERTICES}
use Rattle.fku_types.specs.declared.points.Point.{Point}
use Rattle.fku_types.specs.Points.{IsInRange}
use Rattle.byu_text.specs.Fields.{FitsField, number_field, coordinate_field, point_fields}
use Rattle.byu_text.specs.Byu.{vertex_numbers}
use Rattle.byu_text.proofs.FieldLaws.{fits_pos, fits_negsuc, number_columns, number_one, coordinate_columns}
use Rattle.byu_text.proofs.Cancel.{split_same}
use Rattle.byu_text.specs.Pieces.{Counts, AreMeshCounts, IsKnownTriangle}
use Rattle.byu_text.proofs.FieldBytes.{point_width}
use Rattle.byu_text.proofs.LineForms.{triangle_small, three}

-- ---- at a place

-- a text that is too short there has no such line there
pub no_line : (text body more : List ℕ) (at count : ℕ) → length text ≤ at + count → length body ≡ count
    → drop at text ≡ (body ++ 10 ∷ []) ++ more → ⊥
no_line text body more at count l w e =
    absurd (omega (
      arith,
      ap length e,
      length-append (body ++ 10 ∷ []) more,
      length-append body (10 ∷ []),
      length-drop at text,
    ))

-- and neither has a text without a line feed there
pub no_feed : (text body more : List ℕ) (at count : ℕ) → (get_or text (at + count) 0 ≡ 10 → ⊥) → length body ≡ count
    → drop at text ≡ (body ++ 10 ∷ []) ++ more → ⊥
no_feed text body more at count l w e =
    l (sym (get_or-drop at text count 0)
    ∙ ap₂ (λ (xs : List ℕ) (i : ℕ). get_or xs i 0) (e ∙ append_assoc body (10 ∷ []) more)
    (let i : count ≡ length body + 0 = omega arith in i) ∙ get_or-append-add body (10 ∷ more) 0 0)

pub line_there : (text : List ℕ) (at count : ℕ) → at + count < length text → get_or text (at + count) 0 ≡ 10
    → drop at text ≡ (take count (drop at text) ++ 10 ∷ []) ++ drop (at + (count + 1)) text
line_there text at count l e =
    let rest : drop count (drop at text) ≡ 10 ∷ drop (at + (count + 1)) text =
    drop-drop count at text ∙ drop-cons text (at + count) 0 l
    ∙ ap₂ (λ (x i : ℕ). x ∷ drop i text) e (let i : suc (at + count) ≡ at + (count + 1) = omega arith in i) in
    sym (take-append-drop count (drop at text)) ∙ ap (λ (xs : List ℕ). take count (drop at text) ++ xs) rest
    ∙ sym (append_assoc (take count (drop at text)) (10 ∷ []) (drop (at + (count + 1)) text))

pub body_width : (body : List ℕ) (count : ℕ) → length (body ++ 10 ∷ []) ≡ count + 1 → length body ≡ count
body_width body count e = omega (arith, length-append body (10 ∷ []))

-- bytes at a place, before a line feed, are those of the line there
pub same_there : (text line body more : List ℕ) (at to count : ℕ) → length line ≡ count
    → drop at text ≡ (line ++ 10 ∷ []) ++ drop to text → length (body ++ 10 ∷ []) ≡ count + 1
    → drop at text ≡ (body ++ 10 ∷ []) ++ more → line ≡ body
same_there text line body more at to count l e w f =
    let same = split_same (line ++ 10 ∷ []) (body ++ 10 ∷ []) (drop to text) more
    (omega (arith, length-append line (10 ∷ []), w)) (sym e ∙ f) in
    append_cancel_right line body (10 ∷ []) same.0

-- ---- integers

-- from place n on a line has the fields of these numbers
abbrev pub FieldsAt : List ℕ → ℕ → List ℤ → Type 0
FieldsAt line n [] = drop n line ≡ []
FieldsAt line n (z ∷ zs) = (take 8 (drop n line) ≡ number_field z) × FieldsAt line (n + 8) zs

pub fields_told : (zs : List ℤ) (line : List ℕ) (n : ℕ) → All FitsField zs → drop n line ≡ flat_map number_field zs
    → FieldsAt line n zs
fields_told [] line n a e = e
fields_told (z ∷ zs) line n a e =
    let w = number_columns z (All-head FitsField z zs a) in
    let rest : List ℕ = flat_map number_field zs in (
      ap (take 8) e ∙ take_at (number_field z) rest 8 w,
      fields_told zs line (n + 8) (All-tail FitsField z zs a)
          (sym (drop-drop 8 n line) ∙ ap (drop 8) e ∙ drop_at (number_field z) rest 8 w),
    )

pub fields_written : (zs : List ℤ) (line : List ℕ) (n : ℕ) → FieldsAt line n zs → drop n line ≡ flat_map number_field zs
fields_written [] line n f = f
fields_written (z ∷ zs) line n f = sym (take-append-drop 8 (drop n line))
    ∙ ap₂ (λ (x y : List ℕ). x ++ y) f.0 (drop-drop 8 n line ∙ fields_written zs line (n + 8) f.1)

-- a field has one number
pub number_told : (m n : ℕ) (field : List ℕ) → m < 10 ^ 8 → n < 10 ^ 8 → field ≡ number_field (pos m)
    → field ≡ number_field (pos n) → m ≡ n
number_told m n field h g a b = let e : pos m ≡ pos n =
    number_one (pos m) (pos n) (fits_pos m h) (fits_pos n g) (sym a ∙ b) in cc

pub id_told : (m n : ℕ) (field : List ℕ) → m + 1 < 10 ^ 7 → n + 1 < 10 ^ 7 → field ≡ number_field (negsuc m)
    → field ≡ number_field (negsuc n) → m ≡ n
id_told m n field h g a b = let e : negsuc m ≡ negsuc n =
    number_one (negsuc m) (negsuc n) (fits_negsuc m h) (fits_negsuc n g) (sym a ∙ b) in cc

-- the content of a polygon's line
pub record TellsTriangle (h : Counts) (t line : List ℕ) : Type 0 where
  pub first : ℕ
  pub second : ℕ
  pub third : ℕ
  pub few : h.vertices ≤ MAX_MESH_VERTICES
  pub a_known : first < h.vertices
  pub b_known : second < h.vertices
  pub c_known : third < h.vertices
  pub a : take 8 line ≡ number_field (pos (first + 1))
  pub b : take 8 (drop 8 line) ≡ number_field (pos (second + 1))
  pub c : take 8 (drop 16 line) ≡ number_field (negsuc third)

pub triangle_told : (h : Counts) (t line : List ℕ) → AreMeshCounts h → IsKnownTriangle h t
    → line ≡ flat_map number_field (vertex_numbers t) → TellsTriangle h t line
triangle_told h t line i k e =
    let x = three t k.0 in
    let ids : List ℕ = x.first ∷ x.second ∷ x.third ∷ [] in
    let small : All FitsField (vertex_numbers ids) =
    subst (λ (u : List ℕ). All FitsField (vertex_numbers u)) x.is (triangle_small h t i k) in
    let known : All (λ id. id < h.vertices) ids = subst (All (λ id. id < h.vertices)) x.is k.1 in
    let f = fields_told (vertex_numbers ids) line 0 small
    (e ∙ ap (λ (u : List ℕ). flat_map number_field (vertex_numbers u)) x.is) in
    record {
      first = x.first;
      second = x.second;
      third = x.third;
      few = i.few_vertices;
      a_known =
          known 0 0 (omega arith);
      b_known = known 1 0 (omega arith);
      c_known = known 2 0 (omega arith);
      a = f.0;
      b =
          f.1.0;
      c = f.1.1.0;
    }

-- ---- points

pub point_told : (p : Point) (fields : List ℕ) → IsInRange p → fields ≡ point_fields p →
    (take 12 fields ≡ coordinate_field p.x) × (take 12 (drop 12 fields) ≡ coordinate_field p.y)
    × (take 12 (drop 24 fields) ≡ coordinate_field p.z)
point_told p fields h e =
    let X = coordinate_field p.x in
    let Y = coordinate_field p.y in
    let Z = coordinate_field p.z in
    let x : length X ≡ 12 = coordinate_columns p.x h.x in
    let y : length Y ≡ 12 = coordinate_columns p.y h.y in
    let z : length Z ≡ 12 = coordinate_columns p.z h.z in
    let behind : drop 12 fields ≡ Y ++ Z = ap (drop 12) e ∙ drop_at X (Y ++ Z) 12 x in (
      ap (take 12) e ∙ take_at X (Y ++ Z) 12 x,
      ap (take 12) behind ∙ take_at Y Z 12 y,
      ap (take 12) (sym (drop-drop 12 12 fields) ∙ ap (drop 12) behind ∙ drop_at Y Z 12 y)
          ∙ take_all 12 Z (omega (arith, z)),
    )

pub point_written : (x y z : ℤ) (fields : List ℕ) → length fields ≡ 36 → take 12 fields ≡ coordinate_field x
    → take 12 (drop 12 fields) ≡ coordinate_field y → take 12 (drop 24 fields) ≡ coordinate_field z →
    fields ≡ coordinate_field x ++ (coordinate_field y ++ coordinate_field z)
point_written x y z fields l a b c =
    let last : drop 12 (drop 12 fields) ≡ coordinate_field z = drop-drop 12 12 fields
    ∙ sym (take_all 12 (drop 24 fields) (omega (arith, length-drop 24 fields))) ∙ c in
    sym (take-append-drop 12 fields) ∙ ap₂ (λ (s t : List ℕ). s ++ t) a
    (sym (take-append-drop 12 (drop 12 fields)) ∙ ap₂ (λ (s t : List ℕ). s ++ t) b last)

pub two_told : (p q : Point) (line : List ℕ) → IsInRange p → IsInRange q → line ≡ flat_map point_fields (p ∷ q ∷ [])
    → (take 36 line ≡ point_fields p) × (take 36 (drop 36 line) ≡ point_fields q)
two_told p q line h g e =
    let P = point_fields p in
    let Q = point_fields q in (
      ap (take 36) e ∙ take_at P (Q ++ []) 36 (point_width p h),
      ap (take 36) (ap (drop 36) e ∙ drop_at P (Q ++ []) 36 (point_width p h)) ∙ take_at Q [] 36 (point_width q g),
    )

pub two_written : (p q : Point) (line : List ℕ) → length line ≡ 72 → take 36 line ≡ point_fields p
    → take 36 (drop 36 line) ≡ point_fields q → line ≡ flat_map point_fields (p ∷ q ∷ [])
two_written p q line l a b =
    let rest : drop 36 line ≡ point_fields q ++ [] = sym (take-append-drop 36 (drop 36 line))
    ∙ ap₂ (λ (s t : List ℕ). s ++ t) b (drop_all 36 (drop 36 line) (omega (arith, length-drop 36 line))) in
    sym (take-append-drop 36 line) ∙ ap₂ (λ (s t : List ℕ). s ++ t) a rest

-- two points that are all of a list
pub record Two (ps : List Point) : Type 0 where
  pub first : Point
  pub second : Point
  pub is : ps ≡ first ∷ second ∷ []

pub two_of : (ps : List Point) → length ps ≡ 2 → Two ps
two_of [] e = absurd (omega (arith, e))
two_of (p ∷ []) e = absurd (omega (arith, e))
two_of (p ∷ q ∷ []) e = record { first = p; second = q; is = refl }
two_of (p ∷ q ∷ r ∷ ps) e = absurd (omega (arith, e))

pub record One (ps : List Point) : Type 0 where
  pub first : Point
  pub is : ps ≡ first ∷ []

pub one_of : (ps : List Point) → length ps ≡ 1 → One ps
one_of [] e = absurd (omega (arith, e))
one_of (p ∷ []) e = record { first = p; is = refl }
one_of (p ∷ q ∷ ps) e = absurd (omega (arith, e))
