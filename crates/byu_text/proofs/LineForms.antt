-- The four kinds of lines: their widths, that they are lines, and that they determine what is in them.
use Rattle.std.proofs.Common.{◌≡◌, ℕ, suc, ◌+◌, ◌-◌, ◌*◌, ◌<◌, ◌≤◌, ℤ, pos, negsuc, List, [], ◌∷◌, length, refl, sym, ap, ap₂, ◌∙◌, arith, subst, All}
use Rattle.std.proofs.lemmas.List.Elements.{All-nil, All-cons}
use Rattle.fku_types.specs.declared.limits.TheConstants.{MAX_MESH_VERTICES}
use Rattle.byu_text.specs.Byu.{vertex_numbers, polygon_line}
use Rattle.byu_text.specs.Fields.{FitsField}
use Rattle.byu_text.proofs.FieldLaws.{fits_pos, fits_negsuc}
use Rattle.byu_text.specs.Pieces.{Counts, mesh_head_line, AreMeshCounts, IsKnownTriangle, size_line}
use Rattle.byu_text.proofs.TextLines.{IsLine}
use Rattle.byu_text.proofs.FieldBytes.{number_line_is, number_line_width, number_line_one}

-- ---- counts

abbrev pub head_numbers : Counts → List ℤ
head_numbers h = pos h.parts ∷ pos h.vertices ∷ pos h.polygons ∷ pos (3 * h.polygons) ∷ []

pub head_small : (h : Counts) → AreMeshCounts h → All FitsField (head_numbers h)
head_small h i =
    let few = i.few_parts in
    let vertices = i.few_vertices in
    let polygons = i.few_polygons in
    All-cons FitsField (pos h.parts) (pos h.vertices ∷ pos h.polygons ∷ pos (3 * h.polygons) ∷ [])
    (fits_pos h.parts (omega arith))
    (All-cons FitsField (pos h.vertices) (pos h.polygons ∷ pos (3 * h.polygons) ∷ [])
    (fits_pos h.vertices (omega arith))
    (All-cons FitsField (pos h.polygons) (pos (3 * h.polygons) ∷ []) (fits_pos h.polygons (omega arith))
    (All-cons FitsField (pos (3 * h.polygons)) [] (fits_pos (3 * h.polygons) (omega arith)) (All-nil FitsField))))

pub head_is : (h : Counts) → AreMeshCounts h → IsLine (mesh_head_line h)
head_is h i = number_line_is (head_numbers h) (head_small h i)

pub head_width : (h : Counts) → AreMeshCounts h → length (mesh_head_line h) ≡ 33
head_width h i = number_line_width (head_numbers h) (head_small h i)

counts_same : (h g : Counts) → h.parts ≡ g.parts → h.vertices ≡ g.vertices → h.polygons ≡ g.polygons → h ≡ g
counts_same h g p v t =
    ap₂ (λ (a b : ℕ). record { parts = a; vertices = b; polygons = h.polygons }) p v
    ∙ ap (λ (c : ℕ). record { parts = g.parts; vertices = g.vertices; polygons = c }) t

numbers_same : (a b c d x y z w : ℕ)
    → ◌≡◌ {A = List ℤ} (pos a ∷ pos b ∷ pos c ∷ pos d ∷ []) (pos x ∷ pos y ∷ pos z ∷ pos w ∷ []) → (a ≡ x) × (b ≡ y)
    × (c ≡ z)
numbers_same a b c d x y z w e = (cc, cc, cc)

pub head_one : (h g : Counts) → AreMeshCounts h → AreMeshCounts g → mesh_head_line h ≡ mesh_head_line g → h ≡ g
head_one h g i j e =
    let r = numbers_same h.parts h.vertices h.polygons (3 * h.polygons) g.parts g.vertices g.polygons (3 * g.polygons)
    (number_line_one (head_numbers h) (head_numbers g) (head_small h i) (head_small g j) refl e) in
    counts_same h g r.0 r.1 r.2

-- ---- sizes

pub size_small : (next n : ℕ) → next + n ≤ 10000000 → All FitsField (pos next ∷ pos (next + n - 1) ∷ [])
size_small next n l = All-cons FitsField (pos next) (pos (next + n - 1) ∷ []) (fits_pos next (omega arith))
    (All-cons FitsField (pos (next + n - 1)) [] (fits_pos (next + n - 1) (omega arith)) (All-nil FitsField))

pub size_is : (next n : ℕ) → next + n ≤ 10000000 → IsLine (size_line next n)
size_is next n l = number_line_is (pos next ∷ pos (next + n - 1) ∷ []) (size_small next n l)

pub size_width : (next n : ℕ) → next + n ≤ 10000000 → length (size_line next n) ≡ 17
size_width next n l = number_line_width (pos next ∷ pos (next + n - 1) ∷ []) (size_small next n l)

pub size_one : (next m n : ℕ) → next + m ≤ 10000000 → next + n ≤ 10000000 → 1 ≤ m → 1 ≤ n
    → size_line next m ≡ size_line next n → m ≡ n
size_one next m n l k a b e =
    let same = number_line_one (pos next ∷ pos (next + m - 1) ∷ []) (pos next ∷ pos (next + n - 1) ∷ [])
    (size_small next m l) (size_small next n k) refl e in
    let last : next + m - 1 ≡ next + n - 1 = cc in
    omega arith

-- ---- polygons

ids_small : (n : ℕ) (a b c : ℕ) → a < MAX_MESH_VERTICES → b < MAX_MESH_VERTICES → c < MAX_MESH_VERTICES
    → All FitsField (vertex_numbers (a ∷ b ∷ c ∷ []))
ids_small n a b c i j k = All-cons FitsField (pos (a + 1)) (pos (b + 1) ∷ negsuc c ∷ [])
    (fits_pos (a + 1) (omega arith)) (All-cons FitsField (pos (b + 1)) (negsuc c ∷ []) (fits_pos (b + 1) (omega arith))
    (All-cons FitsField (negsuc c) [] (fits_negsuc c (omega arith)) (All-nil FitsField)))

-- three ids
pub record Three (t : List ℕ) : Type 0 where
  pub first : ℕ
  pub second : ℕ
  pub third : ℕ
  pub is : t ≡ first ∷ second ∷ third ∷ []

pub three : (t : List ℕ) → length t ≡ 3 → Three t
three [] e = absurd (omega (arith, e))
three (a ∷ []) e = absurd (omega (arith, e))
three (a ∷ b ∷ []) e = absurd (omega (arith, e))
three (a ∷ b ∷ c ∷ []) e = record { first = a; second = b; third = c; is = refl }
three (a ∷ b ∷ c ∷ d ∷ t) e = absurd (omega (arith, e))

pub triangle_small : (h : Counts) (t : List ℕ) → AreMeshCounts h → IsKnownTriangle h t
    → All FitsField (vertex_numbers t)
triangle_small h t i k =
    let r = three t (k.0) in
    let few = i.few_vertices in
    let known : All (λ id. id < h.vertices) (r.first ∷ r.second ∷ r.third ∷ []) =
    subst (All (λ id. id < h.vertices)) r.is k.1 in
    let a : r.first < h.vertices = known 0 0 (omega arith) in
    let b : r.second < h.vertices = known 1 0 (omega arith) in
    let c : r.third < h.vertices = known 2 0 (omega arith) in
    subst (λ (x : List ℕ). All FitsField (vertex_numbers x)) (sym r.is)
    (ids_small h.vertices r.first r.second r.third (omega arith) (omega arith) (omega arith))

length-numbers : (t : List ℕ) → length (vertex_numbers t) ≡ length t
length-numbers [] = refl
length-numbers (a ∷ []) = refl
length-numbers (a ∷ b ∷ t) = ap suc (length-numbers (b ∷ t))

pub triangle_is : (h : Counts) (t : List ℕ) → AreMeshCounts h → IsKnownTriangle h t → IsLine (polygon_line t)
triangle_is h t i k = number_line_is (vertex_numbers t) (triangle_small h t i k)

pub triangle_width : (h : Counts) (t : List ℕ) → AreMeshCounts h → IsKnownTriangle h t → length (polygon_line t) ≡ 25
triangle_width h t i k = omega (
  arith,
  number_line_width (vertex_numbers t) (triangle_small h t i k),
  length-numbers t,
  k.0,
)

numbers_one : (s t : List ℕ) → length s ≡ length t → vertex_numbers s ≡ vertex_numbers t → s ≡ t
numbers_one [] [] l e = refl
numbers_one [] (b ∷ t) l e = absurd (omega (arith, l))
numbers_one (a ∷ s) [] l e = absurd (omega (arith, l))
numbers_one (a ∷ []) (b ∷ []) l e = let z : negsuc a ≡ negsuc b = cc in let n : a ≡ b = cc in ap (λ (x : ℕ). x ∷ []) n
numbers_one (a ∷ []) (b ∷ c ∷ t) l e = absurd (omega (arith, l))
numbers_one (a ∷ c ∷ s) (b ∷ []) l e = absurd (omega (arith, l))
numbers_one (a ∷ c ∷ s) (b ∷ d ∷ t) l e =
    let n : a + 1 ≡ b + 1 = cc in
    let same : a ≡ b = omega arith in
    let rest : vertex_numbers (c ∷ s) ≡ vertex_numbers (d ∷ t) = cc in
    ap₂ (λ (x : ℕ) (xs : List ℕ). x ∷ xs) same (numbers_one (c ∷ s) (d ∷ t) (omega (arith, l)) rest)

pub triangle_one : (h : Counts) (s t : List ℕ) → AreMeshCounts h → IsKnownTriangle h s → IsKnownTriangle h t
    → polygon_line s ≡ polygon_line t → s ≡ t
triangle_one h s t i j k e =
    let l : length s ≡ length t = omega (arith, j.0, k.0) in
    numbers_one s t l (number_line_one (vertex_numbers s) (vertex_numbers t) (triangle_small h s i j)
    (triangle_small h t i k) (length-numbers s ∙ l ∙ sym (length-numbers t)) e)
