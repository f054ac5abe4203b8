-- A mesh of given pieces, and its lines.
use Rattle.std.proofs.Common.{◌≡◌, ℕ, suc, ◌≤◌, List, [], ◌∷◌, ◌++◌, length, take, drop, map, refl, sym, ap, ap₂, ◌∙◌, arith, All}
use Rattle.std.specs.Prelude.{sum, sum_by}
use Rattle.std.specs.List.{flat_map}
use Rattle.std.proofs.lemmas.List.{length-take, length-drop, take-append-drop, nil_from_length}
use Rattle.std.proofs.lemmas.List.Sums.{sum-map, sum_by-cons}
use Rattle.std.proofs.lemmas.List.Elements.{All-nil, All-cons, All-head, All-tail, All-take, All-drop}
use Rattle.fku_types.specs.declared.points.Point.{Point}
use Rattle.triangle_meshes.specs.Meshes.{Surface}
use Rattle.byu_text.specs.Reading.{IsMesh}
use Rattle.byu_text.specs.Pieces.{Counts, IsKnownTriangle}
use Rattle.byu_text.specs.Stages.{parts_in}
use Rattle.byu_text.proofs.Written.{polygons_of, head_of, lines_with, surface_lines, HasPieces}

length-parts_in : (sizes : List ℕ) (ts : List (List ℕ)) → length (parts_in sizes ts) ≡ length sizes
length-parts_in [] ts = refl
length-parts_in (n ∷ ns) ts = ap suc (length-parts_in ns (drop n ts))

sizes_in : (sizes : List ℕ) (ts : List (List ℕ)) → sum sizes ≤ length ts → map length (parts_in sizes ts) ≡ sizes
sizes_in [] ts l = refl
sizes_in (n ∷ ns) ts l =
    let s = sum_by-cons (λ (x : ℕ). x) n ns in
    ap₂ (λ (x : ℕ) (xs : List ℕ). x ∷ xs) (omega (arith, length-take n ts, s))
    (sizes_in ns (drop n ts) (omega (arith, length-drop n ts, s)))

polygons_in : (sizes : List ℕ) (ts : List (List ℕ)) → sum sizes ≡ length ts
    → flat_map (λ part. part) (parts_in sizes ts) ≡ ts
polygons_in [] ts l = sym (nil_from_length ts (sym l))
polygons_in (n ∷ ns) ts l =
    let s = sum_by-cons (λ (x : ℕ). x) n ns in
    ap (λ (x : List (List ℕ)). take n ts ++ x) (polygons_in ns (drop n ts) (omega (arith, length-drop n ts, s)))
    ∙ take-append-drop n ts

all_in : (P : List ℕ → Type 0) (sizes : List ℕ) (ts : List (List ℕ)) → All P ts → All (All P) (parts_in sizes ts)
all_in P [] ts a = All-nil (All P)
all_in P (n ∷ ns) ts a = All-cons (All P) (take n ts) (parts_in ns (drop n ts)) (All-take P n ts a)
    (all_in P ns (drop n ts) (All-drop P n ts a))

some_in : (sizes : List ℕ) (ts : List (List ℕ)) → All (λ n. 1 ≤ n) sizes → sum sizes ≤ length ts
    → All (λ part. 1 ≤ length part) (parts_in sizes ts)
some_in [] ts a l = All-nil (λ part. 1 ≤ length part)
some_in (n ∷ ns) ts a l =
    let s = sum_by-cons (λ (x : ℕ). x) n ns in
    let some : 1 ≤ n = All-head (λ n. 1 ≤ n) n ns a in
    All-cons (λ part. 1 ≤ length part) (take n ts) (parts_in ns (drop n ts)) (omega (arith, length-take n ts))
    (some_in ns (drop n ts) (All-tail (λ n. 1 ≤ n) n ns a) (omega (arith, length-drop n ts)))

abbrev pub made : List ℕ → List Point → List (List ℕ) → Surface
made sizes points triangles = record { vertices = points; parts = parts_in sizes triangles }

count_made : (h : Counts) (sizes : List ℕ) (points : List Point) (triangles : List (List ℕ))
    → HasPieces h sizes points triangles → sum_by length (parts_in sizes triangles) ≡ h.polygons
count_made h sizes points triangles p =
    sym (sum-map length (parts_in sizes triangles))
    ∙ ap sum (sizes_in sizes triangles (omega (arith, p.sum, p.polygons))) ∙ p.sum

pub made_is : (h : Counts) (sizes : List ℕ) (points : List Point) (triangles : List (List ℕ))
    → HasPieces h sizes points triangles → IsMesh (made sizes points triangles)
made_is h sizes points triangles p =
    let i = p.head in
    let parts = length-parts_in sizes triangles ∙ p.parts in
    let fit : sum sizes ≤ length triangles = omega (arith, p.sum, p.polygons) in
    let known = all_in (IsKnownTriangle h) sizes triangles p.known in
    record {
      valid = record {
        some_vertex = omega (arith, i.some_vertex, p.vertices);
        few_vertices = omega (arith, i.few_vertices, p.vertices);
        in_range = p.range;
        some_part = omega (arith, i.some_part, parts);
        few_parts = omega (arith, i.few_parts, parts);
        some_triangle = some_in sizes triangles p.some fit;
        known_ids = λ k d l k' d' l' k'' d'' l''. omega (arith, (known k d l k' d' l').1 k'' d'' l'', p.vertices);
        few_triangles = omega (arith, i.few_polygons, count_made h sizes points triangles p);
      };
      triangles = λ k d l k' d' l'. (known k d l k' d' l').0;
    }

head_made : (h : Counts) (sizes : List ℕ) (points : List Point) (triangles : List (List ℕ))
    → HasPieces h sizes points triangles → head_of (made sizes points triangles) ≡ h
head_made h sizes points triangles p =
    ap₂ (λ (a b : ℕ). record { parts = a; vertices = b; polygons = sum_by length (parts_in sizes triangles) })
    (length-parts_in sizes triangles ∙ p.parts) p.vertices
    ∙ ap (λ (c : ℕ). record { parts = h.parts; vertices = h.vertices; polygons = c })
    (count_made h sizes points triangles p)

pub lines_made : (h : Counts) (sizes : List ℕ) (points : List Point) (triangles : List (List ℕ))
    → HasPieces h sizes points triangles
    → surface_lines (made sizes points triangles) ≡ lines_with h sizes points triangles
lines_made h sizes points triangles p =
    ap₂ (λ (g : Counts) (ns : List ℕ). lines_with g ns points (polygons_of (made sizes points triangles)))
    (head_made h sizes points triangles p) (sizes_in sizes triangles (omega (arith, p.sum, p.polygons)))
    ∙ ap (lines_with h sizes points) (polygons_in sizes triangles (p.sum ∙ sym p.polygons))
