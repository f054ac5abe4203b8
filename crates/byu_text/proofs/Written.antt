-- The lines of a mesh's text.
use Rattle.std.proofs.Common.{◌≡◌, ℕ, suc, ◌+◌, ◌/◌, ◌≤◌, List, [], ◌∷◌, ◌++◌, length, map, refl, sym, ap, ap₂, ◌∙◌, arith, All}
use Rattle.std.specs.Prelude.{sum, sum_by}
use Rattle.std.specs.List.{flat_map, concat, AllByRecursion}
use Rattle.std.proofs.lemmas.List.{length-append, length-map, append-nil}
use Rattle.std.proofs.lemmas.List.Concat.{flat_map-append, length-flat_map}
use Rattle.std.proofs.lemmas.List.Sums.{sum-map, sum_by-cons}
use Rattle.std.proofs.lemmas.List.Elements.{All-head, All-tail, All-map, All-take, All-drop}
use Rattle.std.proofs.lemmas.List.Folds.{concat-append}
use Rattle.fku_types.specs.declared.points.Point.{Point}
use Rattle.fku_types.specs.Points.{IsInRange}
use Rattle.fku_types.proofs.ListLaws.{all_join}
use Rattle.triangle_meshes.specs.Meshes.{Surface}
use Rattle.byu_text.specs.Fields.{coordinates_line}
use Rattle.triangle_meshes.proofs.Parts.{all_in_parts}
use Rattle.byu_text.specs.Byu.{counts_line, part_ranges, vertex_lines, polygon_line, byu_of}
use Rattle.byu_text.specs.Reading.{IsMesh}
use Rattle.byu_text.specs.Pieces.{Counts, size_line, mesh_head_line, AreMeshCounts, size_lines, point_lines, IsKnownTriangle}
use Rattle.byu_text.proofs.TextLines.{IsLine}
use Rattle.byu_text.proofs.FieldBytes.{point_line_is}
use Rattle.byu_text.proofs.LineForms.{head_is, size_is, triangle_is}

abbrev pub head_of : Surface → Counts
head_of s = record { parts = length s.parts; vertices = length s.vertices; polygons = sum_by length s.parts }

abbrev pub sizes_of : Surface → List ℕ
sizes_of s = map length s.parts

-- the polygons of a mesh, part after part
abbrev pub polygons_of : Surface → List (List ℕ)
polygons_of s = flat_map (λ part. part) s.parts

abbrev pub lines_with : Counts → List ℕ → List Point → List (List ℕ) → List (List ℕ)
lines_with h sizes points triangles =
    mesh_head_line h ∷ (size_lines 1 sizes ++ (point_lines points ++ map polygon_line triangles))

abbrev pub surface_lines : Surface → List (List ℕ)
surface_lines s = lines_with (head_of s) (sizes_of s) s.vertices (polygons_of s)

-- ---- the text is these lines

parts_written : (n : ℕ) (parts : List (List (List ℕ))) → concat (size_lines n (map length parts)) ≡ part_ranges n parts
parts_written n [] = refl
parts_written n (part ∷ parts) = ap (λ (l : List ℕ). size_line n (length part) ++ l)
    (parts_written (n + length part) parts)

vertices_written : (ps : List Point) → concat (point_lines ps) ≡ vertex_lines ps
vertices_written [] = refl
vertices_written (p ∷ []) = append-nil (coordinates_line (p ∷ []))
vertices_written (p ∷ q ∷ ps) = ap (λ (l : List ℕ). coordinates_line (p ∷ q ∷ []) ++ l) (vertices_written ps)

pub concat-map : (ts : List (List ℕ)) → concat (map polygon_line ts) ≡ flat_map polygon_line ts
concat-map [] = refl
concat-map (t ∷ ts) = ap (λ (l : List ℕ). polygon_line t ++ l) (concat-map ts)

polygons_written : (parts : List (List (List ℕ)))
    → flat_map polygon_line (flat_map (λ part. part) parts) ≡ flat_map (flat_map polygon_line) parts
polygons_written [] = refl
polygons_written (part ∷ parts) = flat_map-append polygon_line part (flat_map (λ part. part) parts)
    ∙ ap (λ (l : List ℕ). flat_map polygon_line part ++ l) (polygons_written parts)

pub concat-lines_with : (h : Counts) (sizes : List ℕ) (points : List Point) (triangles : List (List ℕ)) →
    concat (lines_with h sizes points triangles) ≡ mesh_head_line h
    ++ (concat (size_lines 1 sizes) ++ (concat (point_lines points) ++ concat (map polygon_line triangles)))
concat-lines_with h sizes points triangles =
    ap (λ (l : List ℕ). mesh_head_line h ++ l)
    (concat-append (size_lines 1 sizes) (point_lines points ++ map polygon_line triangles)
    ∙ ap (λ (l : List ℕ). concat (size_lines 1 sizes) ++ l)
    (concat-append (point_lines points) (map polygon_line triangles)))

pub written : (s : Surface) → byu_of s ≡ concat (surface_lines s)
written s =
    let join : List ℕ → List ℕ → List ℕ → List ℕ = λ a b c. counts_line s ++ (a ++ (b ++ c)) in
    let a = parts_written 1 s.parts in
    let b = vertices_written s.vertices in
    let c = concat-map (polygons_of s) ∙ polygons_written s.parts in
    sym (concat-lines_with (head_of s) (sizes_of s) s.vertices (polygons_of s)
    ∙ ap₂ (λ (x y : List ℕ). join x y (concat (map polygon_line (polygons_of s)))) a b
    ∙ ap (join (part_ranges 1 s.parts) (vertex_lines s.vertices)) c)

-- ---- what a valid mesh has

pub length-le-sum : (xs : List ℕ) → All (λ n. 1 ≤ n) xs → length xs ≤ sum xs
length-le-sum [] a = omega arith
length-le-sum (n ∷ ns) a = omega (
  arith,
  sum_by-cons (λ (x : ℕ). x) n ns,
  All-head (λ n. 1 ≤ n) n ns a,
  length-le-sum ns (All-tail (λ n. 1 ≤ n) n ns a),
)

-- the pieces of a valid mesh's text
pub record HasPieces (h : Counts) (sizes : List ℕ) (points : List Point) (triangles : List (List ℕ)) : Type 0 where
  pub head : AreMeshCounts h
  pub some : All (λ n. 1 ≤ n) sizes
  pub parts : length sizes ≡ h.parts
  pub sum : sum sizes ≡ h.polygons
  pub range : All IsInRange points
  pub vertices : length points ≡ h.vertices
  pub known : All (IsKnownTriangle h) triangles
  pub polygons : length triangles ≡ h.polygons

pub pieces_of : (s : Surface) → IsMesh s → HasPieces (head_of s) (sizes_of s) s.vertices (polygons_of s)
pieces_of s m =
    let v = m.valid in
    let both : All (All (IsKnownTriangle (head_of s))) s.parts =
    λ k d l k' d' l'. (m.triangles k d l k' d' l', v.known_ids k d l k' d' l') in
    let sizes : All (λ n. 1 ≤ n) (sizes_of s) = All-map (λ n. 1 ≤ n) length s.parts v.some_triangle in
    record {
      head = record {
        some_part = v.some_part;
        few_parts = v.few_parts;
        some_vertex = v.some_vertex;
        few_vertices =
            v.few_vertices;
        enough = omega (
          arith,
          length-le-sum (sizes_of s) sizes,
          length-map s.parts length,
          sum-map length s.parts,
        );
        few_polygons = v.few_triangles;
      };
      some = sizes;
      parts = length-map s.parts length;
      sum = sum-map length s.parts;
      range = v.in_range;
      vertices = refl;
      known = all_in_parts (IsKnownTriangle (head_of s)) s.parts both;
      polygons = length-flat_map (λ part. part) s.parts;
    }

-- ---- each of them is a line

pub sizes_are : (next : ℕ) (sizes : List ℕ) → next + sum sizes ≤ 10000000
    → AllByRecursion IsLine (size_lines next sizes)
sizes_are next [] l = tt
sizes_are next (n ∷ ns) l =
    let s = sum_by-cons (λ (x : ℕ). x) n ns in
    (size_is next n (omega (arith, s)), sizes_are (next + n) ns (omega (arith, s)))

pub points_are : (ps : List Point) → All IsInRange ps → AllByRecursion IsLine (point_lines ps)
points_are [] a = tt
points_are (p ∷ []) a = (point_line_is (p ∷ []) a, tt)
points_are (p ∷ q ∷ ps) a = (
  point_line_is (p ∷ q ∷ []) (All-take IsInRange 2 (p ∷ q ∷ ps) a),
  points_are ps (All-drop IsInRange 2 (p ∷ q ∷ ps) a),
)

pub triangles_are : (h : Counts) → AreMeshCounts h → (ts : List (List ℕ)) → All (IsKnownTriangle h) ts
    → AllByRecursion IsLine (map polygon_line ts)
triangles_are h i [] a = tt
triangles_are h i (t ∷ ts) a = (
  triangle_is h t i (All-head (IsKnownTriangle h) t ts a),
  triangles_are h i ts (All-tail (IsKnownTriangle h) t ts a),
)

pub lines_are : (h : Counts) (sizes : List ℕ) (points : List Point) (triangles : List (List ℕ))
    → HasPieces h sizes points triangles → AllByRecursion IsLine (lines_with h sizes points triangles)
lines_are h sizes points triangles p =
    let few = p.head.few_polygons in (
      head_is h p.head,
      all_join IsLine (size_lines 1 sizes) (point_lines points ++ map polygon_line triangles)
          (sizes_are 1 sizes (omega (arith, p.sum)))
          (all_join IsLine (point_lines points) (map polygon_line triangles) (points_are points p.range)
          (triangles_are h p.head triangles p.known)),
    )

pub mesh_lines_are : (s : Surface) → IsMesh s → AllByRecursion IsLine (surface_lines s)
mesh_lines_are s m = lines_are (head_of s) (sizes_of s) s.vertices (polygons_of s) (pieces_of s m)

-- ---- how many lines there are

pub length-size_lines : (next : ℕ) (sizes : List ℕ) → length (size_lines next sizes) ≡ length sizes
length-size_lines next [] = refl
length-size_lines next (n ∷ ns) = ap suc (length-size_lines (next + n) ns)

pub length-point_lines : (ps : List Point) → length (point_lines ps) ≡ (length ps + 1) / 2
length-point_lines [] = refl
length-point_lines (p ∷ []) = refl
length-point_lines (p ∷ q ∷ ps) = omega (arith, length-point_lines ps)

unfoldable pub line_count : Counts → ℕ
line_count h = 1 + (h.parts + ((h.vertices + 1) / 2 + h.polygons))

pub length-lines_with : (h : Counts) (sizes : List ℕ) (points : List Point) (triangles : List (List ℕ))
    → length sizes ≡ h.parts → length points ≡ h.vertices → length triangles ≡ h.polygons
    → length (lines_with h sizes points triangles) ≡ line_count h
unfolding line_count
length-lines_with h sizes points triangles a b c =
    omega (
      arith,
      length-append (size_lines 1 sizes) (point_lines points ++ map polygon_line triangles),
      length-append (point_lines points) (map polygon_line triangles),
      length-size_lines 1 sizes,
      length-point_lines points,
      length-map triangles polygon_line,
    )

pub length-surface_lines : (s : Surface) → IsMesh s → length (surface_lines s) ≡ line_count (head_of s)
length-surface_lines s m = let p = pieces_of s m in
    length-lines_with (head_of s) (sizes_of s) s.vertices (polygons_of s) p.parts p.vertices p.polygons
