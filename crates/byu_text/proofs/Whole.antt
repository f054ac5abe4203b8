-- Whole texts: after all lines are read, the text is a mesh's, and no other mesh's.
use Rattle.std.proofs.Common.{◌≡◌, ℕ, List, [], ◌∷◌, ◌++◌, length, map, refl, sym, ap, ap₂, ◌∙◌, arith, subst, All}
use Rattle.std.specs.List.{flat_map, concat}
use Rattle.std.proofs.lemmas.List.{take_at, drop_at}
use Rattle.fku_types.specs.declared.points.Point.{Point}
use Rattle.triangle_meshes.specs.Meshes.{Surface}
use Rattle.byu_text.specs.Byu.{polygon_line}
use Rattle.byu_text.specs.Reading.{ReadsAsMesh}
use Rattle.byu_text.specs.Pieces.{Counts, mesh_head_line, size_lines, point_lines, IsKnownTriangle}
use Rattle.byu_text.specs.Stages.{parts_in}
use Rattle.byu_text.proofs.Cancel.{split_same}
use Rattle.byu_text.proofs.LineForms.{head_width, head_one}
use Rattle.byu_text.proofs.Written.{polygons_of, head_of, sizes_of, HasPieces, pieces_of, written, concat-lines_with}
use Rattle.byu_text.proofs.Made.{made, made_is, lines_made}
use Rattle.byu_text.proofs.Widths.{points_width, sizes_same, points_same, triangles_same}

pub reads_made : (text : List ℕ) (h : Counts) (sizes : List ℕ) (points : List Point) (triangles : List (List ℕ))
    → HasPieces h sizes points triangles →
    text ≡ mesh_head_line h ++ (concat (size_lines 1 sizes)
    ++ (concat (point_lines points) ++ concat (map polygon_line triangles)))
    → ReadsAsMesh text (made sizes points triangles)
reads_made text h sizes points triangles p e = record {
  mesh = made_is h sizes points triangles p;
  same = e ∙ sym (concat-lines_with h sizes points triangles) ∙ ap concat (sym (lines_made h sizes points triangles p))
      ∙ sym (written (made sizes points triangles));
}

parts_back : (parts : List (List (List ℕ))) → parts_in (map length parts) (flat_map (λ part. part) parts) ≡ parts
parts_back [] = refl
parts_back (part ∷ parts) =
    let rest : List (List ℕ) = flat_map (λ part. part) parts in
    ap₂ (λ (a : List (List ℕ)) (b : List (List (List ℕ))). a ∷ b) (take_at part rest (length part) refl)
    (ap (parts_in (map length parts)) (drop_at part rest (length part) refl) ∙ parts_back parts)

-- a text is that of at most one mesh
pub reads_one : (text : List ℕ) (s r : Surface) → ReadsAsMesh text s → ReadsAsMesh text r → s ≡ r
reads_one text s r a b =
    let p = pieces_of s a.mesh in
    let q = pieces_of r b.mesh in
    let S = concat (size_lines 1 (sizes_of s)) in
    let V = concat (point_lines s.vertices) in
    let T = concat (map polygon_line (polygons_of s)) in
    let S' = concat (size_lines 1 (sizes_of r)) in
    let V' = concat (point_lines r.vertices) in
    let T' = concat (map polygon_line (polygons_of r)) in
    let bytes : mesh_head_line (head_of s) ++ (S ++ (V ++ T)) ≡ mesh_head_line (head_of r) ++ (S' ++ (V' ++ T')) =
    sym (concat-lines_with (head_of s) (sizes_of s) s.vertices (polygons_of s)) ∙ sym (written s) ∙ sym a.same ∙ b.same
    ∙ written r ∙ concat-lines_with (head_of r) (sizes_of r) r.vertices (polygons_of r) in
    let first = split_same (mesh_head_line (head_of s)) (mesh_head_line (head_of r)) (S ++ (V ++ T)) (S' ++ (V' ++ T'))
    (head_width (head_of s) p.head ∙ sym (head_width (head_of r) q.head)) bytes in
    let head : head_of s ≡ head_of r = head_one (head_of s) (head_of r) p.head q.head first.0 in
    let parts : length (sizes_of s) ≡ length (sizes_of r) = p.parts ∙ ap (λ (g : Counts). g.parts) head ∙ sym q.parts in
    let vertices : length s.vertices ≡ length r.vertices = ap (λ (g : Counts). g.vertices) head in
    let polygons : length (polygons_of s) ≡ length (polygons_of r) = p.polygons ∙ ap (λ (g : Counts). g.polygons) head
    ∙ sym q.polygons in
    let few = p.head.few_polygons in
    let few' = q.head.few_polygons in
    let sizes = sizes_same 1 (sizes_of s) (sizes_of r) (V ++ T) (V' ++ T') parts p.some q.some (omega (arith, p.sum))
    (omega (arith, q.sum)) first.1 in
    let second = split_same V V' T T' (omega
    (arith, points_width s.vertices p.range, points_width r.vertices q.range, vertices)) sizes.1 in
    let points = points_same s.vertices r.vertices vertices p.range q.range second.0 in
    let known : All (IsKnownTriangle (head_of r)) (polygons_of s) =
    subst (λ (g : Counts). All (IsKnownTriangle g) (polygons_of s)) head p.known in
    let triangles = triangles_same (head_of r) q.head (polygons_of s) (polygons_of r) polygons known q.known second.1 in
    ap₂ (λ (v : List Point) (t : List (List (List ℕ))). record { vertices = v; parts = t }) points
    (sym (parts_back s.parts) ∙ ap₂ parts_in sizes.0 triangles ∙ parts_back r.parts)
