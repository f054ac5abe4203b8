-- If no line of a polygon of a valid mesh can follow, or more follows the last one, the fault is there.
use Rattle.std.proofs.Common.{◌≡◌, ℕ, suc, ◌+◌, ◌*◌, ◌/◌, ◌<◌, ◌≤◌, List, ◌∷◌, ◌++◌, length, map, ap, ◌∙◌, arith, append_assoc, subst, All, add-one}
use Rattle.std.specs.Prelude.{sum}
use Rattle.std.specs.List.{concat, AllByRecursion}
use Rattle.std.proofs.lemmas.List.{length-append, length-map, map-append}
use Rattle.std.proofs.lemmas.List.Elements.{recursion_from_All, All-from_recursion}
use Rattle.std.proofs.lemmas.List.Folds.{concat-append}
use Rattle.fku_types.specs.declared.limits.TheConstants.{MAX_MESH_BYTES}
use Rattle.fku_types.specs.declared.points.Point.{Point}
use Rattle.fku_types.proofs.ListLaws.{all_front, all_amid}
use Rattle.triangle_meshes.specs.Meshes.{Surface}
use Rattle.byu_text.specs.Byu.{byu_of, polygon_line}
use Rattle.byu_text.specs.Reading.{IsMesh, ReadsAsMesh, HasMeshFault}
use Rattle.byu_text.specs.Pieces.{Counts, mesh_head_line, AreMeshCounts, size_lines, point_lines, AreSizes, ArePoints, AreTriangles, IsKnownTriangle}
use Rattle.byu_text.specs.Stages.{NoneOf}
use Rattle.byu_text.proofs.Cancel.{split_same}
use Rattle.byu_text.proofs.LineForms.{head_width}
use Rattle.byu_text.proofs.Written.{polygons_of, head_of, sizes_of, lines_with, HasPieces, pieces_of, written, concat-lines_with, length-size_lines, length-point_lines, line_count, length-surface_lines}
use Rattle.byu_text.proofs.Fronts.{StartsAs, starts_whole, fault_from}
use Rattle.byu_text.proofs.Completed.{starts_triangles}
use Rattle.byu_text.proofs.Widths.{sizes_width, points_width, triangles_width, parted, next_line}
use Rattle.byu_text.proofs.BehindHead.{body_of, Behind, behind_head, some_line, unread_by}

-- ---- the polygons

triangle_stuck : (h : Counts) (sizes : List ℕ) (points : List Point) (triangles : List (List ℕ)) (rest : List ℕ)
    (s : Surface) → AreMeshCounts h → AreSizes h sizes → length sizes ≡ h.parts → ArePoints h points
    → length points ≡ h.vertices → AreTriangles h triangles → length triangles < h.polygons →
    NoneOf (IsKnownTriangle h) polygon_line rest
    → Behind h (concat (size_lines 1 sizes)
    ++ (concat (point_lines points) ++ (concat (map polygon_line triangles) ++ rest)))
    (suc (h.parts + ((h.vertices + 1) / 2 + length triangles))) s → ⊥
triangle_stuck h sizes points triangles rest s i a all c every d l excluded b =
    let p = pieces_of s b.mesh in
    let parts : length (sizes_of s) ≡ h.parts = p.parts ∙ ap (λ (g : Counts). g.parts) b.head in
    let total : sum (sizes_of s) ≡ h.polygons = p.sum ∙ ap (λ (g : Counts). g.polygons) b.head in
    let vertices : length s.vertices ≡ h.vertices = ap (λ (g : Counts). g.vertices) b.head in
    let polygons : length (polygons_of s) ≡ h.polygons = p.polygons ∙ ap (λ (g : Counts). g.polygons) b.head in
    let known : All (IsKnownTriangle h) (polygons_of s) =
    subst (λ (g : Counts). All (IsKnownTriangle g) (polygons_of s)) b.head p.known in
    let few = i.few_polygons in
    let r = parted (polygons_of s) (length triangles) (omega (arith, polygons)) in
    let known' : AllByRecursion (IsKnownTriangle h) (r.front ++ (r.item ∷ r.back)) =
    subst (AllByRecursion (IsKnownTriangle h)) r.is (recursion_from_All (IsKnownTriangle h) (polygons_of s) known)
    in
    let front_known : All (IsKnownTriangle h) r.front =
    All-from_recursion (IsKnownTriangle h) r.front (all_front (IsKnownTriangle h) r.front (r.item ∷ r.back) known')
    in
    let line : List ℕ = polygon_line r.item in
    let after : List (List ℕ) = map polygon_line r.back in
    let S : List (List ℕ) = size_lines 1 (sizes_of s) in
    let V : List (List ℕ) = point_lines s.vertices in
    let F : List (List ℕ) = map polygon_line r.front in
    let done : List (List ℕ) = S ++ (V ++ F) in
    let lines : body_of s ≡ done ++ (line ∷ after) =
    ap (λ (x : List (List ℕ)). S ++ (V ++ x))
    (ap (map polygon_line) r.is ∙ map-append polygon_line r.front (r.item ∷ r.back))
    ∙ relist S V F (line ∷ after) in
    let next = next_line (body_of s) done line after (h.parts + ((h.vertices + 1) / 2 + length triangles)) lines
    (omega (
      arith,
      length-append S (V ++ F),
      length-append V F,
      length-size_lines 1 (sizes_of s),
      parts,
      length-point_lines s.vertices,
      vertices,
      length-map r.front polygon_line,
      r.long,
    )) in
    let A = concat S in
    let B = concat V in
    let C = concat F in
    let bytes = b.is ∙ ap (λ (x : List ℕ). x ++ b.more)
    (next ∙ ap (λ (x : List ℕ). x ++ line)
    (concat-append S (V ++ F) ∙ ap (λ (x : List ℕ). A ++ x) (concat-append V F))) ∙ regroup A B C line b.more in
    let first = split_same (concat (size_lines 1 sizes)) A
    (concat (point_lines points) ++ (concat (map polygon_line triangles) ++ rest)) (B ++ (C ++ (line ++ b.more)))
    (omega (
      arith,
      sizes_width 1 sizes (omega (arith, a.room, a.fit)),
      sizes_width 1 (sizes_of s) (omega (arith, total)),
      all,
      parts,
    )) bytes in
    let second = split_same (concat (point_lines points)) B (concat (map polygon_line triangles) ++ rest)
    (C ++ (line ++ b.more))
    (omega (arith, points_width points c.range, points_width s.vertices p.range, every, vertices)) first.1 in
    let third = split_same (concat (map polygon_line triangles)) C rest (line ++ b.more)
    (omega (arith, triangles_width h i triangles d.known, triangles_width h i r.front front_known, r.long)) second.1 in
    excluded r.item b.more (all_amid (IsKnownTriangle h) r.front r.item r.back known') third.1
  where
    regroup : (a b c d e : List ℕ) → ((a ++ (b ++ c)) ++ d) ++ e ≡ a ++ (b ++ (c ++ (d ++ e)))
    regroup a b c d e = simp append_assoc

    relist : (a b c d : List (List ℕ)) → a ++ (b ++ (c ++ d)) ≡ (a ++ (b ++ c)) ++ d
    relist a b c d = simp append_assoc

pub triangle_fault : (text : List ℕ) (h : Counts) (sizes : List ℕ) (points : List Point) (triangles : List (List ℕ))
    (rest : List ℕ) → AreMeshCounts h → AreSizes h sizes → length sizes ≡ h.parts → ArePoints h points
    → length points ≡ h.vertices → AreTriangles h triangles → length triangles < h.polygons →
    text ≡ mesh_head_line h ++ (concat (size_lines 1 sizes)
    ++ (concat (point_lines points) ++ (concat (map polygon_line triangles) ++ rest)))
    → NoneOf (IsKnownTriangle h) polygon_line rest
    → HasMeshFault text (2 + h.parts + (h.vertices + 1) / 2 + length triangles)
unfolding line_count
triangle_fault text h sizes points triangles rest i a all c every d l e excluded =
    let behind : List ℕ = concat (size_lines 1 sizes)
    ++ (concat (point_lines points) ++ (concat (map polygon_line triangles) ++ rest)) in
    let t = starts_triangles text h sizes points triangles rest i a all c every d e in
    let n : ℕ = suc (h.parts + ((h.vertices + 1) / 2 + length triangles)) in
    let none : (s : Surface) → StartsAs text (n + 1) s → ⊥ =
    λ s u. triangle_stuck h sizes points triangles rest s i a all c every d l excluded
    (behind_head text h behind n s i e (subst (λ (k : ℕ). StartsAs text k s) (add-one n) u)) in
    subst (HasMeshFault text) (let k : n + 1 ≡ 2 + h.parts + (h.vertices + 1) / 2 + length triangles = omega arith in k)
    (fault_from text n t.0 t.1 none (unread_by text h behind n i e (omega arith) none))

-- ---- after the last line

whole_width : (h : Counts) (sizes : List ℕ) (points : List Point) (triangles : List (List ℕ))
    → HasPieces h sizes points triangles
    → length (concat (lines_with h sizes points triangles)) ≡ 33
    + (17 * h.parts + ((36 * h.vertices + (h.vertices + 1) / 2) + 25 * h.polygons))
whole_width h sizes points triangles p =
    let A = concat (size_lines 1 sizes) in
    let B = concat (point_lines points) in
    let C = concat (map polygon_line triangles) in
    let few = p.head.few_polygons in
    omega (
      arith,
      ap length (concat-lines_with h sizes points triangles),
      length-append (mesh_head_line h) (A ++ (B ++ C)),
      length-append A (B ++ C),
      length-append B C,
      head_width h p.head,
      sizes_width 1 sizes (omega (arith, p.sum)),
      points_width points p.range,
      triangles_width h p.head triangles p.known,
      p.parts,
      p.vertices,
      p.polygons,
    )

-- the text of a mesh is short enough to be read
pub mesh_width : (s : Surface) → IsMesh s → length (byu_of s) ≤ MAX_MESH_BYTES
mesh_width s is =
    let v = is.valid in
    omega (
      arith,
      ap length (written s),
      whole_width (head_of s) (sizes_of s) s.vertices (polygons_of s) (pieces_of s is),
      v.few_parts,
      v.few_vertices,
      v.few_triangles,
    )

pub end_fault : (text : List ℕ) (h : Counts) (sizes : List ℕ) (points : List Point) (triangles : List (List ℕ))
    (rest : List ℕ) → HasPieces h sizes points triangles → AreSizes h sizes → ArePoints h points
    → AreTriangles h triangles → 0 < length rest →
    text ≡ mesh_head_line h ++ (concat (size_lines 1 sizes)
    ++ (concat (point_lines points) ++ (concat (map polygon_line triangles) ++ rest)))
    → HasMeshFault text (2 + h.parts + (h.vertices + 1) / 2 + h.polygons)
unfolding line_count
end_fault text h sizes points triangles rest p a c d l e =
    let behind : List ℕ = concat (size_lines 1 sizes)
    ++ (concat (point_lines points) ++ (concat (map polygon_line triangles) ++ rest)) in
    let t = starts_triangles text h sizes points triangles rest p.head a p.parts c p.vertices d e in
    let n : ℕ = suc (h.parts + ((h.vertices + 1) / 2 + length triangles)) in
    let none : (s : Surface) → StartsAs text (n + 1) s → ⊥ =
    λ s u. (let b = behind_head text h behind n s p.head e (subst (λ (k : ℕ). StartsAs text k s) (add-one n) u) in
    absurd (omega (arith, u.fits, length-surface_lines s u.mesh, ap line_count b.head, p.polygons))) in
    let unread : (s : Surface) → ReadsAsMesh text s → ⊥ =
    λ s r. (let b = behind_head text h behind 0 s p.head e (starts_whole text 1 s (some_line s) r) in
    let q = pieces_of s r.mesh in
    let A = concat (size_lines 1 sizes) in
    let B = concat (point_lines points) in
    let C = concat (map polygon_line triangles) in
    let width : (g : Counts) → g ≡ h → 33
    + (17 * g.parts + ((36 * g.vertices + (g.vertices + 1) / 2) + 25 * g.polygons)) ≡ 33
    + (17 * h.parts + ((36 * h.vertices + (h.vertices + 1) / 2) + 25 * h.polygons)) =
    λ g f. ap (λ (g : Counts). 33 + (17 * g.parts + ((36 * g.vertices + (g.vertices + 1) / 2) + 25 * g.polygons))) f
    in
    let few = p.head.few_polygons in
    absurd (omega (
      arith,
      ap length (r.same ∙ written s),
      whole_width (head_of s) (sizes_of s) s.vertices (polygons_of s) q,
      width (head_of s) b.head,
      ap length e,
      length-append (mesh_head_line h) behind,
      length-append A (B ++ (C ++ rest)),
      length-append B (C ++ rest),
      length-append C rest,
      head_width h p.head,
      sizes_width 1 sizes (omega (arith, p.sum)),
      points_width points p.range,
      triangles_width h p.head triangles p.known,
      p.parts,
      p.vertices,
      p.polygons,
    ))) in
    subst (HasMeshFault text) (let k : n + 1 ≡ 2 + h.parts + (h.vertices + 1) / 2 + h.polygons =
    omega (arith, p.polygons) in k) (fault_from text n t.0 t.1 none unread)
