-- If no line of vertices of a valid mesh can follow, the fault is there.
use Rattle.std.proofs.Common.{◌≡◌, ℕ, suc, ◌+◌, ◌-◌, ◌*◌, ◌<◌, List, [], ◌∷◌, ◌++◌, length, take, drop, min, map, refl, sym, ap, ◌∙◌, arith, append_assoc, subst, All, add-one}
use Rattle.std.specs.Prelude.{sum}
use Rattle.std.specs.List.{concat}
use Rattle.std.proofs.lemmas.List.{length-append, length-take, length-drop, take-append-drop}
use Rattle.std.proofs.lemmas.List.Elements.{All-take, All-drop}
use Rattle.std.proofs.lemmas.List.Folds.{concat-append}
use Rattle.fku_types.specs.declared.points.Point.{Point}
use Rattle.fku_types.specs.Points.{IsInRange}
use Rattle.triangle_meshes.specs.Meshes.{Surface}
use Rattle.byu_text.specs.Fields.{coordinates_line}
use Rattle.byu_text.specs.Byu.{polygon_line}
use Rattle.byu_text.specs.Reading.{HasMeshFault}
use Rattle.byu_text.specs.Pieces.{Counts, mesh_head_line, AreMeshCounts, size_lines, point_lines, AreSizes, ArePoints}
use Rattle.byu_text.specs.Stages.{AreNext, NoneOf}
use Rattle.byu_text.proofs.Cancel.{split_same}
use Rattle.byu_text.proofs.Written.{polygons_of, sizes_of, pieces_of, length-size_lines, length-point_lines, line_count}
use Rattle.byu_text.proofs.Fronts.{StartsAs, fault_from}
use Rattle.byu_text.proofs.Completed.{starts_points, point_lines-append}
use Rattle.byu_text.proofs.Widths.{sizes_width, points_width, next_line}
use Rattle.byu_text.proofs.BehindHead.{body_of, Behind, behind_head, unread_by}

-- the next line of vertices, and those after it
record NextPoints (points : List Point) (count : ℕ) : Type 0 where
  next : List Point
  behind : List Point
  range : All IsInRange next
  long : length next ≡ count
  is : point_lines points ≡ coordinates_line next ∷ point_lines behind

next_points : (points : List Point) (count : ℕ) → All IsInRange points → 0 < length points
    → count ≡ min 2 (length points) → NextPoints points count
next_points [] count a l e = absurd (omega arith)
next_points (p ∷ []) count a l e = record { next = p ∷ []; behind = []; range = a; long = sym e; is = refl }
next_points (p ∷ q ∷ ps) count a l e =
    record {
      next = p ∷ q ∷ [];
      behind = ps;
      range = All-take IsInRange 2 (p ∷ q ∷ ps) a;
      long = omega (arith, e);
      is =
          refl;
    }

points_stuck : (h : Counts) (sizes : List ℕ) (points : List Point) (rest : List ℕ) (j : ℕ) (s : Surface)
    → AreMeshCounts h → AreSizes h sizes → length sizes ≡ h.parts → ArePoints h points → length points ≡ 2 * j
    → 2 * j < h.vertices →
    NoneOf (AreNext (min 2 (h.vertices - 2 * j))) coordinates_line rest
    → Behind h (concat (size_lines 1 sizes) ++ (concat (point_lines points) ++ rest)) (suc (h.parts + j)) s → ⊥
points_stuck h sizes points rest j s i a all c even l excluded b =
    let p = pieces_of s b.mesh in
    let parts : length (sizes_of s) ≡ h.parts = p.parts ∙ ap (λ (g : Counts). g.parts) b.head in
    let total : sum (sizes_of s) ≡ h.polygons = p.sum ∙ ap (λ (g : Counts). g.polygons) b.head in
    let vertices : length s.vertices ≡ h.vertices = ap (λ (g : Counts). g.vertices) b.head in
    let few = i.few_polygons in
    let front : List Point = take (2 * j) s.vertices in
    let back : List Point = drop (2 * j) s.vertices in
    let long : length front ≡ 2 * j = omega (arith, length-take (2 * j) s.vertices) in
    let left : length back ≡ h.vertices - 2 * j = omega (arith, length-drop (2 * j) s.vertices) in
    let r = next_points back (min 2 (h.vertices - 2 * j)) (All-drop IsInRange (2 * j) s.vertices p.range) (omega arith)
    (ap (min 2) (sym left)) in
    let line : List ℕ = coordinates_line r.next in
    let others : List (List ℕ) = map polygon_line (polygons_of s) in
    let done : List (List ℕ) = size_lines 1 (sizes_of s) ++ point_lines front in
    let after : List (List ℕ) = point_lines r.behind ++ others in
    let lines : body_of s ≡ done ++ (line ∷ after) =
    ap (λ (x : List Point). size_lines 1 (sizes_of s) ++ (point_lines x ++ others))
    (sym (take-append-drop (2 * j) s.vertices))
    ∙ ap (λ (x : List (List ℕ)). size_lines 1 (sizes_of s) ++ (x ++ others))
    (point_lines-append j front back long ∙ ap (λ (x : List (List ℕ)). point_lines front ++ x) r.is)
    ∙ ap (λ (x : List (List ℕ)). size_lines 1 (sizes_of s) ++ x)
    (append_assoc (point_lines front) (line ∷ point_lines r.behind) others)
    ∙ sym (append_assoc (size_lines 1 (sizes_of s)) (point_lines front) (line ∷ after)) in
    let next = next_line (body_of s) done line after (h.parts + j) lines
    (omega (
      arith,
      length-append (size_lines 1 (sizes_of s)) (point_lines front),
      length-size_lines 1 (sizes_of s),
      parts,
      length-point_lines front,
      long,
    )) in
    let A = concat (size_lines 1 (sizes_of s)) in
    let B = concat (point_lines front) in
    let bytes = b.is ∙ ap (λ (x : List ℕ). x ++ b.more)
    (next ∙ ap (λ (x : List ℕ). x ++ line) (concat-append (size_lines 1 (sizes_of s)) (point_lines front)))
    ∙ regroup A B line b.more in
    let first = split_same (concat (size_lines 1 sizes)) A (concat (point_lines points) ++ rest) (B ++ (line ++ b.more))
    (omega (
      arith,
      sizes_width 1 sizes (omega (arith, a.room, a.fit)),
      sizes_width 1 (sizes_of s) (omega (arith, total)),
      all,
      parts,
    )) bytes in
    let second = split_same (concat (point_lines points)) B rest (line ++ b.more)
    (omega (
      arith,
      points_width points c.range,
      points_width front (All-take IsInRange (2 * j) s.vertices p.range),
      even,
      long,
    )) first.1 in
    excluded r.next b.more (record { range = r.range; long = r.long }) second.1
  where
    regroup : (a b c d : List ℕ) → ((a ++ b) ++ c) ++ d ≡ a ++ (b ++ (c ++ d))
    regroup a b c d = simp append_assoc

pub points_fault : (text : List ℕ) (h : Counts) (sizes : List ℕ) (points : List Point) (rest : List ℕ) (j : ℕ)
    → AreMeshCounts h → AreSizes h sizes → length sizes ≡ h.parts → ArePoints h points → length points ≡ 2 * j
    → 2 * j < h.vertices →
    text ≡ mesh_head_line h ++ (concat (size_lines 1 sizes) ++ (concat (point_lines points) ++ rest))
    → NoneOf (AreNext (min 2 (h.vertices - 2 * j))) coordinates_line rest → HasMeshFault text (2 + h.parts + j)
unfolding line_count
points_fault text h sizes points rest j i a all c even l e excluded =
    let behind : List ℕ = concat (size_lines 1 sizes) ++ (concat (point_lines points) ++ rest) in
    let t = starts_points text h sizes points rest j i a all c even e in
    let n : ℕ = suc (h.parts + j) in
    let none : (s : Surface) → StartsAs text (n + 1) s → ⊥ =
    λ s u. points_stuck h sizes points rest j s i a all c even l excluded
    (behind_head text h behind n s i e (subst (λ (k : ℕ). StartsAs text k s) (add-one n) u)) in
    subst (HasMeshFault text) (let k : n + 1 ≡ 2 + h.parts + j = omega arith in k)
    (fault_from text n t.0 t.1 none (unread_by text h behind n i e (omega arith) none))
