-- The six volumes of joined meshes are the sum of those of the meshes.
use Rattle.std.proofs.Common.{◌≡◌, ℕ, ◌+◌, ◌<◌, List, [], ◌∷◌, ◌++◌, length, flat_map, get_or, ℤ, ◌+ℤ◌, refl, sym, ap, ap₂, ◌∙◌, arith, append_assoc, All}
use Rattle.std.specs.List.{AllByRecursion}
use Rattle.std.proofs.lemmas.List.{length-append, get_or-append-add, get_or_append_left}
use Rattle.std.proofs.lemmas.List.Elements.{recursion_from_All}
use Rattle.fku_types.specs.declared.points.Point.{Point}
use Rattle.plane_geom.specs.Rings.{origin}
use Rattle.plane_geom.specs.Planes.{signed_sum}
use Rattle.ring_polygons.proofs.CutLaws.{HasThree}
use Rattle.triangle_meshes.specs.Meshes.{Surface}
use Rattle.triangle_meshes.specs.Joined.{raised_triangle, raised_part, raised, joined_parts, joined}
use Rattle.triangle_meshes.specs.Volumes.{vertex, seen_from, determinant, six_volume_of, part_volume, six_volume}
use Rattle.ring_caps.proofs.RingVolumes.{sum_append}

-- each triangle of a part has three ids, all of vertices
pub record IsRegularPart (n : ℕ) (part : List (List ℕ)) : Type 0 where
  pub three : AllByRecursion HasThree part
  pub known : AllByRecursion (All (λ id. id < n)) part

abbrev pub IsRegular : Surface → Type 0
IsRegular s = AllByRecursion (IsRegularPart (length s.vertices)) s.parts

-- a vertex among those of all meshes
vertex_up : (before vs after : List Point) (o : Point) (id : ℕ) → id < length vs
    → vertex (before ++ (vs ++ after)) o (id + length before) ≡ vertex vs o id
vertex_up before vs after o id l =
    let at : id + length before ≡ length before + id = omega arith in
    ap (seen_from o)
    (ap (λ (k : ℕ). get_or (before ++ (vs ++ after)) k origin) at ∙ get_or-append-add before (vs ++ after) id origin
    ∙ get_or_append_left vs after origin id l)

triangle_up : (before vs after : List Point) (o : Point) (t : List ℕ) → HasThree t
    → AllByRecursion (λ id. id < length vs) t
    → six_volume_of (before ++ (vs ++ after)) o (raised_triangle (length before) t) ≡ six_volume_of vs o t
triangle_up before vs after o [] h k = absurd (omega (arith, h))
triangle_up before vs after o (a ∷ []) h k = absurd (omega (arith, h))
triangle_up before vs after o (a ∷ b ∷ []) h k = absurd (omega (arith, h))
triangle_up before vs after o (a ∷ b ∷ c ∷ e ∷ t) h k = absurd (omega (arith, h))
triangle_up before vs after o (a ∷ b ∷ c ∷ []) h k =
    let all = before ++ (vs ++ after) in
    let n = length before in
    ap₂ (λ (p q : Point). determinant p q (vertex all o (c + n))) (vertex_up before vs after o a k.0)
    (vertex_up before vs after o b k.1.0)
    ∙ ap (λ (r : Point). determinant (vertex vs o a) (vertex vs o b) r) (vertex_up before vs after o c k.1.1.0)

part_up : (before vs after : List Point) (o : Point) (part : List (List ℕ)) → AllByRecursion HasThree part
    → AllByRecursion (All (λ id. id < length vs)) part
    → part_volume (before ++ (vs ++ after)) o (raised_part (length before) part) ≡ part_volume vs o part
part_up before vs after o [] h k = refl
part_up before vs after o (t ∷ part) h k =
    ap₂ (λ (x y : ℤ). x +ℤ y) (triangle_up before vs after o t h.0 (recursion_from_All (λ id. id < length vs) t k.0))
    (part_up before vs after o part h.1 k.1)

parts_up : (before vs after : List Point) (o : Point) (parts : List (List (List ℕ)))
    → AllByRecursion (IsRegularPart (length vs)) parts
    → signed_sum (part_volume (before ++ (vs ++ after)) o) (raised (length before) parts)
    ≡ signed_sum (part_volume vs o) parts
parts_up before vs after o [] h = refl
parts_up before vs after o (part ∷ parts) h =
    ap₂ (λ (x y : ℤ). x +ℤ y) (part_up before vs after o part h.0.three h.0.known)
    (parts_up before vs after o parts h.1)

abbrev all_vertices : List Surface → List Point
all_vertices meshes = flat_map (λ (s : Surface). s.vertices) meshes

from : (before : List Point) (meshes : List Surface) (o : Point) → AllByRecursion IsRegular meshes
    → signed_sum (part_volume (before ++ all_vertices meshes) o) (joined_parts (length before) meshes)
    ≡ signed_sum (λ (s : Surface). six_volume s o) meshes
from before [] o h = refl
from before (s ∷ meshes) o h =
    let vs = s.vertices in
    let after = all_vertices meshes in
    let all = before ++ (vs ++ after) in
    let f : List (List ℕ) → ℤ = part_volume all o in
    let same : (before ++ vs) ++ after ≡ all = append_assoc before vs after in
    sum_append f (raised (length before) s.parts) (joined_parts (length before + length vs) meshes)
    ∙ ap₂ (λ (x y : ℤ). x +ℤ y) (parts_up before vs after o s.parts h.0)
    (ap (λ (n : ℕ). signed_sum f (joined_parts n meshes)) (sym (length-append before vs))
    ∙ ap (λ (ps : List Point). signed_sum (part_volume ps o) (joined_parts (length (before ++ vs)) meshes)) (sym same)
    ∙ from (before ++ vs) meshes o h.1)

pub joined_volume : (meshes : List Surface) (o : Point) → AllByRecursion IsRegular meshes
    → six_volume (joined meshes) o ≡ signed_sum (λ (s : Surface). six_volume s o) meshes
joined_volume meshes o h = from [] meshes o h
