-- The six volumes of the surface with caps of groups are those of the plain surface.
use Rattle.std.proofs.Common.{◌≡◌, ℕ, ◌+◌, ◌<◌, List, [], ◌∷◌, ◌++◌, length, flat_map, ℤ, pos, ◌+ℤ◌, ◌-ℤ◌, ◌*ℤ◌, neg_ℤ, refl, sym, ap, ap₂, ◌∙◌, arith, All}
use Rattle.std.specs.List.{range_with_len, AllByRecursion}
use Rattle.std.proofs.lemmas.Int.{ints}
use Rattle.std.proofs.lemmas.List.Elements.{recursion_from_All}
use Rattle.fku_types.specs.declared.points.Point.{Point}
use Rattle.fku_types.proofs.ListLaws.{range_below}
use Rattle.plane_geom.specs.Rings.{RingView}
use Rattle.plane_geom.specs.Planes.{signed_sum, side_of}
use Rattle.plane_geom.proofs.Sums.{back}
use Rattle.row_paths.specs.Solutions.{Solution}
use Rattle.pair_pool.proofs.SolutionLists.{same_solutions}
use Rattle.section_core.specs.Parts.{Parts}
use Rattle.correspondence.specs.Outlines.{layer_at, section_at}
use Rattle.ring_polygons.specs.Composites.{ids_of}
use Rattle.ring_polygons.proofs.BridgeLaws.{IsRingView}
use Rattle.ring_polygons.specs.declared.twins.Twins.TheVariants.{Hinder}
use Rattle.ring_polygons.specs.declared.faces.Face.{Face}
use Rattle.ring_polygons.specs.declared.faces.Face.TheVariants.{Below, Above}
use Rattle.ring_polygons.specs.Caps.{top_cap, faced, area_of, points_at}
use Rattle.ring_polygons.proofs.CutLaws.{HasThree}
use Rattle.ring_polygons.proofs.Turned.{faced_all, faced_three}
use Rattle.ring_polygons.proofs.SignedSums.{part, ring_signed, rings_signed}
use Rattle.triangle_meshes.specs.Meshes.{Surface, surface_of}
use Rattle.triangle_meshes.specs.Volumes.{six_volume_of, part_volume, six_volume}
use Rattle.surface_core.specs.declared.surfaces.Built.{Built}
use Rattle.section_pairs.specs.Rings.{rings_at, pick}
use Rattle.section_pairs.specs.Pairs.{PairParts}
use Rattle.surface_core.specs.Surfaces.{joined_on, others, open_on, tops, caps_on, strip_triangles, strips_in, section_triangles, surface_triangles, points_in, IsSurface, IsBuiltWith}
use Rattle.surface_core.proofs.PlaceSums.{weight}
use Rattle.surface_core.proofs.RingFacts.{edges, total_edges, tops_three}
use Rattle.section_pairs.proofs.RingIds.{EachId, pick_each}
use Rattle.surface_core.proofs.CapIds.{tops_each}
use Rattle.surface_core.proofs.StripSums.{AreRingViews}
use Rattle.surface_core.proofs.SurfaceSums.{Stack, stack}
use Rattle.section_pairs.proofs.PairLaws.{one_pairs}
use Rattle.ring_caps.specs.GroupCaps.{group_cap}
use Rattle.ring_caps.specs.Groups.{side_groups}
use Rattle.ring_caps.specs.RingSurfaces.{groups_on, ring_tops, face_triangles, ring_section, ring_triangles, IsRingSurface, IsPlainSurface, by_group}
use Rattle.ring_caps.proofs.GroupLaws.{turn_of, turn_of-turns, cap_turns, group_turns}
use Rattle.ring_caps.proofs.SideSums.{IsPicked, Side, composites_each, group_rings, group_some, groups_weight, side_weight, groups_three, groups_each}
use Rattle.ring_caps.proofs.RingSums.{side}
use Rattle.ring_caps.proofs.Flat.{AtHeight, flat_part, area_turned}
use Rattle.ring_caps.proofs.Heights.{rings_high}

-- ---- sums
pub sum_append : {X : Type 0} (f : X → ℤ) (xs ys : List X)
    → signed_sum f (xs ++ ys) ≡ signed_sum f xs +ℤ signed_sum f ys
sum_append f [] ys = omega (arith, ints)
sum_append f (x ∷ xs) ys = ap (λ (z : ℤ). f x +ℤ z) (sum_append f xs ys)
    ∙ regroup (f x) (signed_sum f xs) (signed_sum f ys)
  where
    regroup : (a b c : ℤ) → a +ℤ (b +ℤ c) ≡ (a +ℤ b) +ℤ c
    regroup a b c = omega (arith, ints)

-- ---- areas
-- the caps of contours have the areas of their rings, from the edges
tops_area : (vertices : List Point) (rings : List RingView) → AllByRecursion IsRingView rings
    → area_of vertices (tops rings) ≡ signed_sum (ring_signed (turn_of vertices)) (ids_of rings)
tops_area vertices [] h = refl
tops_area vertices (r ∷ rings) h =
    sum_append (λ (t : List ℕ). side_of (points_at vertices t)) (top_cap r.points r.ids) (tops rings)
    ∙ ap₂ (λ (x y : ℤ). x +ℤ y) (cap_turns Hinder vertices r.points r.ids h.0.enough h.0.same)
    (tops_area vertices rings h.1)

-- the areas of the rings of groups
groups_signed : (ℕ → ℕ → ℤ) → List RingView → List (List ℕ) → ℤ
groups_signed w rings [] = pos 0
groups_signed w rings (g ∷ gs) = signed_sum (ring_signed w) (ids_of (pick rings g)) +ℤ groups_signed w rings gs

groups_area : (vertices : List Point) (rings : List RingView) (gs : List (List ℕ)) → AllByRecursion IsRingView rings
    → AllByRecursion (IsPicked (length rings)) gs
    → area_of vertices (ring_tops rings gs) ≡ groups_signed (turn_of vertices) rings gs
unfolding groups_signed
groups_area vertices rings [] h p = refl
groups_area vertices rings (g ∷ gs) h p =
    sum_append (λ (t : List ℕ). side_of (points_at vertices t)) (group_cap (pick rings g)) (ring_tops rings gs)
    ∙ ap₂ (λ (x y : ℤ). x +ℤ y) (group_turns vertices (pick rings g) (group_rings rings g h p.0)
    (group_some rings g p.0)) (groups_area vertices rings gs h p.1)

two_sums : (s t : ℤ) (a b c d : ℕ) → s +ℤ pos a ≡ pos b → t +ℤ pos c ≡ pos d → (s +ℤ t) +ℤ pos (a + c) ≡ pos (b + d)
two_sums s t a b c d e f = omega (arith, ints)

-- a signed sum is a difference of two sums
rings_parts : (vertices : List Point) (rings : List RingView)
    → signed_sum (ring_signed (turn_of vertices)) (ids_of rings) +ℤ pos
    (weight (edges (back (part (turn_of vertices)))) rings) ≡ pos (weight (edges (part (turn_of vertices))) rings)
rings_parts vertices rings =
    let w : ℕ → ℕ → ℤ = turn_of vertices in
    ap (λ (n : ℕ). signed_sum (ring_signed w) (ids_of rings) +ℤ pos n) (sym (total_edges (back (part w)) rings))
    ∙ rings_signed w (turn_of-turns vertices) (ids_of rings)
    ∙ ap (λ (n : ℕ). pos n) (total_edges (part w) rings)

groups_parts : (vertices : List Point) (rings : List RingView) (gs : List (List ℕ))
    → groups_signed (turn_of vertices) rings gs +ℤ pos (groups_weight (edges (back (part (turn_of vertices)))) rings gs)
    ≡ pos (groups_weight (edges (part (turn_of vertices))) rings gs)
unfolding groups_signed
groups_parts vertices rings [] = refl
groups_parts vertices rings (g ∷ gs) =
    let w : ℕ → ℕ → ℤ = turn_of vertices in
    let here : List RingView = pick rings g in
    two_sums (signed_sum (ring_signed w) (ids_of here)) (groups_signed w rings gs) (weight (edges (back (part w))) here)
    (weight (edges (part w)) here) (groups_weight (edges (back (part w))) rings gs)
    (groups_weight (edges (part w)) rings gs)
    (rings_parts vertices here) (groups_parts vertices rings gs)

same_difference : (s t : ℤ) (a b c d : ℕ) → s +ℤ pos a ≡ pos b → t +ℤ pos c ≡ pos d → a ≡ c → b ≡ d → s ≡ t
same_difference s t a b c d e f x y = omega (arith, ints)

-- the caps of groups have the area of those of their contours
side_area : (vertices : List Point) (outlines : List (List Point)) (rings : List RingView) (joined : List ℕ)
    → Side outlines rings joined → area_of vertices (ring_tops rings (side_groups outlines joined))
    ≡ area_of vertices (tops (others rings joined))
side_area vertices outlines rings joined k =
    let w : ℕ → ℕ → ℤ = turn_of vertices in
    let gs : List (List ℕ) = side_groups outlines joined in
    let ends : List RingView = others rings joined in
    groups_area vertices rings gs k.views k.groups
    ∙ same_difference (groups_signed w rings gs) (signed_sum (ring_signed w) (ids_of ends))
    (groups_weight (edges (back (part w))) rings gs) (groups_weight (edges (part w)) rings gs)
    (weight (edges (back (part w))) ends) (weight (edges (part w)) ends)
    (groups_parts vertices rings gs) (rings_parts vertices ends)
    (side_weight (edges (back (part w))) outlines rings joined k.count)
    (side_weight (edges (part w)) outlines rings joined k.count)
    ∙ sym (tops_area vertices ends k.ends)

-- ---- caps at one height
faced_area : (vertices : List Point) (face : Face) (made plain : List (List ℕ)) → AllByRecursion HasThree made
    → AllByRecursion HasThree plain → area_of vertices made ≡ area_of vertices plain
    → area_of vertices (faced face made) ≡ area_of vertices (faced face plain)
faced_area vertices Below made plain a b e = area_turned vertices made a ∙ ap neg_ℤ e
    ∙ sym (area_turned vertices plain b)
faced_area vertices Above made plain a b e = e

flat_volume : (vertices : List Point) (o : Point) (h : ℤ) (face : Face) (ts : List (List ℕ))
    → AllByRecursion HasThree ts → All (All (AtHeight vertices h)) ts
    → part_volume vertices o (faced face ts) ≡ (h -ℤ o.z) *ℤ area_of vertices (faced face ts)
flat_volume vertices o h face ts n k =
    let P : ℕ → Type 0 = AtHeight vertices h in
    flat_part vertices o h (faced face ts) (faced_three face ts n)
    (recursion_from_All (All P) (faced face ts) (faced_all P face ts n k))

-- the caps of groups on a face have the volume of those of their contours
face_volume : (o : Point) (S : Parts) (ps : List PairParts) (xs : List Solution) → Stack S ps xs → (s : ℕ)
    → s < length S.sections → (face : Face) →
    part_volume (flat_map points_in S.sections) o (face_triangles face S ps s)
    ≡ part_volume (flat_map points_in S.sections) o (caps_on face (open_on face (rings_at S s) ps s))
face_volume o S ps xs h s l face =
    let vertices : List Point = flat_map points_in S.sections in
    let z : ℤ = (section_at S s).z in
    let rings : List RingView = rings_at S s in
    let outlines : List (List Point) = (layer_at S s).outlines in
    let gs : List (List ℕ) = groups_on face outlines ps s in
    let ends : List RingView = open_on face rings ps s in
    let k = side S ps xs h s face in
    let P : ℕ → Type 0 = AtHeight vertices z in
    let high : EachId P rings = rings_high S s l in
    let made_three = groups_three rings gs k.views k.groups in
    let plain_three = tops_three ends k.ends in
    flat_volume vertices o z face (ring_tops rings gs) made_three
    (groups_each P rings gs k.views k.groups (composites_each P rings gs high))
    ∙ ap (λ (a : ℤ). (z -ℤ o.z) *ℤ a) (faced_area vertices face (ring_tops rings gs) (tops ends) made_three plain_three
    (side_area vertices outlines rings (joined_on face ps s) k))
    ∙ sym (flat_volume vertices o z face (tops ends) plain_three (tops_each P ends k.ends (pick_each P rings _ high)))

-- ---- sections and surfaces
section_volume : (o : Point) (S : Parts) (ps : List PairParts) (xs : List Solution) → Stack S ps xs → (s : ℕ)
    → s < length S.sections →
    part_volume (flat_map points_in S.sections) o (ring_section S ps xs s)
    ≡ part_volume (flat_map points_in S.sections) o (section_triangles S ps xs s)
section_volume o S ps xs h s l =
    let f : List ℕ → ℤ = six_volume_of (flat_map points_in S.sections) o in
    let bs : List (List ℕ) = face_triangles Below S ps s in
    let ts : List (List ℕ) = face_triangles Above S ps s in
    let plain_bs : List (List ℕ) = caps_on Below (open_on Below (rings_at S s) ps s) in
    let plain_ts : List (List ℕ) = caps_on Above (open_on Above (rings_at S s) ps s) in
    let gs : List (List ℕ) = strip_triangles s ps xs in
    sum_append f bs (ts ++ gs)
    ∙ ap₂ (λ (x y : ℤ). x +ℤ y) (face_volume o S ps xs h s l Below)
    (sum_append f ts gs ∙ ap (λ (x : ℤ). x +ℤ signed_sum f gs) (face_volume o S ps xs h s l Above)
    ∙ sym (sum_append f plain_ts gs))
    ∙ sym (sum_append f plain_bs (plain_ts ++ gs))

sections_volume : (o : Point) (S : Parts) (ps : List PairParts) (xs : List Solution) → Stack S ps xs → (ks : List ℕ)
    → AllByRecursion (λ k. k < length S.sections) ks →
    part_volume (flat_map points_in S.sections) o (flat_map (ring_section S ps xs) ks)
    ≡ part_volume (flat_map points_in S.sections) o (flat_map (section_triangles S ps xs) ks)
sections_volume o S ps xs h [] l = refl
sections_volume o S ps xs h (k ∷ ks) l =
    let f : List ℕ → ℤ = six_volume_of (flat_map points_in S.sections) o in
    sum_append f (ring_section S ps xs k) (flat_map (ring_section S ps xs) ks)
    ∙ ap₂ (λ (x y : ℤ). x +ℤ y) (section_volume o S ps xs h k l.0) (sections_volume o S ps xs h ks l.1)
    ∙ sym (sum_append f (section_triangles S ps xs k) (flat_map (section_triangles S ps xs) ks))

ring_volume : (o : Point) (S : Parts) (ps : List PairParts) (xs : List Solution) → Stack S ps xs
    → part_volume (flat_map points_in S.sections) o (ring_triangles S ps xs)
    ≡ part_volume (flat_map points_in S.sections) o (surface_triangles S ps xs)
ring_volume o S ps xs h = sections_volume o S ps xs h (range_with_len 0 (length S.sections))
    (range_below (length S.sections) 0 (length S.sections) (omega arith))

of_one_part : (s : Surface) (o : Point) (vertices : List Point) (ts : List (List ℕ)) → s.vertices ≡ vertices
    → s.parts ≡ ts ∷ [] → six_volume s o ≡ part_volume vertices o ts +ℤ pos 0
of_one_part s o vertices ts v p = ap (signed_sum (part_volume s.vertices o)) p
    ∙ ap (λ (vs : List Point). part_volume vs o ts +ℤ pos 0) v

pub same_volumes : (S : Parts) (ps qs : List PairParts) (xs ys : List Solution) (m n : Surface) (o : Point)
    → Stack S ps xs → ps ≡ qs → xs ≡ ys → IsRingSurface S ps xs m → IsSurface S qs ys n
    → six_volume m o ≡ six_volume n o
same_volumes S ps qs xs ys m n o h e f a b =
    let vertices : List Point = flat_map points_in S.sections in
    let part_same : surface_triangles S ps xs ≡ surface_triangles S qs ys = ap₂ (surface_triangles S) e f in
    of_one_part m o vertices (ring_triangles S ps xs) a.vertices a.one_part
    ∙ ap (λ (z : ℤ). z +ℤ pos 0) (ring_volume o S ps xs h ∙ ap (part_volume vertices o) part_same)
    ∙ sym (of_one_part n o vertices (surface_triangles S qs ys) b.vertices b.one_part)

-- the surface with caps of groups, beside the plain one
pub built_volumes : (S : Parts) (b : Built) (plain : Surface) (o : Point) → AreRingViews S → IsBuiltWith by_group S b
    → IsPlainSurface S plain → six_volume (surface_of b.mesh) o ≡ six_volume plain o
built_volumes S b plain o views h k =
    let ps : h.pairs ≡ k.pairs = one_pairs S h.pairs k.pairs h.are_pairs k.are_pairs in
    let xs : h.solutions ≡ k.solutions =
    same_solutions (strips_in h.pairs) (strips_in k.pairs) h.solutions k.solutions (ap strips_in ps) h.chosen
    k.chosen in
    same_volumes S h.pairs k.pairs h.solutions k.solutions (surface_of b.mesh) plain o
    (stack S h.pairs h.solutions views h.are_pairs h.chosen) ps xs h.surface k.surface
