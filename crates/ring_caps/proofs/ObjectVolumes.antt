-- The triangles of surfaces have three ids; the six volumes of the surfaces of objects with caps of groups are those of
-- the plain ones.
use Rattle.std.proofs.Common.{◌≡◌, ℕ, ◌+◌, ◌==◌, if◌then◌else◌, Bool, true, false, List, [], ◌∷◌, ◌++◌, length, flat_map, sum_by, ℤ, ◌+ℤ◌, refl, sym, ap, ap₂, ◌∙◌, subst, All, Vec}
use Rattle.std.specs.Global.{Global}
use Rattle.std.specs.List.{AllByRecursion, AllZip, range_with_len}
use Rattle.std.proofs.lemmas.List.Elements.{recursion_from_All}
use Rattle.fku_types.proofs.ListLaws.{all_join}
use Rattle.fku_types.specs.declared.points.Point.{Point}
use Rattle.plane_geom.specs.Rings.{RingView}
use Rattle.plane_geom.specs.Planes.{signed_sum}
use Rattle.strip_graph.specs.declared.tilings.Step.{Step}
use Rattle.strip_graph.specs.declared.tilings.Step.TheVariants.{V, H}
use Rattle.row_paths.specs.Solutions.{Solution}
use Rattle.section_core.specs.Parts.{Parts, FileParts}
use Rattle.ring_polygons.specs.declared.faces.Face.{Face}
use Rattle.ring_polygons.specs.declared.faces.Face.TheVariants.{Below, Above}
use Rattle.ring_polygons.proofs.CutLaws.{HasThree}
use Rattle.ring_polygons.proofs.Turned.{faced_three}
use Rattle.triangle_meshes.specs.Tiles.{tiles}
use Rattle.triangle_meshes.specs.Meshes.{Surface, surface_of}
use Rattle.triangle_meshes.specs.Volumes.{six_volume}
use Rattle.correspondence.specs.Outlines.{layer_at}
use Rattle.surface_core.specs.declared.surfaces.Built.{Built}
use Rattle.section_pairs.specs.Rings.{rings_at, vertices_in}
use Rattle.section_pairs.specs.Pairs.{PairParts}
use Rattle.surface_core.specs.Surfaces.{open_on, tops, caps_on, strip_triangles, section_triangles, surface_triangles, points_in, IsBuiltWith}
use Rattle.surface_core.specs.Objects.{objects_in, surfaces_of}
use Rattle.section_pairs.proofs.RingIds.{Known}
use Rattle.surface_core.proofs.KnownIds.{surface_known}
use Rattle.surface_core.proofs.SectionFacts.{are_views, points_count}
use Rattle.surface_core.proofs.StripSums.{AreRingViews}
use Rattle.surface_core.proofs.RingFacts.{tops_three}
use Rattle.surface_core.proofs.SurfaceSums.{Stack, stack, open_views}
use Rattle.ring_polygons.specs.declared.capping.CapList.{CapList}
use Rattle.surface_core.specs.Caps.{AreCapLists}
use Rattle.ring_caps.specs.Held.{AreGroupCapLists}
use Rattle.ring_caps.specs.RingSurfaces.{groups_on, ring_tops, face_triangles, ring_section, ring_triangles, IsPlainSurface, ArePlainSurfaces, IsRingBuilt, AreRingBuilt, by_group}
use Rattle.ring_caps.proofs.JoinedVolumes.{IsRegularPart, IsRegular, joined_volume}
use Rattle.ring_caps.proofs.RingSums.{side, ring_known}
use Rattle.ring_caps.proofs.RingVolumes.{built_volumes}
use Rattle.ring_caps.proofs.SideSums.{groups_three}

-- ---- triangles have three ids
tiles_three : (low high : List ℕ) (i j : ℕ) (w : List Step) → AllByRecursion HasThree (tiles low high i j w)
tiles_three low high i j [] = tt
tiles_three low high i j (V ∷ w) = (refl, tiles_three low high (i + 1) j w)
tiles_three low high i j (H ∷ w) = (refl, tiles_three low high i (j + 1) w)

strips_three : (s : ℕ) (ps : List PairParts) (xs : List Solution) → AllByRecursion HasThree (strip_triangles s ps xs)
strips_three s [] xs = tt
strips_three s (p ∷ ps) [] = tt
strips_three s (p ∷ ps) (x ∷ xs) =
    let own = tiles p.strip.low_ids p.strip.high_ids x.row 0 x.word in
    all_join HasThree (if p.gap == s then own else []) (strip_triangles s ps xs) (chosen (p.gap == s))
    (strips_three s ps xs)
  where
    chosen : (b : Bool) → AllByRecursion HasThree
        (if b then tiles p.strip.low_ids p.strip.high_ids x.row 0 x.word else [])
    chosen true = tiles_three p.strip.low_ids p.strip.high_ids x.row 0 x.word
    chosen false = tt

pub flat_three : (f : ℕ → List (List ℕ)) → ((s : ℕ) → AllByRecursion HasThree (f s)) → (ks : List ℕ)
    → AllByRecursion HasThree (flat_map f ks)
flat_three f h [] = tt
flat_three f h (k ∷ ks) = all_join HasThree (f k) (flat_map f ks) (h k) (flat_three f h ks)

pub plain_three : (S : Parts) (ps : List PairParts) (xs : List Solution) → Stack S ps xs → (s : ℕ)
    → AllByRecursion HasThree (section_triangles S ps xs s)
plain_three S ps xs h s =
    let ends : Face → List RingView = λ face. open_on face (rings_at S s) ps s in
    let caps : (face : Face) → AllByRecursion HasThree (caps_on face (ends face)) =
    λ face. faced_three face (tops (ends face)) (tops_three (ends face) (open_views h face s)) in
    all_join HasThree (caps_on Below (ends Below)) (caps_on Above (ends Above) ++ strip_triangles s ps xs) (caps Below)
    (all_join HasThree (caps_on Above (ends Above)) (strip_triangles s ps xs) (caps Above) (strips_three s ps xs))

pub ring_three : (S : Parts) (ps : List PairParts) (xs : List Solution) → Stack S ps xs → (s : ℕ)
    → AllByRecursion HasThree (ring_section S ps xs s)
ring_three S ps xs h s =
    let rings = rings_at S s in
    let gs : Face → List (List ℕ) = λ face. groups_on face (layer_at S s).outlines ps s in
    let caps : (face : Face) → AllByRecursion HasThree (face_triangles face S ps s) =
    λ face. (let k = side S ps xs h s face in
    faced_three face (ring_tops rings (gs face)) (groups_three rings (gs face) k.views k.groups)) in
    all_join HasThree (face_triangles Below S ps s) (face_triangles Above S ps s ++ strip_triangles s ps xs)
    (caps Below) (all_join HasThree (face_triangles Above S ps s) (strip_triangles s ps xs) (caps Above)
    (strips_three s ps xs))

-- ---- surfaces of objects
one_regular : (S : Parts) (s : Surface) (ts : List (List ℕ)) → s.vertices ≡ flat_map points_in S.sections
    → s.parts ≡ ts ∷ [] → AllByRecursion HasThree ts → All (Known (sum_by vertices_in S.sections)) ts → IsRegular s
one_regular S s ts v p three known =
    let n : sum_by vertices_in S.sections ≡ length s.vertices = sym (ap length v ∙ points_count S) in
    subst (λ (ps : List (List (List ℕ))). AllByRecursion (λ part. IsRegularPart (length s.vertices) part) ps) (sym p) (
      record {
        three = three;
        known = recursion_from_All (Known (length s.vertices)) ts
            (subst (λ (k : ℕ). All (Known k) ts) n known);
      },
      tt,
    )

plain_regular : (S : Parts) (m : Surface) → AreRingViews S → IsPlainSurface S m → IsRegular m
plain_regular S m a h =
    let k = stack S h.pairs h.solutions a h.are_pairs h.chosen in
    one_regular S m (surface_triangles S h.pairs h.solutions) h.surface.vertices h.surface.one_part
    (flat_three (section_triangles S h.pairs h.solutions) (plain_three S h.pairs h.solutions k)
    (range_with_len 0 (length S.sections)))
    (surface_known S h.pairs h.solutions k)

ring_regular : (S : Parts) (b : Built) → AreRingViews S → IsBuiltWith by_group S b → IsRegular (surface_of b.mesh)
ring_regular S b a h =
    let k = stack S h.pairs h.solutions a h.are_pairs h.chosen in
    one_regular S (surface_of b.mesh) (ring_triangles S h.pairs h.solutions) h.surface.vertices h.surface.one_part
    (flat_three (ring_section S h.pairs h.solutions) (ring_three S h.pairs h.solutions k)
    (range_with_len 0 (length S.sections)))
    (ring_known S h.pairs h.solutions k)

record SameVolumes (o : Point) (made plain : List Surface) : Type 0 where
  made_regular : AllByRecursion IsRegular made
  plain_regular : AllByRecursion IsRegular plain
  same : signed_sum (λ (s : Surface). six_volume s o) made ≡ signed_sum (λ (s : Surface). six_volume s o) plain

each_volume : (o : Point) (objects : List Parts) (made : List Built) (plain : List Surface)
    → AllByRecursion AreRingViews objects → AllZip IsRingBuilt objects made → AllZip IsPlainSurface objects plain
    → SameVolumes o (surfaces_of made) plain
each_volume o [] [] [] a h k = record { made_regular = tt; plain_regular = tt; same = refl }
each_volume o [] (b ∷ made) plain a h k = absurd h
each_volume o [] [] (m ∷ plain) a h k = absurd k
each_volume o (S ∷ objects) [] plain a h k = absurd h
each_volume o (S ∷ objects) (b ∷ made) [] a h k = absurd k
each_volume o (S ∷ objects) (b ∷ made) (m ∷ plain) a h k =
    let more = each_volume o objects made plain a.1 h.1 k.1 in
    record {
      made_regular = (ring_regular S b a.0 h.0.is_built, more.made_regular);
      plain_regular = (plain_regular S m a.0 k.0, more.plain_regular);
      same = ap₂ (λ (x y : ℤ). x +ℤ y) (built_volumes S b m o a.0 h.0.is_built k.0) more.same;
    }

-- the surfaces of objects, beside those with one cap for each contour
pub volumes_in : (F : FileParts) (b : Built) (plain : Surface) (o : Point) → AllByRecursion AreRingViews (objects_in F)
    → AreRingBuilt F b → ArePlainSurfaces F plain → six_volume (surface_of b.mesh) o ≡ six_volume plain o
volumes_in F b plain o a h k =
    let all = each_volume o (objects_in F) h.each k.each a h.built k.plain in
    ap (λ (s : Surface). six_volume s o) h.whole.mesh ∙ joined_volume (surfaces_of h.each) o all.made_regular ∙ all.same
    ∙ sym (ap (λ (s : Surface). six_volume s o) k.whole ∙ joined_volume k.each o all.plain_regular)

-- the rings of objects whose caps are made, and the caps
pub views_in : (objects : List Parts) (pss : List (List PairParts)) (each : List (Vec CapList Global))
    → AreGroupCapLists objects pss each → AllByRecursion AreRingViews objects
views_in [] pss each h = tt
views_in (S ∷ objects) [] each h = absurd h
views_in (S ∷ objects) (ps ∷ pss) [] h = absurd h
views_in (S ∷ objects) (ps ∷ pss) (v ∷ each) h = (are_views S h.0.rings h.0.are_rings, views_in objects pss each h.1)

pub caps_in : (objects : List Parts) (pss : List (List PairParts)) (each : List (Vec CapList Global))
    → AreGroupCapLists objects pss each → AreCapLists by_group objects pss each
caps_in [] [] [] h = tt
caps_in [] [] (v ∷ each) h = absurd h
caps_in [] (ps ∷ pss) each h = absurd h
caps_in (S ∷ objects) [] each h = absurd h
caps_in (S ∷ objects) (ps ∷ pss) [] h = absurd h
caps_in (S ∷ objects) (ps ∷ pss) (v ∷ each) h = (h.0.are_caps, caps_in objects pss each h.1)
