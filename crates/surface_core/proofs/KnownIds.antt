-- The ids of triangles are those of vertices.
use Rattle.std.proofs.Common.{ℕ, ◌+◌, ◌<◌, true, false, if◌then◌else◌, ◌==◌, Bool, List, [], ◌∷◌, ◌++◌, length, flat_map, sum_by, sym, subst, All}
use Rattle.std.specs.List.{range_with_len, AllByRecursion}
use Rattle.std.proofs.lemmas.List.Elements.{All-append, All-nil, All-contains}
use Rattle.plane_geom.specs.Rings.{RingView}
use Rattle.row_paths.specs.Solutions.{Solution}
use Rattle.section_core.specs.Parts.{Parts}
use Rattle.ring_polygons.specs.declared.faces.Face.{Face}
use Rattle.ring_polygons.specs.declared.faces.Face.TheVariants.{Below, Above}
use Rattle.triangle_meshes.proofs.TileIds.{own_ids}
use Rattle.section_pairs.specs.Rings.{rings_at, vertices_in}
use Rattle.section_pairs.specs.Pairs.{PairParts}
use Rattle.surface_core.specs.Surfaces.{open_on, caps_on, strip_triangles, section_triangles, surface_triangles}
use Rattle.surface_core.proofs.JoinedPlaces.{IsJoint}
use Rattle.section_pairs.proofs.RingIds.{EachId, pick_each, composite_each, Known, rings_known}
use Rattle.surface_core.proofs.CapIds.{caps_each}
use Rattle.surface_core.proofs.StripSums.{AreRingViews, lower, upper, strip_tiles, low_ids_some, high_ids_some}
use Rattle.surface_core.proofs.SurfaceSums.{Stack, open_views}

-- ---- strips
strip_known : (n : ℕ) (S : Parts) (p : PairParts) (x : Solution) → AreRingViews S → IsJoint S p
    → ((s : ℕ) → EachId (λ v. v < n) (rings_at S s)) → All (Known n) (strip_tiles p x)
strip_known n S p x a j r i d l k e m =
    let low : Known n p.strip.low_ids =
    subst (Known n) (sym j.low_ids) (composite_each (λ v. v < n) (lower S p)
    (pick_each (λ v. v < n) (rings_at S p.gap) p.below (r p.gap))) in
    let high : Known n p.strip.high_ids =
    subst (Known n) (sym j.high_ids) (composite_each (λ v. v < n) (upper S p)
    (pick_each (λ v. v < n) (rings_at S (p.gap + 1)) p.above (r (p.gap + 1)))) in
    All-contains (λ v. v < n) (p.strip.low_ids ++ p.strip.high_ids) _
    (All-append (λ v. v < n) p.strip.low_ids p.strip.high_ids low high)
    (own_ids p.strip.low_ids p.strip.high_ids x.row 0 x.word (low_ids_some S p a j) (high_ids_some S p a j) i d l k e m)

pub strips_known : (n : ℕ) (S : Parts) (s : ℕ) (ps : List PairParts) (xs : List Solution) → AreRingViews S
    → AllByRecursion (IsJoint S) ps → ((s : ℕ) → EachId (λ v. v < n) (rings_at S s))
    → All (Known n) (strip_triangles s ps xs)
strips_known n S s [] xs a j r = All-nil (Known n)
strips_known n S s (p ∷ ps) [] a j r = All-nil (Known n)
strips_known n S s (p ∷ ps) (x ∷ xs) a j r =
    All-append (Known n) (if p.gap == s then strip_tiles p x else []) (strip_triangles s ps xs) (chosen (p.gap == s))
    (strips_known n S s ps xs a j.1 r)
  where
    chosen : (b : Bool) → All (Known n) (if b then strip_tiles p x else [])
    chosen true = strip_known n S p x a j.0 r
    chosen false = All-nil (Known n)

section_known : (S : Parts) (ps : List PairParts) (xs : List Solution) → Stack S ps xs → (s : ℕ)
    → All (Known (sum_by vertices_in S.sections)) (section_triangles S ps xs s)
section_known S ps xs h s =
    let n : ℕ = sum_by vertices_in S.sections in
    let rings : List RingView = rings_at S s in
    let caps : (face : Face) → All (Known n) (caps_on face (open_on face rings ps s)) =
    λ face. caps_each (λ v. v < n) face (open_on face rings ps s) (open_views h face s)
    (pick_each (λ v. v < n) rings _ (rings_known S s)) in
    All-append (Known n) (caps_on Below (open_on Below rings ps s))
    (caps_on Above (open_on Above rings ps s) ++ strip_triangles s ps xs) (caps Below)
    (All-append (Known n) (caps_on Above (open_on Above rings ps s)) (strip_triangles s ps xs) (caps Above)
    (strips_known n S s ps xs h.rings h.pairs (rings_known S)))

pub flat_known : (n : ℕ) (f : ℕ → List (List ℕ)) → ((s : ℕ) → All (Known n) (f s)) → (ks : List ℕ)
    → All (Known n) (flat_map f ks)
flat_known n f h [] = All-nil (Known n)
flat_known n f h (k ∷ ks) = All-append (Known n) (f k) (flat_map f ks) (h k) (flat_known n f h ks)

pub surface_known : (S : Parts) (ps : List PairParts) (xs : List Solution) → Stack S ps xs
    → All (Known (sum_by vertices_in S.sections)) (surface_triangles S ps xs)
surface_known S ps xs h = flat_known (sum_by vertices_in S.sections) (section_triangles S ps xs)
    (section_known S ps xs h) (range_with_len 0 (length S.sections))
