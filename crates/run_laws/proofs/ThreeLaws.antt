-- The triangles of surfaces have three ids each.
use Rattle.std.proofs.Common.{◌≡◌, ℕ, zero, suc, ◌+◌, ◌≤◌, ◌≤ℤ◌, ℤ, pos, negsuc, List, [], ◌∷◌, length, map, sym, subst, ◌∙◌, arith}
use Rattle.std.specs.Prelude.{slice_index_or}
use Rattle.std.specs.List.{AllByRecursion, AllZip, range_with_len}
use Rattle.std.proofs.lemmas.Int.{ints}
use Rattle.std.proofs.lemmas.List.{length-map}
use Rattle.std.proofs.lemmas.List.Elements.{All-from_recursion}
use Rattle.fku_types.specs.declared.points.Point.{Point}
use Rattle.fku_types.proofs.ListLaws.{all_join, all_front, all_rest}
use Rattle.section_core.specs.Parts.{ContourParts, SectionParts, ObjectParts, Parts, FileParts, asked, contours_of}
use Rattle.section_core.specs.Accepted.{IsAccepted}
use Rattle.section_core.proofs.OneObject.{parts_in}
use Rattle.section_edits.specs.Ready.{IsWholeContour}
use Rattle.section_edits.proofs.Lawful.{ready}
use Rattle.correspondence.specs.Outlines.{layer, layer_at, spot_point}
use Rattle.ring_polygons.proofs.CutLaws.{HasThree}
use Rattle.triangle_meshes.specs.Meshes.{Surface, surface_of}
use Rattle.triangle_meshes.specs.Joined.{joined_parts, raised, raised_part}
use Rattle.section_pairs.specs.Rings.{first_vertex}
use Rattle.surface_core.specs.declared.surfaces.Built.{Built}
use Rattle.surface_core.specs.Surfaces.{IsBuilt, section_triangles, surface_triangles}
use Rattle.surface_core.specs.Objects.{AreBuiltBy, alone, surfaces_of}
use Rattle.surface_core.proofs.SectionFacts.{oriented_views, rings_count}
use Rattle.surface_core.proofs.StripSums.{AreRingViews}
use Rattle.surface_core.proofs.SurfaceSums.{stack}
use Rattle.ring_caps.specs.RingSurfaces.{IsRingBuilt, ring_section, ring_triangles}
use Rattle.ring_caps.proofs.ObjectVolumes.{flat_three, plain_three, ring_three}

-- ---- rings of at least three points
-- the contours of accepted sections have at least three points
pub enough : (n : ℕ) (z : ℤ) → n ≡ asked z → pos 3 ≤ℤ z → 3 ≤ n
enough n (pos k) e l = let m : 3 ≤ k = omega (arith, ints) in omega (arith, m, e)
enough n (negsuc k) e l = absurd (omega (arith, ints))

abbrev AreLong : List (List Point) → Type 0
AreLong outlines = AllByRecursion (λ points. 3 ≤ length points) outlines

long_outlines : (z : ℤ) (cs : List ContourParts) → AllByRecursion IsWholeContour cs
    → AreLong (map (λ (c : ContourParts). map (spot_point z) c.points) cs)
long_outlines z [] h = tt
long_outlines z (c ∷ cs) h = (
  let l : 3 ≤ length c.points = enough (length c.points) c.count h.0.0.1 h.0.1 in
      omega (arith, l, length-map c.points (spot_point z)),
  long_outlines z cs h.1,
)

long_layers : (ss : List SectionParts) (s : ℕ) → AllByRecursion IsWholeContour (contours_of ss)
    → AreLong (layer (slice_index_or ss s (record { z = pos 0; contours = [] }))).outlines
long_layers [] s h = tt
long_layers (x ∷ ss) zero h = long_outlines x.z x.contours (all_front IsWholeContour x.contours (contours_of ss) h)
long_layers (x ∷ ss) (suc s) h = long_layers ss s (all_rest IsWholeContour x.contours (contours_of ss) h)

ring_views : (S : Parts) → IsAccepted S → AreRingViews S
ring_views S a = record {
  views = λ s. (let outlines = (layer_at S s).outlines in
      oriented_views (first_vertex S s) outlines
      (All-from_recursion (λ (points : List Point). 3 ≤ length points) outlines
      (long_layers S.sections s (ready S a).contours)));
  counts = rings_count S;
}

-- ---- surfaces
abbrev pub AreThree : Surface → Type 0
AreThree s = AllByRecursion (AllByRecursion HasThree) s.parts

one_part : (parts : List (List (List ℕ))) (ts : List (List ℕ)) → parts ≡ ts ∷ [] → AllByRecursion HasThree ts
    → AllByRecursion (AllByRecursion HasThree) parts
one_part parts ts e h = subst (λ (ps : List (List (List ℕ))). AllByRecursion (AllByRecursion HasThree) ps) (sym e)
    (h, tt)

pub plain_built : (S : Parts) (b : Built) → IsAccepted S → IsBuilt S b → AreThree (surface_of b.mesh)
plain_built S b a h =
    let k = stack S h.pairs h.solutions (ring_views S a) h.are_pairs h.chosen in
    one_part (surface_of b.mesh).parts (surface_triangles S h.pairs h.solutions) h.surface.one_part
    (flat_three (section_triangles S h.pairs h.solutions) (plain_three S h.pairs h.solutions k)
    (range_with_len 0 (length S.sections)))

pub ring_built : (S : Parts) (b : Built) → IsAccepted S → IsRingBuilt S b → AreThree (surface_of b.mesh)
ring_built S b a is =
    let h = is.is_built in
    let k = stack S h.pairs h.solutions (ring_views S a) h.are_pairs h.chosen in
    one_part (surface_of b.mesh).parts (ring_triangles S h.pairs h.solutions) h.surface.one_part
    (flat_three (ring_section S h.pairs h.solutions) (ring_three S h.pairs h.solutions k)
    (range_with_len 0 (length S.sections)))

-- ---- surfaces of objects, in order
part_raised : (by : ℕ) (ts : List (List ℕ)) → AllByRecursion HasThree ts → AllByRecursion HasThree (raised_part by ts)
part_raised by [] h = tt
part_raised by (t ∷ ts) h = (length-map t (λ id. id + by) ∙ h.0, part_raised by ts h.1)

parts_raised : (by : ℕ) (parts : List (List (List ℕ))) → AllByRecursion (AllByRecursion HasThree) parts
    → AllByRecursion (AllByRecursion HasThree) (raised by parts)
parts_raised by [] h = tt
parts_raised by (part ∷ parts) h = (part_raised by part h.0, parts_raised by parts h.1)

all_joined : (before : ℕ) (meshes : List Surface) → AllByRecursion AreThree meshes
    → AllByRecursion (AllByRecursion HasThree) (joined_parts before meshes)
all_joined before [] h = tt
all_joined before (s ∷ meshes) h =
    all_join (AllByRecursion HasThree) (raised before s.parts) (joined_parts (before + length s.vertices) meshes)
    (parts_raised before s.parts h.0) (all_joined (before + length s.vertices) meshes h.1)

each_built : (Is : Parts → Built → Type 0)
    → ((S : Parts) (b : Built) → IsAccepted S → Is S b → AreThree (surface_of b.mesh))
    → (F : FileParts) (os : List ObjectParts) (bs : List Built)
    → AllByRecursion (λ (o : ObjectParts). IsAccepted (parts_in F.cost F.rule o)) os → AllZip Is (map (alone F) os) bs
    → AllByRecursion AreThree (surfaces_of bs)
each_built Is one F [] [] a h = tt
each_built Is one F [] (b ∷ bs) a h = absurd h
each_built Is one F (o ∷ os) [] a h = absurd h
each_built Is one F (o ∷ os) (b ∷ bs) a h = (one (alone F o) b a.0 h.0, each_built Is one F os bs a.1 h.1)

pub all_three : (Is : Parts → Built → Type 0)
    → ((S : Parts) (b : Built) → IsAccepted S → Is S b → AreThree (surface_of b.mesh)) → (F : FileParts) (b : Built)
    → AllByRecursion (λ (o : ObjectParts). IsAccepted (parts_in F.cost F.rule o)) F.objects → AreBuiltBy Is F b
    → AreThree (surface_of b.mesh)
all_three Is one F b a h = subst AreThree (sym h.whole.mesh)
    (all_joined 0 (surfaces_of h.each) (each_built Is one F F.objects h.each a h.built))
