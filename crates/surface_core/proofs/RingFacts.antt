-- Rings and their composites: how long they are, and what they leave over.
use Rattle.std.proofs.Common.{◌≡◌, ℕ, suc, ◌+◌, ◌*◌, ◌<◌, ◌≤◌, List, [], ◌∷◌, length, sum_by, refl, ap, arith}
use Rattle.std.specs.List.{AllByRecursion}
use Rattle.std.proofs.lemmas.List.{length-append}
use Rattle.std.proofs.lemmas.List.Sums.{sum_by-cons}
use Rattle.fku_types.proofs.ListLaws.{all_join}
use Rattle.plane_geom.specs.Rings.{RingView}
use Rattle.plane_geom.proofs.Sums.{ring_sum, total, back, total-append}
use Rattle.ring_polygons.specs.Composites.{composite, ids_of}
use Rattle.ring_polygons.proofs.BridgeLaws.{IsRingView, view_get, composite_total, composite_length}
use Rattle.ring_polygons.specs.declared.faces.Face.{Face}
use Rattle.ring_polygons.specs.declared.faces.Face.TheVariants.{Below}
use Rattle.ring_polygons.specs.Caps.{top_cap, cap_places}
use Rattle.ring_polygons.proofs.CapLaws.{top_total, cap_three, cap_corners_of}
use Rattle.ring_polygons.proofs.CutLaws.{HasThree, cut_count}
use Rattle.ring_polygons.proofs.Turned.{turned_total, length-faced}
use Rattle.section_pairs.specs.Rings.{pick}
use Rattle.surface_core.specs.Surfaces.{tops, caps_on}
use Rattle.surface_core.proofs.PlaceSums.{weight}

-- the edges of a ring, weighed
abbrev pub edges : (ℕ → ℕ → ℕ) → RingView → ℕ
edges f r = ring_sum f r.ids

-- a bound on the triangles that a ring has a share in on one side
abbrev pub size : RingView → ℕ
size r = length r.ids + 2

pub picked : (rings : List RingView) (places : List ℕ) → AllByRecursion IsRingView rings
    → AllByRecursion (λ k. k < length rings) places → AllByRecursion IsRingView (pick rings places)
picked rings [] r h = tt
picked rings (k ∷ ks) r h = (view_get rings k r h.0, picked rings ks r h.1)

pub length-pick : (rings : List RingView) (places : List ℕ) → length (pick rings places) ≡ length places
length-pick rings [] = refl
length-pick rings (k ∷ ks) = ap suc (length-pick rings ks)

pub total_edges : (f : ℕ → ℕ → ℕ) (rings : List RingView) → total f (ids_of rings) ≡ weight (edges f) rings
total_edges f [] = refl
total_edges f (r ∷ rings) = omega (arith, total_edges f rings)

-- a composite has the edges of its rings, without those of bridges
pub composite_edges : (f : ℕ → ℕ → ℕ) (rings : List RingView) → AllByRecursion IsRingView rings
    → ring_sum f (composite rings).ids + weight (edges (back f)) rings ≡ ring_sum (back f) (composite rings).ids
    + weight (edges f) rings
composite_edges f rings h = omega (arith, composite_total f rings h, total_edges f rings, total_edges (back f) rings)

-- caps leave over their rings
pub tops_total : (f : ℕ → ℕ → ℕ) (rings : List RingView) → AllByRecursion IsRingView rings
    → total f (tops rings) + weight (edges (back f)) rings ≡ total (back f) (tops rings) + weight (edges f) rings
tops_total f [] h = refl
tops_total f (r ∷ rings) h =
    omega (
      arith,
      tops_total f rings h.1,
      top_total f r.points r.ids h.0.enough h.0.same,
      total-append f (top_cap r.points r.ids) (tops rings),
      total-append (back f) (top_cap r.points r.ids) (tops rings),
    )

pub tops_three : (rings : List RingView) → AllByRecursion IsRingView rings → AllByRecursion HasThree (tops rings)
tops_three [] h = tt
tops_three (r ∷ rings) h = all_join HasThree (top_cap r.points r.ids) (tops rings)
    (cap_three r.points r.ids h.0.enough h.0.same) (tops_three rings h.1)

pub bottoms_total : (f : ℕ → ℕ → ℕ) (rings : List RingView) → AllByRecursion IsRingView rings
    → total f (caps_on Below rings) + weight (edges f) rings ≡ total (back f) (caps_on Below rings)
    + weight (edges (back f)) rings
bottoms_total f rings h =
    let three = tops_three rings h in
    omega (arith, tops_total f rings h, turned_total f (tops rings) three, turned_total (back f) (tops rings) three)

-- how many triangles caps have
pub top_length : (r : RingView) → IsRingView r → length (top_cap r.points r.ids) + 2 ≡ length r.ids
top_length r h = cut_count 0 (cap_places r.points) r.ids (cap_corners_of r.points r.ids h.enough h.same)

tops_length : (rings : List RingView) → AllByRecursion IsRingView rings → (length (tops rings) ≤ weight size rings)
    × (length rings ≤ length (tops rings))
tops_length [] h = (omega arith, omega arith)
tops_length (r ∷ rings) h =
    let more = tops_length rings h.1 in
    let here = top_length r h.0 in
    let n = length-append (top_cap r.points r.ids) (tops rings) in
    (omega (arith, more.0, here, n), omega (arith, more.1, here, h.0.enough, n))

pub caps_length : (face : Face) (rings : List RingView) → AllByRecursion IsRingView rings
    → (length (caps_on face rings) ≤ weight size rings) × (length rings ≤ length (caps_on face rings))
caps_length face rings h =
    let same = length-faced face (tops rings) in
    let n = tops_length rings h in
    (omega (arith, same, n.0), omega (arith, same, n.1))

-- how long a composite is
sizes : (rings : List RingView) → sum_by (λ (r : RingView). length r.ids) rings + 2 * length rings ≡ weight size rings
sizes [] = refl
sizes (r ∷ rings) = omega (arith, sizes rings, sum_by-cons (λ (r : RingView). length r.ids) r rings)

large : (rings : List RingView) → AllByRecursion IsRingView rings → 5 * length rings ≤ weight size rings
large [] h = omega arith
large (r ∷ rings) h = omega (arith, large rings h.1, h.0.enough)

pub composite_size : (rings : List RingView) → AllByRecursion IsRingView rings → 0 < length rings
    → (length (composite rings).ids ≤ weight size rings) × (length rings ≤ length (composite rings).ids)
composite_size rings h some =
    let k = (composite_length rings h some).0 in
    (omega (arith, k, sizes rings), omega (arith, k, sizes rings, large rings h, some))
