-- The caps of the groups of one side of a section, compared with the caps of its contours: edges, numbers of triangles,
-- ids.
use Rattle.std.proofs.Common.{◌≡◌, ℕ, ◌+◌, ◌*◌, ◌<◌, ◌≤◌, Bool, Option, List, [], ◌∷◌, length, map, filter, sum_by, refl, sym, ap, ◌∙◌, arith, All}
use Rattle.std.specs.List.{range_with_len, AllByRecursion}
use Rattle.std.proofs.lemmas.List.{length-append}
use Rattle.std.proofs.lemmas.List.Elements.{All-append, All-nil}
use Rattle.std.proofs.lemmas.List.Sums.{sum_by-cons}
use Rattle.fku_types.proofs.ListLaws.{all_join, all_map}
use Rattle.fku_types.specs.declared.points.Point.{Point}
use Rattle.plane_geom.specs.Rings.{RingView}
use Rattle.plane_geom.proofs.Sums.{total, back, total-append}
use Rattle.ring_polygons.specs.Composites.{composite, view_at}
use Rattle.ring_polygons.proofs.BridgeLaws.{IsRingView, composite_length}
use Rattle.ring_polygons.specs.declared.twins.Twins.TheVariants.{Pass}
use Rattle.ring_polygons.specs.declared.faces.Face.{Face}
use Rattle.ring_polygons.specs.declared.faces.Face.TheVariants.{Below, Above}
use Rattle.ring_polygons.specs.Caps.{places_by, top_cap}
use Rattle.ring_polygons.proofs.CapLaws.{corners_by_of}
use Rattle.ring_polygons.proofs.CutLaws.{HasThree, cut_three, cut_count}
use Rattle.ring_polygons.proofs.Turned.{cut_all, turned_total, faced_all, length-faced}
use Rattle.section_pairs.specs.Rings.{pick}
use Rattle.surface_core.specs.Surfaces.{others, tops, caps_on}
use Rattle.surface_core.proofs.PlaceSums.{adds, weight, pick_weight}
use Rattle.surface_core.proofs.RingFacts.{edges, size, picked, length-pick, total_edges, tops_total, tops_three, top_length, composite_size}
use Rattle.surface_core.proofs.SurfaceSums.{ones}
use Rattle.section_pairs.proofs.RingIds.{EachId, pick_each, composite_each, Known}
use Rattle.ring_caps.specs.GroupCaps.{group_cap, group_folded}
use Rattle.ring_caps.specs.Groups.{parent, begins, group, groups, is_capped, side_groups}
use Rattle.ring_caps.specs.RingSurfaces.{ring_tops, ring_caps_on, groups_folded}
use Rattle.ring_caps.proofs.GroupSums.{group_adds}
use Rattle.ring_caps.proofs.GroupLists.{filter_all}
use Rattle.ring_caps.proofs.Families.{families}
use Rattle.ring_caps.proofs.GroupLaws.{group_view, group_total, folded_short}

-- the places of a group exist, and there is at least one
pub record IsPicked (n : ℕ) (g : List ℕ) : Type 0 where
  pub some : 0 < length g
  pub there : AllByRecursion (λ k. k < n) g

pub groups_there : (capped : ℕ → Bool) (parents : ℕ → Option ℕ) (n : ℕ)
    → AllByRecursion (IsPicked n) (groups capped parents n)
groups_there capped parents n =
    all_map (IsPicked n) (group capped parents n) (filter (begins capped parents) (range_with_len 0 n))
    (filter_all (λ k. IsPicked n (group capped parents n k)) (begins capped parents) 0 n (λ k a l b. record {
      some = omega arith;
      there = (omega arith, filter_all (λ j. j < n) _ 0 n (λ j c m t. omega arith));
    }))

-- the rings of a group
pub group_rings : (rings : List RingView) (g : List ℕ) → AllByRecursion IsRingView rings → IsPicked (length rings) g
    → AllByRecursion IsRingView (pick rings g)
group_rings rings g h p = picked rings g h p.there

pub group_some : (rings : List RingView) (g : List ℕ) → IsPicked (length rings) g → 0 < length (pick rings g)
group_some rings g p = omega (arith, p.some, length-pick rings g)

-- the sum of a weight over the rings of groups
abbrev pub groups_weight : (RingView → ℕ) → List RingView → List (List ℕ) → ℕ
groups_weight w rings [] = 0
groups_weight w rings (g ∷ gs) = weight w (pick rings g) + groups_weight w rings gs

mapped_weight : (w : RingView → ℕ) (rings : List RingView) (f : ℕ → List ℕ) (ks : List ℕ)
    → groups_weight w rings (map f ks) ≡ adds (λ k. adds (λ i. w (view_at rings i)) (f k)) ks
mapped_weight w rings f [] = refl
mapped_weight w rings f (k ∷ ks) = omega (arith, mapped_weight w rings f ks, pick_weight w rings (f k))

-- it is that over the rings with a cap
pub side_weight : (w : RingView → ℕ) (outlines : List (List Point)) (rings : List RingView) (joined : List ℕ)
    → length rings ≡ length outlines → groups_weight w rings (side_groups outlines joined)
    ≡ weight w (others rings joined)
side_weight w outlines rings joined e =
    let n : ℕ = length outlines in
    let r : ℕ → ℕ = λ i. w (view_at rings i) in
    let capped : ℕ → Bool = is_capped joined in
    mapped_weight w rings (group capped (parent outlines) n)
    (filter (begins capped (parent outlines)) (range_with_len 0 n))
    ∙ group_adds r capped (parent outlines) n (families outlines)
    ∙ ap (λ (m : ℕ). adds r (filter capped (range_with_len 0 m))) (sym e)
    ∙ sym (pick_weight w rings (filter capped (range_with_len 0 (length rings))))

-- ---- edges
groups_total : (f : ℕ → ℕ → ℕ) (rings : List RingView) (gs : List (List ℕ)) → AllByRecursion IsRingView rings
    → AllByRecursion (IsPicked (length rings)) gs →
    total f (ring_tops rings gs) + groups_weight (edges (back f)) rings gs ≡ total (back f) (ring_tops rings gs)
    + groups_weight (edges f) rings gs
groups_total f rings [] h p = refl
groups_total f rings (g ∷ gs) h p =
    let here : List RingView = pick rings g in
    omega (
      arith,
      groups_total f rings gs h p.1,
      group_total f here (group_rings rings g h p.0) (group_some rings g p.0),
      total_edges f here,
      total_edges (back f) here,
      total-append f (group_cap here) (ring_tops rings gs),
      total-append (back f) (group_cap here) (ring_tops rings gs),
    )

pub groups_three : (rings : List RingView) (gs : List (List ℕ)) → AllByRecursion IsRingView rings
    → AllByRecursion (IsPicked (length rings)) gs → AllByRecursion HasThree (ring_tops rings gs)
groups_three rings [] h p = tt
groups_three rings (g ∷ gs) h p =
    let ring = group_view (pick rings g) (group_rings rings g h p.0) (group_some rings g p.0) in
    let whole : RingView = composite (pick rings g) in
    all_join HasThree (group_cap (pick rings g)) (ring_tops rings gs)
    (cut_three 0 (places_by Pass whole.points) whole.ids
    (corners_by_of Pass whole.points whole.ids ring.enough ring.same)) (groups_three rings gs h p.1)

-- the facts on a section and one of its faces
pub record Side (outlines : List (List Point)) (rings : List RingView) (joined : List ℕ) : Type 0 where
  pub count : length rings ≡ length outlines
  pub views : AllByRecursion IsRingView rings
  pub ends : AllByRecursion IsRingView (others rings joined)
  pub groups : AllByRecursion (IsPicked (length rings)) (side_groups outlines joined)

-- the caps of groups leave over what the caps of their contours do
tops_same : (f : ℕ → ℕ → ℕ) (outlines : List (List Point)) (rings : List RingView) (joined : List ℕ)
    → Side outlines rings joined →
    total f (ring_tops rings (side_groups outlines joined)) + total (back f) (tops (others rings joined))
    ≡ total (back f) (ring_tops rings (side_groups outlines joined)) + total f (tops (others rings joined))
tops_same f outlines rings joined k =
    omega (
      arith,
      groups_total f rings (side_groups outlines joined) k.views k.groups,
      tops_total f (others rings joined) k.ends,
      side_weight (edges f) outlines rings joined k.count,
      side_weight (edges (back f)) outlines rings joined k.count,
    )

pub face_same : (f : ℕ → ℕ → ℕ) (face : Face) (outlines : List (List Point)) (rings : List RingView) (joined : List ℕ)
    → Side outlines rings joined →
    total f (ring_caps_on face rings (side_groups outlines joined))
    + total (back f) (caps_on face (others rings joined))
    ≡ total (back f) (ring_caps_on face rings (side_groups outlines joined))
    + total f (caps_on face (others rings joined))
face_same f Above outlines rings joined k = tops_same f outlines rings joined k
face_same f Below outlines rings joined k =
    let made : List (List ℕ) = ring_tops rings (side_groups outlines joined) in
    let plain : List (List ℕ) = tops (others rings joined) in
    let made_three = groups_three rings (side_groups outlines joined) k.views k.groups in
    let plain_three = tops_three (others rings joined) k.ends in
    omega (
      arith,
      tops_same f outlines rings joined k,
      turned_total f made made_three,
      turned_total (back f) made made_three,
      turned_total f plain plain_three,
      turned_total (back f) plain plain_three,
    )

-- ---- how many triangles
group_length : (rings : List RingView) → AllByRecursion IsRingView rings → 0 < length rings
    → length (group_cap rings) + 4 ≡ weight size rings
group_length rings h some =
    let k = composite_length rings h some in
    let whole : RingView = composite rings in
    omega (
      arith,
      k.0,
      sizes rings,
      cut_count 0 (places_by Pass whole.points) whole.ids
          (corners_by_of Pass whole.points whole.ids k.1.enough k.1.same),
    )
  where
    sizes : (rings : List RingView) → sum_by (λ (r : RingView). length r.ids) rings + 2 * length rings
        ≡ weight size rings
    sizes [] = refl
    sizes (r ∷ rings) = omega (arith, sizes rings, sum_by-cons (λ (r : RingView). length r.ids) r rings)

groups_length : (rings : List RingView) (gs : List (List ℕ)) → AllByRecursion IsRingView rings
    → AllByRecursion (IsPicked (length rings)) gs
    → length (ring_tops rings gs) + 4 * length gs ≡ groups_weight size rings gs
groups_length rings [] h p = refl
groups_length rings (g ∷ gs) h p =
    omega (
      arith,
      groups_length rings gs h p.1,
      group_length (pick rings g) (group_rings rings g h p.0) (group_some rings g p.0),
      length-append (group_cap (pick rings g)) (ring_tops rings gs),
    )

groups_few : (rings : List RingView) (gs : List (List ℕ)) → AllByRecursion (IsPicked (length rings)) gs
    → length gs ≤ groups_weight (λ r. 1) rings gs
groups_few rings [] p = omega arith
groups_few rings (g ∷ gs) p = omega (arith, groups_few rings gs p.1, ones (pick rings g), group_some rings g p.0)

caps_length : (rings : List RingView) → AllByRecursion IsRingView rings
    → length (tops rings) + 4 * length rings ≡ weight size rings
caps_length [] h = refl
caps_length (r ∷ rings) h = omega (
  arith,
  caps_length rings h.1,
  top_length r h.0,
  h.0.enough,
  length-append (top_cap r.points r.ids) (tops rings),
)

-- at least as many as in the caps of the contours, and a few more
pub record IsLength (made plain rings : ℕ) : Type 0 where
  pub enough : plain ≤ made
  pub few : made ≤ plain + 4 * rings

pub face_length : (face : Face) (outlines : List (List Point)) (rings : List RingView) (joined : List ℕ)
    → Side outlines rings joined →
    IsLength (length (ring_caps_on face rings (side_groups outlines joined)))
    (length (caps_on face (others rings joined))) (length (others rings joined))
face_length face outlines rings joined k =
    let gs : List (List ℕ) = side_groups outlines joined in
    let made = groups_length rings gs k.views k.groups in
    let plain = caps_length (others rings joined) k.ends in
    let all = side_weight size outlines rings joined k.count in
    let made_faced = length-faced face (ring_tops rings gs) in
    let plain_faced = length-faced face (tops (others rings joined)) in
    record {
      enough = omega (
        arith,
        made,
        plain,
        all,
        made_faced,
        plain_faced,
        groups_few rings gs k.groups,
        side_weight (λ r. 1) outlines rings joined k.count,
        ones (others rings joined),
      );
      few = omega (arith, made, plain, all, made_faced, plain_faced);
    }

-- ---- folded triangles
group_folded_few : (rings : List RingView) → AllByRecursion IsRingView rings → 0 < length rings
    → group_folded rings ≤ weight size rings
group_folded_few rings h some =
    let ring = group_view rings h some in
    let points : List Point = (composite rings).points in
    omega (
      arith,
      folded_short Pass points (omega (arith, ring.same, ring.enough)),
      ring.same,
      (composite_size rings h some).0,
    )

groups_folded_few : (rings : List RingView) (gs : List (List ℕ)) → AllByRecursion IsRingView rings
    → AllByRecursion (IsPicked (length rings)) gs → groups_folded rings gs ≤ groups_weight size rings gs
groups_folded_few rings [] h p = omega arith
groups_folded_few rings (g ∷ gs) h p =
    omega (
      arith,
      groups_folded_few rings gs h p.1,
      group_folded_few (pick rings g) (group_rings rings g h p.0) (group_some rings g p.0),
      sum_by-cons (λ (k : List ℕ). group_folded (pick rings k)) g gs,
    )

pub side_folded : (outlines : List (List Point)) (rings : List RingView) (joined : List ℕ) → Side outlines rings joined
    → groups_folded rings (side_groups outlines joined) ≤ weight size (others rings joined)
side_folded outlines rings joined k =
    omega (
      arith,
      groups_folded_few rings (side_groups outlines joined) k.views k.groups,
      side_weight size outlines rings joined k.count,
    )

-- ---- ids
pub groups_each : (P : ℕ → Type 0) (rings : List RingView) (gs : List (List ℕ)) → AllByRecursion IsRingView rings
    → AllByRecursion (IsPicked (length rings)) gs
    → AllByRecursion (λ (g : List ℕ). All P (composite (pick rings g)).ids) gs → All (All P) (ring_tops rings gs)
groups_each P rings [] h p k = All-nil (All P)
groups_each P rings (g ∷ gs) h p k =
    let ring = group_view (pick rings g) (group_rings rings g h p.0) (group_some rings g p.0) in
    let whole : RingView = composite (pick rings g) in
    All-append (All P) (group_cap (pick rings g)) (ring_tops rings gs)
    (cut_all P 0 (places_by Pass whole.points) whole.ids
    (corners_by_of Pass whole.points whole.ids ring.enough ring.same) k.0) (groups_each P rings gs h p.1 k.1)

pub composites_each : (P : ℕ → Type 0) (rings : List RingView) (gs : List (List ℕ)) → EachId P rings
    → AllByRecursion (λ (g : List ℕ). All P (composite (pick rings g)).ids) gs
composites_each P rings [] h = tt
composites_each P rings (g ∷ gs) h =
    (composite_each P (pick rings g) (pick_each P rings g h), composites_each P rings gs h)

pub face_known : (n : ℕ) (face : Face) (rings : List RingView) (gs : List (List ℕ)) → AllByRecursion IsRingView rings
    → AllByRecursion (IsPicked (length rings)) gs → EachId (λ v. v < n) rings
    → All (Known n) (ring_caps_on face rings gs)
face_known n face rings gs h p k =
    faced_all (λ v. v < n) face (ring_tops rings gs) (groups_three rings gs h p)
    (groups_each (λ v. v < n) rings gs h p (composites_each (λ v. v < n) rings gs k))
