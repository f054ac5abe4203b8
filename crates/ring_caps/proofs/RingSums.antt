-- The triangles of all sections with caps of groups: they are closed, how many there are, and of which vertices.
use Rattle.std.proofs.Common.{◌≡◌, ℕ, ◌+◌, ◌*◌, ◌≤◌, not, filter, List, [], ◌∷◌, ◌++◌, length, flat_map, sum_by, refl, sym, arith, subst, All}
use Rattle.std.specs.List.{range_with_len, AllByRecursion}
use Rattle.std.proofs.lemmas.List.{length-append}
use Rattle.std.proofs.lemmas.List.FromFn.{length-range_with_len}
use Rattle.std.proofs.lemmas.List.Elements.{All-append}
use Rattle.std.proofs.lemmas.List.Sums.{sum_by-cons}
use Rattle.fku_types.specs.declared.points.Point.{Point}
use Rattle.plane_geom.specs.Rings.{RingView, IsClosed}
use Rattle.plane_geom.proofs.Sums.{total, back, total-append}
use Rattle.plane_geom.proofs.Counts.{closed}
use Rattle.plane_geom.proofs.Balance.{closed_total}
use Rattle.row_paths.specs.Solutions.{Solution}
use Rattle.section_core.specs.Parts.{Parts}
use Rattle.correspondence.specs.Outlines.{layer_at}
use Rattle.correspondence.specs.Places.{has}
use Rattle.ring_polygons.specs.declared.faces.Face.{Face}
use Rattle.ring_polygons.specs.declared.faces.Face.TheVariants.{Below, Above}
use Rattle.section_pairs.specs.Rings.{rings_at, vertices_in}
use Rattle.section_pairs.specs.Pairs.{PairParts}
use Rattle.surface_core.specs.Surfaces.{joined_on, open_on, caps_on, strip_triangles, section_triangles, surface_triangles, others}
use Rattle.section_pairs.specs.SectionFaults.{ArePairs}
use Rattle.surface_core.specs.Caps.{DoClose}
use Rattle.surface_core.proofs.PlaceSums.{weight}
use Rattle.surface_core.proofs.Totals.{sums_within}
use Rattle.surface_core.proofs.StripSums.{AreRingViews}
use Rattle.surface_core.proofs.RingFacts.{size, length-pick}
use Rattle.surface_core.proofs.SurfaceSums.{Stack, stack, open_views, open_weight, surface_closed, surface_length, surface_some}
use Rattle.surface_core.proofs.SectionFacts.{AreFew, contour_count, rings_count, whole_size, all_counts, points_count, same_counts}
use Rattle.section_pairs.proofs.RingIds.{Known, rings_known}
use Rattle.surface_core.proofs.KnownIds.{strips_known, flat_known}
use Rattle.ring_caps.specs.Groups.{parent, is_capped, side_groups}
use Rattle.ring_caps.specs.RingSurfaces.{groups_on, face_triangles, ring_section, ring_triangles, ring_section_folded, ring_folded, by_group}
use Rattle.ring_caps.proofs.MarkedGroups.{filter_few}
use Rattle.ring_caps.proofs.SideSums.{IsPicked, Side, groups_there, face_same, face_length, side_folded, face_known}

-- a face of a section
pub side : (S : Parts) (ps : List PairParts) (xs : List Solution) → Stack S ps xs → (s : ℕ) (face : Face)
    → Side (layer_at S s).outlines (rings_at S s) (joined_on face ps s)
side S ps xs h s face =
    let outlines : List (List Point) = (layer_at S s).outlines in
    let joined : List ℕ = joined_on face ps s in
    record {
      count = rings_count S s;
      views = h.rings.views s;
      ends = open_views h face s;
      groups = subst (λ (n : ℕ). AllByRecursion (IsPicked n) (side_groups outlines joined)) (sym (rings_count S s))
          (groups_there (is_capped joined) (parent outlines) (length outlines));
    }

-- ---- closed
section_same : (f : ℕ → ℕ → ℕ) (S : Parts) (ps : List PairParts) (xs : List Solution) → Stack S ps xs → (s : ℕ) →
    total f (ring_section S ps xs s) + total (back f) (section_triangles S ps xs s)
    ≡ total (back f) (ring_section S ps xs s) + total f (section_triangles S ps xs s)
section_same f S ps xs h s =
    let rings : List RingView = rings_at S s in
    let outlines : List (List Point) = (layer_at S s).outlines in
    let bs : List (List ℕ) = face_triangles Below S ps s in
    let ts : List (List ℕ) = face_triangles Above S ps s in
    let plain_bs : List (List ℕ) = caps_on Below (open_on Below rings ps s) in
    let plain_ts : List (List ℕ) = caps_on Above (open_on Above rings ps s) in
    let gs : List (List ℕ) = strip_triangles s ps xs in
    omega (
      arith,
      face_same f Below outlines rings (joined_on Below ps s) (side S ps xs h s Below),
      face_same f Above outlines rings (joined_on Above ps s) (side S ps xs h s Above),
      total-append f bs (ts ++ gs),
      total-append f ts gs,
      total-append (back f) bs (ts ++ gs),
      total-append (back f) ts gs,
      total-append f plain_bs (plain_ts ++ gs),
      total-append f plain_ts gs,
      total-append (back f) plain_bs (plain_ts ++ gs),
      total-append (back f) plain_ts gs,
    )

sections_same : (f : ℕ → ℕ → ℕ) (S : Parts) (ps : List PairParts) (xs : List Solution) → Stack S ps xs → (ks : List ℕ) →
    total f (flat_map (ring_section S ps xs) ks) + total (back f) (flat_map (section_triangles S ps xs) ks)
    ≡ total (back f) (flat_map (ring_section S ps xs) ks) + total f (flat_map (section_triangles S ps xs) ks)
sections_same f S ps xs h [] = refl
sections_same f S ps xs h (k ∷ ks) =
    let made : List (List ℕ) = ring_section S ps xs k in
    let plain : List (List ℕ) = section_triangles S ps xs k in
    omega (
      arith,
      section_same f S ps xs h k,
      sections_same f S ps xs h ks,
      total-append f made (flat_map (ring_section S ps xs) ks),
      total-append (back f) made (flat_map (ring_section S ps xs) ks),
      total-append f plain (flat_map (section_triangles S ps xs) ks),
      total-append (back f) plain (flat_map (section_triangles S ps xs) ks),
    )

pub ring_closed : (S : Parts) (ps : List PairParts) (xs : List Solution) → Stack S ps xs
    → IsClosed (ring_triangles S ps xs)
ring_closed S ps xs h =
    let all : List ℕ = range_with_len 0 (length S.sections) in
    closed (ring_triangles S ps xs) (λ f.
    omega (
      arith,
      sections_same f S ps xs h all,
      closed_total (surface_triangles S ps xs) (surface_closed S ps xs h) f,
    ))

-- ---- how many
others_few : (rings : List RingView) (joined : List ℕ) → length (others rings joined) ≤ length rings
others_few rings joined =
    omega (
      arith,
      length-pick rings (filter (λ k. not (has k joined)) (range_with_len 0 (length rings))),
      filter_few (λ k. not (has k joined)) (range_with_len 0 (length rings)),
      length-range_with_len 0 (length rings),
    )

section_length : (S : Parts) (ps : List PairParts) (xs : List Solution) → Stack S ps xs → (s : ℕ) →
    (length (section_triangles S ps xs s) ≤ length (ring_section S ps xs s))
    × (length (ring_section S ps xs s) ≤ length (section_triangles S ps xs s) + 8 * length (rings_at S s))
section_length S ps xs h s =
    let rings : List RingView = rings_at S s in
    let outlines : List (List Point) = (layer_at S s).outlines in
    let bs : List (List ℕ) = face_triangles Below S ps s in
    let ts : List (List ℕ) = face_triangles Above S ps s in
    let plain_bs : List (List ℕ) = caps_on Below (open_on Below rings ps s) in
    let plain_ts : List (List ℕ) = caps_on Above (open_on Above rings ps s) in
    let gs : List (List ℕ) = strip_triangles s ps xs in
    let below = face_length Below outlines rings (joined_on Below ps s) (side S ps xs h s Below) in
    let above = face_length Above outlines rings (joined_on Above ps s) (side S ps xs h s Above) in
    let n = length-append bs (ts ++ gs) in
    let m = length-append ts gs in
    let i = length-append plain_bs (plain_ts ++ gs) in
    let j = length-append plain_ts gs in (
      omega (arith, below.enough, above.enough, n, m, i, j),
      omega (
        arith,
        below.few,
        above.few,
        n,
        m,
        i,
        j,
        others_few rings (joined_on Below ps s),
        others_few rings (joined_on Above ps s),
      ),
    )

sections_length : (S : Parts) (ps : List PairParts) (xs : List Solution) → Stack S ps xs → (ks : List ℕ) →
    (length (flat_map (section_triangles S ps xs) ks) ≤ length (flat_map (ring_section S ps xs) ks))
    × (length (flat_map (ring_section S ps xs) ks) ≤ length (flat_map (section_triangles S ps xs) ks)
    + 8 * sum_by (λ j. length (rings_at S j)) ks)
sections_length S ps xs h [] = (omega arith, omega arith)
sections_length S ps xs h (k ∷ ks) =
    let here = section_length S ps xs h k in
    let more = sections_length S ps xs h ks in
    let n = length-append (ring_section S ps xs k) (flat_map (ring_section S ps xs) ks) in
    let m = length-append (section_triangles S ps xs k) (flat_map (section_triangles S ps xs) ks) in (
      omega (arith, here.0, more.0, n, m),
      omega (arith, here.1, more.1, n, m, sum_by-cons (λ (j : ℕ). length (rings_at S j)) k ks),
    )

pub ring_few : (S : Parts) (ps : List PairParts) (xs : List Solution) → Stack S ps xs
    → length (ring_triangles S ps xs) ≤ 2 * sum_by vertices_in S.sections + 12 * sum_by contour_count S.sections
ring_few S ps xs h = omega (
  arith,
  (sections_length S ps xs h (range_with_len 0 (length S.sections))).1,
  surface_length S ps xs h,
  whole_size S,
  all_counts S,
)

pub ring_some : (S : Parts) (ps : List PairParts) (xs : List Solution) → Stack S ps xs → AreFew S
    → 1 ≤ length (ring_triangles S ps xs)
ring_some S ps xs h few =
    omega (
      arith,
      (sections_length S ps xs h (range_with_len 0 (length S.sections))).0,
      surface_some S ps xs h,
      all_counts S,
      few.some,
    )

-- ---- folded triangles
section_folded_few : (S : Parts) (ps : List PairParts) (xs : List Solution) → Stack S ps xs → (s : ℕ)
    → ring_section_folded S ps s ≤ 2 * weight size (rings_at S s)
section_folded_few S ps xs h s =
    let rings : List RingView = rings_at S s in
    let outlines : List (List Point) = (layer_at S s).outlines in
    omega (
      arith,
      side_folded outlines rings (joined_on Below ps s) (side S ps xs h s Below),
      side_folded outlines rings (joined_on Above ps s) (side S ps xs h s Above),
      open_weight size h Below s,
      open_weight size h Above s,
    )

pub folded_within : (S : Parts) (ps : List PairParts) (xs : List Solution) → Stack S ps xs
    → ring_folded S ps ≤ 2 * sum_by vertices_in S.sections + 4 * sum_by contour_count S.sections
folded_within S ps xs h = sums_within (ring_section_folded S ps) S (section_folded_few S ps xs h)

-- ---- ids
section_known : (S : Parts) (ps : List PairParts) (xs : List Solution) → Stack S ps xs → (s : ℕ)
    → All (Known (sum_by vertices_in S.sections)) (ring_section S ps xs s)
section_known S ps xs h s =
    let n : ℕ = sum_by vertices_in S.sections in
    let caps : (face : Face) → All (Known n) (face_triangles face S ps s) =
    λ face. (let k = side S ps xs h s face in
    face_known n face (rings_at S s) (groups_on face (layer_at S s).outlines ps s) k.views k.groups
    (rings_known S s)) in
    All-append (Known n) (face_triangles Below S ps s) (face_triangles Above S ps s ++ strip_triangles s ps xs)
    (caps Below)
    (All-append (Known n) (face_triangles Above S ps s) (strip_triangles s ps xs) (caps Above)
    (strips_known n S s ps xs h.rings h.pairs (rings_known S)))

pub ring_known : (S : Parts) (ps : List PairParts) (xs : List Solution) → Stack S ps xs
    → All (Known (sum_by vertices_in S.sections)) (ring_triangles S ps xs)
ring_known S ps xs h = flat_known (sum_by vertices_in S.sections) (ring_section S ps xs) (section_known S ps xs h)
    (range_with_len 0 (length S.sections))

-- ---- caps of groups close what the pairs leave open
pub groups_close : (S : Parts) (ps : List PairParts) → AreRingViews S → AreFew S → ArePairs S ps → DoClose by_group S ps
groups_close S ps views few pairs xs solved =
    let h = stack S ps xs views pairs solved in
    record {
      closed = ring_closed S ps xs h;
      known = subst (λ (n : ℕ). All (Known n) (ring_triangles S ps xs)) (sym (points_count S)) (ring_known S ps xs h);
      some = ring_some S ps xs h few;
      few = omega (arith, ring_few S ps xs h, same_counts S.sections);
      few_folded = omega (arith, folded_within S ps xs h, same_counts S.sections);
    }
