-- How many pairs and folded triangles there are, and the cost of a solution.
use Rattle.std.proofs.Common.{◌≡◌, ℕ, zero, suc, ◌+◌, ◌*◌, ◌<◌, ◌≤◌, List, [], ◌∷◌, length, map, get_or, flat_map, sum_by, ap, arith, subst, pos, ◌≤ℤ◌}
use Rattle.std.specs.List.{range_with_len, AllByRecursion}
use Rattle.std.proofs.lemmas.Int.{ints}
use Rattle.std.proofs.lemmas.List.{length-append, length-map}
use Rattle.std.proofs.lemmas.List.Sums.{sum_by-cons}
use Rattle.fku_types.specs.declared.limits.TheConstants.{MAX_PAIRS, MAX_STEPS}
use Rattle.plane_geom.specs.Rings.{RingView}
use Rattle.strip_graph.specs.Words.{word_cost, count_v, count_h}
use Rattle.strip_graph.specs.Strips.{Strip, IsStrip, arcs, step_cost_limit}
use Rattle.strip_graph.proofs.Bounds.{arcs-below, word_cost-le}
use Rattle.row_paths.specs.Solutions.{Solution, Solves}
use Rattle.section_core.specs.Parts.{Parts}
use Rattle.correspondence.specs.Outlines.{section_at}
use Rattle.correspondence.specs.Correspondences.{Correspond}
use Rattle.correspondence.specs.Components.{Members, IsComponent, AreComponents}
use Rattle.correspondence.proofs.ComponentLaws.{below_places}
use Rattle.ring_polygons.proofs.BridgeLaws.{IsRingView}
use Rattle.ring_polygons.specs.Caps.{folded}
use Rattle.ring_polygons.specs.declared.faces.Face.TheVariants.{Below, Above}
use Rattle.section_pairs.specs.Rings.{rings_at, vertices_in}
use Rattle.section_pairs.specs.Pairs.{PairParts, pair_of, pairs_from}
use Rattle.section_pairs.specs.SectionFaults.{ArePairs}
use Rattle.surface_core.specs.Surfaces.{folded_in, section_folded, surface_folded, open_on}
use Rattle.surface_core.proofs.PlaceSums.{weight, few_places}
use Rattle.surface_core.proofs.RingFacts.{size}
use Rattle.surface_core.proofs.JoinedPlaces.{count}
use Rattle.surface_core.proofs.SurfaceSums.{Stack, open_views, open_weight}
use Rattle.surface_core.proofs.SectionFacts.{AreFew, contour_count, sum_sections, whole_size}
use Rattle.surface_core.proofs.CapSteps.{folded_few}

-- ---- pairs
each_some : (links : ℕ → ℕ → Type 0) (n m : ℕ) (cs : List Members) → AllByRecursion (IsComponent links n m) cs
    → length cs ≤ length (flat_map (λ (c : Members). c.below) cs)
each_some links n m [] h = omega arith
each_some links n m (c ∷ cs) h = omega
    (arith, each_some links n m cs h.1, h.0.some_below, length-append c.below (flat_map (λ (d : Members). d.below) cs))

pairs_count : (S : Parts) (g : ℕ) (gaps : List (List Members))
    → ((h i : ℕ) → h ≡ g + i → i < length gaps
    → AreComponents (Correspond S h) (count S h) (count S (h + 1)) (get_or gaps i []))
    → length (pairs_from S g gaps) ≤ sum_by (λ k. contour_count (section_at S k)) (range_with_len g (length gaps))
pairs_count S g [] f = omega arith
pairs_count S g (cs ∷ gaps) f =
    let here = f g 0 (omega arith) (omega arith) in
    omega (
      arith,
      pairs_count S (g + 1) gaps (λ h i e l. f h (suc i) (omega arith) (omega arith)),
      each_some (Correspond S g) (count S g) (count S (g + 1)) cs here.components,
      few_places (count S g) (flat_map (λ (c : Members). c.below) cs)
          (below_places (Correspond S g) (count S g) (count S (g + 1)) cs here.components here.in_order),
      length-append (map (pair_of S g) cs) (pairs_from S (g + 1) gaps),
      length-map cs (pair_of S g),
      sum_by-cons (λ (k : ℕ). contour_count (section_at S k)) g (range_with_len (g + 1) (length gaps)),
    )

-- a sum over more numbers is at least as large
pub sum_more : (f : ℕ → ℕ) (a n m : ℕ) → n ≤ m → sum_by f (range_with_len a n) ≤ sum_by f (range_with_len a m)
sum_more f a zero m l = omega arith
sum_more f a (suc n) zero l = absurd (omega arith)
sum_more f a (suc n) (suc m) l = omega (
  arith,
  sum_more f (a + 1) n m (omega arith),
  sum_by-cons f a (range_with_len (a + 1) n),
  sum_by-cons f a (range_with_len (a + 1) m),
)

-- there are at most as many pairs as contours
pub pairs_within : (S : Parts) (ps : List PairParts) → ArePairs S ps → length ps ≤ sum_by contour_count S.sections
pairs_within S ps h =
    let all = pairs_count S 0 h.gaps (λ g i e l.
    subst (λ (k : ℕ). AreComponents (Correspond S k) (count S k) (count S (k + 1)) (get_or h.gaps i []))
    (let z : i ≡ g = omega (arith, e) in z) (h.are_gaps.components i l)) in
    omega (
      arith,
      ap length h.pairs,
      all,
      sum_more (λ k. contour_count (section_at S k)) 0 (length h.gaps) (length S.sections)
          (omega (arith, h.are_gaps.count)),
      sum_sections S contour_count,
    )

pub few_pairs : (S : Parts) (ps : List PairParts) → AreFew S → ArePairs S ps → length ps ≤ MAX_PAIRS
few_pairs S ps few h = omega (arith, pairs_within S ps h, few.contours)

-- ---- folded triangles
folded_weight : (rings : List RingView) → AllByRecursion IsRingView rings → folded_in rings ≤ weight size rings
folded_weight [] h = omega arith
folded_weight (r ∷ rings) h = omega (
  arith,
  folded_weight rings h.1,
  folded_few r.points (omega (arith, h.0.same, h.0.enough)),
  h.0.same,
  sum_by-cons (λ (x : RingView). folded x.points) r rings,
)

section_weight : (S : Parts) (ps : List PairParts) (xs : List Solution) → Stack S ps xs → (s : ℕ)
    → section_folded S ps s ≤ 2 * weight size (rings_at S s)
section_weight S ps xs h s =
    omega (
      arith,
      folded_weight (open_on Below (rings_at S s) ps s) (open_views h Below s),
      folded_weight (open_on Above (rings_at S s) ps s) (open_views h Above s),
      open_weight size h Below s,
      open_weight size h Above s,
    )

-- a sum over all sections, at each of which it is bounded by the sizes of the rings on both faces
pub sums_within : (f : ℕ → ℕ) (S : Parts) → ((s : ℕ) → f s ≤ 2 * weight size (rings_at S s))
    → sum_by f (range_with_len 0 (length S.sections)) ≤ 2 * sum_by vertices_in S.sections
    + 4 * sum_by contour_count S.sections
sums_within f S h = omega (arith, each (range_with_len 0 (length S.sections)), whole_size S)
  where
    each : (ks : List ℕ) → sum_by f ks ≤ 2 * sum_by (λ j. weight size (rings_at S j)) ks
    each [] = omega arith
    each (k ∷ ks) = omega (
      arith,
      each ks,
      h k,
      sum_by-cons f k ks,
      sum_by-cons (λ (j : ℕ). weight size (rings_at S j)) k ks,
    )

pub folded_within : (S : Parts) (ps : List PairParts) (xs : List Solution) → Stack S ps xs
    → surface_folded S ps ≤ 2 * sum_by vertices_in S.sections + 4 * sum_by contour_count S.sections
folded_within S ps xs h = sums_within (section_folded S ps) S (section_weight S ps xs h)

-- ---- costs
pub cost_few : (p : Strip) (x : Solution) → IsStrip p → Solves p x → (pos 0 ≤ℤ x.cost)
    × (x.cost ≤ℤ pos (MAX_STEPS * step_cost_limit))
cost_few p x s h =
    let a = word_cost-le (arcs p) step_cost_limit (λ i j t. omega (arith, arcs-below p s i j t)) x.row 0 x.word in
    let letters = h.chosen.least.acceptable.letters in
    let n : count_v x.word + count_h x.word ≤ MAX_STEPS = omega (arith, letters.v, letters.h, s.low.few, s.high.few) in
    let b : word_cost (arcs p) x.row 0 x.word ≤ MAX_STEPS * step_cost_limit = omega (arith, a, n) in
    (omega (arith, ints, h.cost), omega (arith, ints, h.cost, b))
