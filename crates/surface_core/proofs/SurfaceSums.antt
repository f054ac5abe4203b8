-- The triangles of all sections: they are closed, and how many there are.
use Rattle.std.proofs.Common.{◌≡◌, ℕ, zero, suc, ◌+◌, ◌*◌, ◌<◌, ◌≤◌, Bool, true, false, not, List, [], ◌∷◌, ◌++◌, length, filter, flat_map, sum_by, refl, sym, ap, ◌∙◌, arith, subst, cond}
use Rattle.std.specs.List.{range_with_len, AllByRecursion}
use Rattle.std.proofs.lemmas.List.{length-append}
use Rattle.std.proofs.lemmas.List.Sums.{sum_by-cons}
use Rattle.plane_geom.specs.Rings.{RingView, IsClosed}
use Rattle.plane_geom.proofs.Sums.{total, back, total-append}
use Rattle.plane_geom.proofs.Counts.{closed}
use Rattle.row_paths.specs.Solutions.{Solution}
use Rattle.pair_pool.specs.Solvers.{SolvesEach}
use Rattle.section_core.specs.Parts.{Parts}
use Rattle.ring_polygons.proofs.BridgeLaws.{IsRingView}
use Rattle.correspondence.specs.Places.{has, ArePlaces}
use Rattle.ring_polygons.specs.declared.faces.Face.{Face}
use Rattle.ring_polygons.specs.declared.faces.Face.TheVariants.{Below, Above}
use Rattle.section_pairs.specs.Rings.{rings_at, pick}
use Rattle.section_pairs.specs.Pairs.{PairParts}
use Rattle.section_pairs.specs.SectionFaults.{ArePairs}
use Rattle.surface_core.specs.Surfaces.{joined_on, others, open_on, caps_on, strip_triangles, section_triangles, surface_triangles, strips_in}
use Rattle.surface_core.proofs.PlaceSums.{weight, pick_others}
use Rattle.surface_core.proofs.RingFacts.{edges, size, picked, length-pick, tops_total, bottoms_total, caps_length}
use Rattle.surface_core.proofs.JoinedPlaces.{IsJoint, places_on, first_below, last_below, joints}
use Rattle.surface_core.proofs.StripSums.{AreRingViews, AreTiled, strips_edges, strips_size}

-- the facts about pairs and solutions that the sums need
pub record Stack (S : Parts) (ps : List PairParts) (xs : List Solution) : Type 0 where
  pub rings : AreRingViews S
  pub pairs : AllByRecursion (IsJoint S) ps
  pub tiled : AreTiled ps xs
  pub places : (face : Face) (s : ℕ) → ArePlaces (length (rings_at S s)) (joined_on face ps s)
  pub first : joined_on Below ps 0 ≡ []
  pub last : joined_on Below ps (length S.sections) ≡ []

tiled : (ps : List PairParts) (xs : List Solution) → SolvesEach (strips_in ps) xs → AreTiled ps xs
tiled [] [] h = tt
tiled [] (x ∷ xs) h = absurd (omega (arith, h.count))
tiled (p ∷ ps) [] h = absurd (omega (arith, h.count))
tiled (p ∷ ps) (x ∷ xs) h = (
  (h.each 0 p.strip x (omega arith)).chosen.least.acceptable.letters,
  tiled ps xs (record { count = omega (arith, h.count); each = λ k q y l. h.each (suc k) q y (omega arith) }),
)

pub stack : (S : Parts) (ps : List PairParts) (xs : List Solution) → AreRingViews S → ArePairs S ps
    → SolvesEach (strips_in ps) xs → Stack S ps xs
stack S ps xs a h t = record {
  rings = a;
  pairs = joints S ps h;
  tiled = tiled ps xs t;
  places = λ face s. subst (λ (n : ℕ). ArePlaces n (joined_on face ps s)) (sym (a.counts s)) (places_on S ps h face s);
  first = first_below S ps h;
  last = last_below S ps h;
}

others_below : (n : ℕ) (places : List ℕ)
    → AllByRecursion (λ k. k < n) (filter (λ k. not (has k places)) (range_with_len 0 n))
others_below n places = kept (λ (k : ℕ). not (has k places)) 0 n (omega arith)
  where
    kept_cond : (b : Bool) (k : ℕ) (ks : List ℕ) → k < n → AllByRecursion (λ k. k < n) ks
        → AllByRecursion (λ k. k < n) (cond b (k ∷ ks) ks)
    kept_cond true k ks l h = (l, h)
    kept_cond false k ks l h = h

    kept : (test : ℕ → Bool) (a m : ℕ) → a + m ≤ n → AllByRecursion (λ k. k < n) (filter test (range_with_len a m))
    kept test a zero le = tt
    kept test a (suc m) le = kept_cond (test a) a (filter test (range_with_len (a + 1) m)) (omega arith)
        (kept test (a + 1) m (omega arith))

pub others_views : (rings : List RingView) (places : List ℕ) → AllByRecursion IsRingView rings
    → AllByRecursion IsRingView (others rings places)
others_views rings places h = picked rings (filter (λ k. not (has k places)) (range_with_len 0 (length rings))) h
    (others_below (length rings) places)

pub open_views : {S : Parts} {ps : List PairParts} {xs : List Solution} → Stack S ps xs → (face : Face) (s : ℕ)
    → AllByRecursion IsRingView (open_on face (rings_at S s) ps s)
open_views {S = S} {ps = ps} h face s = others_views (rings_at S s) (joined_on face ps s) (h.rings.views s)

-- the rings in pairs on a face and those in none, weighed
pub open_weight : (w : RingView → ℕ) {S : Parts} {ps : List PairParts} {xs : List Solution} → Stack S ps xs
    → (face : Face) (s : ℕ) → weight w (pick (rings_at S s) (joined_on face ps s))
    + weight w (open_on face (rings_at S s) ps s) ≡ weight w (rings_at S s)
open_weight w {S = S} {ps = ps} h face s = pick_others w (rings_at S s) (joined_on face ps s) (h.places face s)

-- the rings of a section that are in pairs of the gap below, weighed
abbrev joined : (RingView → ℕ) → Parts → List PairParts → ℕ → ℕ
joined w S ps s = weight w (pick (rings_at S s) (joined_on Below ps s))

section_edges : (f : ℕ → ℕ → ℕ) (S : Parts) (ps : List PairParts) (xs : List Solution) → Stack S ps xs → (s : ℕ) →
    total f (section_triangles S ps xs s) + joined (edges (back f)) S ps s + joined (edges f) S ps (s + 1)
    ≡ total (back f) (section_triangles S ps xs s) + joined (edges f) S ps s + joined (edges (back f)) S ps (s + 1)
section_edges f S ps xs h s =
    let rings : List RingView = rings_at S s in
    let bs : List (List ℕ) = caps_on Below (open_on Below rings ps s) in
    let ts : List (List ℕ) = caps_on Above (open_on Above rings ps s) in
    let gs : List (List ℕ) = strip_triangles s ps xs in
    omega (
      arith,
      bottoms_total f (open_on Below rings ps s) (open_views h Below s),
      tops_total f (open_on Above rings ps s) (open_views h Above s),
      strips_edges f S s ps xs h.rings h.pairs h.tiled,
      open_weight (edges f) h Below s,
      open_weight (edges (back f)) h Below s,
      open_weight (edges f) h Above s,
      open_weight (edges (back f)) h Above s,
      total-append f bs (ts ++ gs),
      total-append f ts gs,
      total-append (back f) bs (ts ++ gs),
      total-append (back f) ts gs,
    )

-- sections from s on leave over the rings that are in pairs below the first and above the last
stack_edges : (f : ℕ → ℕ → ℕ) (S : Parts) (ps : List PairParts) (xs : List Solution) → Stack S ps xs → (s k : ℕ) →
    total f (flat_map (section_triangles S ps xs) (range_with_len s k)) + joined (edges (back f)) S ps s
    + joined (edges f) S ps (s + k)
    ≡ total (back f) (flat_map (section_triangles S ps xs) (range_with_len s k)) + joined (edges f) S ps s
    + joined (edges (back f)) S ps (s + k)
stack_edges f S ps xs h s zero =
    let e : s + 0 ≡ s = omega arith in
    omega (arith, ap (joined (edges f) S ps) e, ap (joined (edges (back f)) S ps) e)
stack_edges f S ps xs h s (suc k) =
    let e : s + suc k ≡ s + 1 + k = omega arith in
    let here : List (List ℕ) = section_triangles S ps xs s in
    let more : List (List ℕ) = flat_map (section_triangles S ps xs) (range_with_len (s + 1) k) in
    omega (
      arith,
      section_edges f S ps xs h s,
      stack_edges f S ps xs h (s + 1) k,
      total-append f here more,
      total-append (back f) here more,
      ap (joined (edges f) S ps) e,
      ap (joined (edges (back f)) S ps) e,
    )

none_joined : (w : RingView → ℕ) (S : Parts) (ps : List PairParts) (s : ℕ) → joined_on Below ps s ≡ []
    → joined w S ps s ≡ 0
none_joined w S ps s e = ap (λ (l : List ℕ). weight w (pick (rings_at S s) l)) e

-- the surface is closed
pub surface_closed : (S : Parts) (ps : List PairParts) (xs : List Solution) → Stack S ps xs
    → IsClosed (surface_triangles S ps xs)
surface_closed S ps xs h =
    let n : ℕ = length S.sections in
    let z : 0 + n ≡ n = omega arith in
    closed (surface_triangles S ps xs) (λ f. omega (
      arith,
      stack_edges f S ps xs h 0 n,
      none_joined (edges f) S ps 0 h.first,
      none_joined (edges (back f)) S ps 0 h.first,
      ap (joined (edges f) S ps) z ∙ none_joined (edges f) S ps n h.last,
      ap (joined (edges (back f)) S ps) z ∙ none_joined (edges (back f)) S ps n h.last,
    ))

pub ones : (rings : List RingView) → weight (λ r. 1) rings ≡ length rings
ones [] = refl
ones (r ∷ rings) = omega (arith, ones rings)

record SectionLength (S : Parts) (ps : List PairParts) (xs : List Solution) (s : ℕ) : Type 0 where
  few : length (section_triangles S ps xs s) + joined size S ps s ≤ 2 * weight size (rings_at S s)
      + joined size S ps (s + 1)
  enough : length (rings_at S s) ≤ length (section_triangles S ps xs s)

section_length : (S : Parts) (ps : List PairParts) (xs : List Solution) → Stack S ps xs → (s : ℕ)
    → SectionLength S ps xs s
section_length S ps xs h s =
    let rings : List RingView = rings_at S s in
    let bs : List (List ℕ) = caps_on Below (open_on Below rings ps s) in
    let ts : List (List ℕ) = caps_on Above (open_on Above rings ps s) in
    let gs : List (List ℕ) = strip_triangles s ps xs in
    let bottom = caps_length Below (open_on Below rings ps s) (open_views h Below s) in
    let top = caps_length Above (open_on Above rings ps s) (open_views h Above s) in
    let strip = strips_size S s ps xs h.rings h.pairs h.tiled in
    let n = length-append bs (ts ++ gs) in
    let m = length-append ts gs in
    record {
      few = omega (arith, bottom.0, top.0, strip.0, open_weight size h Below s, open_weight size h Above s, n, m);
      enough = omega (
        arith,
        top.1,
        strip.1,
        n,
        m,
        open_weight (λ r. 1) h Above s,
        ones (pick rings (joined_on Above ps s)),
        ones (open_on Above rings ps s),
        ones rings,
        length-pick rings (joined_on Above ps s),
      );
    }

pub record StackLength (S : Parts) (ps : List PairParts) (xs : List Solution) (s k : ℕ) : Type 0 where
  pub few : length (flat_map (section_triangles S ps xs) (range_with_len s k))
      + weight size (pick (rings_at S s) (joined_on Below ps s)) ≤ 2 * sum_by (λ j. weight size (rings_at S j))
      (range_with_len s k) + weight size (pick (rings_at S (s + k)) (joined_on Below ps (s + k)))
  pub enough : sum_by (λ j. length (rings_at S j)) (range_with_len s k) ≤ length
      (flat_map (section_triangles S ps xs) (range_with_len s k))

pub stack_length : (S : Parts) (ps : List PairParts) (xs : List Solution) → Stack S ps xs → (s k : ℕ)
    → StackLength S ps xs s k
stack_length S ps xs h s zero =
    let e : s + 0 ≡ s = omega arith in
    record { few = omega (arith, ap (joined size S ps) e); enough = omega arith }
stack_length S ps xs h s (suc k) =
    let e : s + suc k ≡ s + 1 + k = omega arith in
    let here = section_length S ps xs h s in
    let more = stack_length S ps xs h (s + 1) k in
    let n = length-append (section_triangles S ps xs s)
    (flat_map (section_triangles S ps xs) (range_with_len (s + 1) k)) in
    record {
      few = omega (
        arith,
        here.few,
        more.few,
        n,
        ap (joined size S ps) e,
        sum_by-cons (λ j. weight size (rings_at S j)) s (range_with_len (s + 1) k),
      );
      enough = omega (
        arith,
        here.enough,
        more.enough,
        n,
        sum_by-cons (λ j. length (rings_at S j)) s (range_with_len (s + 1) k),
      );
    }

-- how many triangles there are, from the sizes of all rings
pub surface_length : (S : Parts) (ps : List PairParts) (xs : List Solution) → Stack S ps xs
    → length (surface_triangles S ps xs) ≤ 2 * sum_by (λ j. weight size (rings_at S j))
    (range_with_len 0 (length S.sections))
surface_length S ps xs h =
    let n : ℕ = length S.sections in
    let z : 0 + n ≡ n = omega arith in
    omega (arith, (stack_length S ps xs h 0 n).few, ap (joined size S ps) z ∙ none_joined size S ps n h.last)

pub surface_some : (S : Parts) (ps : List PairParts) (xs : List Solution) → Stack S ps xs
    → sum_by (λ j. length (rings_at S j)) (range_with_len 0 (length S.sections)) ≤ length (surface_triangles S ps xs)
surface_some S ps xs h = (stack_length S ps xs h 0 (length S.sections)).enough
