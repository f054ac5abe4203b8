-- The strips of a gap: what they leave over, and how many triangles they have.
use Rattle.std.proofs.Common.{◌≡◌, ℕ, ◌+◌, ◌<◌, ◌≤◌, ◌==◌, inl, inr, List, [], ◌∷◌, ◌++◌, length, refl, sym, ap, ◌∙◌, arith, subst, eq-eqb}
use Rattle.std.specs.List.{AllByRecursion}
use Rattle.std.proofs.lemmas.Bool.{cases_eq, ne_eqb, cond-true, cond-false}
use Rattle.std.proofs.lemmas.List.{length-append, length-map}
use Rattle.plane_geom.specs.Rings.{RingView}
use Rattle.plane_geom.proofs.Sums.{ring_sum, total, back, total-append}
use Rattle.strip_graph.specs.declared.tilings.Step.{Step}
use Rattle.strip_graph.specs.Words.{HasLetters, count_v, count_h}
use Rattle.strip_graph.specs.Strips.{rows, cols}
use Rattle.strip_graph.proofs.SpanLaws.{length-spans}
use Rattle.strip_graph.proofs.WordLaws.{length-letters}
use Rattle.row_paths.specs.Solutions.{Solution}
use Rattle.section_core.specs.Parts.{Parts}
use Rattle.ring_polygons.specs.Composites.{composite}
use Rattle.ring_polygons.proofs.BridgeLaws.{IsRingView, composite_length}
use Rattle.triangle_meshes.specs.Tiles.{tiles}
use Rattle.triangle_meshes.proofs.StripLaws.{strip_total}
use Rattle.ring_polygons.specs.declared.faces.Face.TheVariants.{Below, Above}
use Rattle.section_pairs.specs.Rings.{rings_at, pick}
use Rattle.section_pairs.specs.Pairs.{PairParts}
use Rattle.surface_core.specs.Surfaces.{joined_on, strip_triangles}
use Rattle.surface_core.proofs.PlaceSums.{weight, pick-append}
use Rattle.surface_core.proofs.RingFacts.{edges, size, picked, length-pick, composite_edges, composite_size}
use Rattle.surface_core.proofs.JoinedPlaces.{IsJoint, count}

-- every section's rings are rings, as many as its contours
pub record AreRingViews (S : Parts) : Type 0 where
  pub views : (s : ℕ) → AllByRecursion IsRingView (rings_at S s)
  pub counts : (s : ℕ) → length (rings_at S s) ≡ count S s

-- each word goes once round both rings of its strip
abbrev pub AreTiled : List PairParts → List Solution → Type 0
AreTiled [] [] = Unit {0}
AreTiled [] (x ∷ xs) = ⊥
AreTiled (p ∷ ps) [] = ⊥
AreTiled (p ∷ ps) (x ∷ xs) = HasLetters (rows p.strip) (cols p.strip) x.word × AreTiled ps xs

abbrev pub strip_tiles : PairParts → Solution → List (List ℕ)
strip_tiles p x = tiles p.strip.low_ids p.strip.high_ids x.row 0 x.word

-- the rings of a pair below and above its gap
abbrev pub lower : Parts → PairParts → List RingView
lower S p = pick (rings_at S p.gap) p.below

abbrev pub upper : Parts → PairParts → List RingView
upper S p = pick (rings_at S (p.gap + 1)) p.above

lower_views : (S : Parts) (p : PairParts) → AreRingViews S → IsJoint S p → AllByRecursion IsRingView (lower S p)
lower_views S p a j = picked (rings_at S p.gap) p.below (a.views p.gap)
    (subst (λ (n : ℕ). AllByRecursion (λ k. k < n) p.below) (sym (a.counts p.gap)) j.below)

upper_views : (S : Parts) (p : PairParts) → AreRingViews S → IsJoint S p → AllByRecursion IsRingView (upper S p)
upper_views S p a j = picked (rings_at S (p.gap + 1)) p.above (a.views (p.gap + 1))
    (subst (λ (n : ℕ). AllByRecursion (λ k. k < n) p.above) (sym (a.counts (p.gap + 1))) j.above)

lower_count : (S : Parts) (p : PairParts) → AreRingViews S → IsJoint S p
    → rows p.strip ≡ length (composite (lower S p)).ids
lower_count S p a j = ap length j.low
    ∙ (composite_length (lower S p) (lower_views S p a j)
    (omega (arith, j.some_below, length-pick (rings_at S p.gap) p.below))).1.same

upper_count : (S : Parts) (p : PairParts) → AreRingViews S → IsJoint S p
    → cols p.strip ≡ length (composite (upper S p)).ids
upper_count S p a j = ap length j.high
    ∙ (composite_length (upper S p) (upper_views S p a j)
    (omega (arith, j.some_above, length-pick (rings_at S (p.gap + 1)) p.above))).1.same

pub low_ids_some : (S : Parts) (p : PairParts) → AreRingViews S → IsJoint S p → 0 < length p.strip.low_ids
low_ids_some S p a j =
    omega (
      arith,
      ap length j.low_ids,
      (composite_length (lower S p) (lower_views S p a j)
          (omega (arith, j.some_below, length-pick (rings_at S p.gap) p.below))).1.enough,
    )

pub high_ids_some : (S : Parts) (p : PairParts) → AreRingViews S → IsJoint S p → 0 < length p.strip.high_ids
high_ids_some S p a j =
    omega (
      arith,
      ap length j.high_ids,
      (composite_length (upper S p) (upper_views S p a j)
          (omega (arith, j.some_above, length-pick (rings_at S (p.gap + 1)) p.above))).1.enough,
    )

-- a strip leaves over its rings below forwards, and those above backwards
strip_edges : (f : ℕ → ℕ → ℕ) (S : Parts) (p : PairParts) (x : Solution) → AreRingViews S → IsJoint S p
    → HasLetters (rows p.strip) (cols p.strip) x.word →
    total f (strip_tiles p x) + weight (edges (back f)) (lower S p) + weight (edges f) (upper S p)
    ≡ total (back f) (strip_tiles p x) + weight (edges f) (lower S p) + weight (edges (back f)) (upper S p)
strip_edges f S p x a j h =
    let v : count_v x.word ≡ length p.strip.low_ids = h.v ∙ lower_count S p a j ∙ sym (ap length j.low_ids) in
    let u : count_h x.word ≡ length p.strip.high_ids = h.h ∙ upper_count S p a j ∙ sym (ap length j.high_ids) in
    omega (
      arith,
      strip_total f p.strip.low_ids p.strip.high_ids x.row 0 x.word v u,
      composite_edges f (lower S p) (lower_views S p a j),
      composite_edges f (upper S p) (upper_views S p a j),
      ap (ring_sum f) j.low_ids,
      ap (ring_sum (back f)) j.low_ids,
      ap (ring_sum f) j.high_ids,
      ap (ring_sum (back f)) j.high_ids,
    )

-- one tile for each letter
pub length-tiles : (low high : List ℕ) (i j : ℕ) (w : List Step) → length (tiles low high i j w) ≡ count_v w + count_h w
length-tiles low high i j w = length-map _ _ ∙ length-spans i j w ∙ length-letters w

strip_size : (S : Parts) (p : PairParts) (x : Solution) → AreRingViews S → IsJoint S p
    → HasLetters (rows p.strip) (cols p.strip) x.word →
    (length (strip_tiles p x) ≤ weight size (lower S p) + weight size (upper S p))
    × (length p.below ≤ length (strip_tiles p x))
strip_size S p x a j h =
    let n = length-tiles p.strip.low_ids p.strip.high_ids x.row 0 x.word in
    let low = composite_size (lower S p) (lower_views S p a j)
    (omega (arith, j.some_below, length-pick (rings_at S p.gap) p.below)) in
    let high = composite_size (upper S p) (upper_views S p a j)
    (omega (arith, j.some_above, length-pick (rings_at S (p.gap + 1)) p.above)) in
    let k = length-pick (rings_at S p.gap) p.below in (
      omega (arith, n, h.v, h.h, lower_count S p a j, upper_count S p a j, low.0, high.0),
      omega (arith, n, h.v, lower_count S p a j, low.1, k),
    )

-- a pair of the gap, or of another one
record Split (S : Parts) (s : ℕ) (p : PairParts) (ps : List PairParts) (x : Solution) (xs : List Solution)
    (made : List (List ℕ)) (down up : List ℕ) : Type 0 where
  tiles : strip_triangles s (p ∷ ps) (x ∷ xs) ≡ made ++ strip_triangles s ps xs
  below : joined_on Above (p ∷ ps) s ≡ down ++ joined_on Above ps s
  above : joined_on Below (p ∷ ps) (s + 1) ≡ up ++ joined_on Below ps (s + 1)

split_here : (S : Parts) (s : ℕ) (p : PairParts) (ps : List PairParts) (x : Solution) (xs : List Solution) → p.gap ≡ s
    → Split S s p ps x xs (strip_tiles p x) p.below p.above
split_here S s p ps x xs e = record {
  tiles = ap (λ (l : List (List ℕ)). l ++ strip_triangles s ps xs)
      (cond-true {A = List (List ℕ)} (p.gap == s) (strip_tiles p x) [] (eq-eqb p.gap s e));
  below = ap (λ (l : List ℕ). l ++ joined_on Above ps s)
      (cond-true {A = List ℕ} (p.gap == s) p.below [] (eq-eqb p.gap s e));
  above = ap (λ (l : List ℕ). l ++ joined_on Below ps (s + 1))
      (cond-true {A = List ℕ} ((p.gap + 1) == (s + 1)) p.above [] (eq-eqb (p.gap + 1) (s + 1) (omega (arith, e))));
}

split_elsewhere : (S : Parts) (s : ℕ) (p : PairParts) (ps : List PairParts) (x : Solution) (xs : List Solution)
    → (p.gap ≡ s → ⊥) → Split S s p ps x xs [] [] []
split_elsewhere S s p ps x xs ne = record {
  tiles = ap (λ (l : List (List ℕ)). l ++ strip_triangles s ps xs)
      (cond-false {A = List (List ℕ)} (p.gap == s) (strip_tiles p x) [] (ne_eqb p.gap s ne));
  below = ap (λ (l : List ℕ). l ++ joined_on Above ps s)
      (cond-false {A = List ℕ} (p.gap == s) p.below [] (ne_eqb p.gap s ne));
  above = ap (λ (l : List ℕ). l ++ joined_on Below ps (s + 1))
      (cond-false {A = List ℕ} ((p.gap + 1) == (s + 1)) p.above []
      (ne_eqb (p.gap + 1) (s + 1) (λ e. ne (omega (arith, e)))));
}

-- what a gap's strips leave over
pub strips_edges : (f : ℕ → ℕ → ℕ) (S : Parts) (s : ℕ) (ps : List PairParts) (xs : List Solution) → AreRingViews S
    → AllByRecursion (IsJoint S) ps → AreTiled ps xs →
    total f (strip_triangles s ps xs) + weight (edges (back f)) (pick (rings_at S s) (joined_on Above ps s))
    + weight (edges f) (pick (rings_at S (s + 1)) (joined_on Below ps (s + 1)))
    ≡ total (back f) (strip_triangles s ps xs) + weight (edges f) (pick (rings_at S s) (joined_on Above ps s))
    + weight (edges (back f)) (pick (rings_at S (s + 1)) (joined_on Below ps (s + 1)))
strips_edges f S s [] [] a j t = refl
strips_edges f S s [] (x ∷ xs) a j t = absurd t
strips_edges f S s (p ∷ ps) [] a j t = absurd t
strips_edges f S s (p ∷ ps) (x ∷ xs) a j t =
    let low : List RingView = rings_at S s in
    let high : List RingView = rings_at S (s + 1) in
    let more = strips_edges f S s ps xs a j.1 t.1 in
    elim (cases_eq p.gap s) [
      | inl e ↦ (
          let k = split_here S s p ps x xs e in
          omega (
            arith,
            more,
            strip_edges f S p x a j.0 t.0,
            ap (λ (g : ℕ). weight (edges f) (pick (rings_at S g) p.below)) e,
            ap (λ (g : ℕ). weight (edges (back f)) (pick (rings_at S g) p.below)) e,
            ap (λ (g : ℕ). weight (edges f) (pick (rings_at S (g + 1)) p.above)) e,
            ap (λ (g : ℕ). weight (edges (back f)) (pick (rings_at S (g + 1)) p.above)) e,
            ap (total f) k.tiles,
            ap (total (back f)) k.tiles,
            total-append f (strip_tiles p x) (strip_triangles s ps xs),
            total-append (back f) (strip_tiles p x) (strip_triangles s ps xs),
            ap (λ (l : List ℕ). weight (edges f) (pick low l)) k.below,
            ap (λ (l : List ℕ). weight (edges (back f)) (pick low l)) k.below,
            ap (λ (l : List ℕ). weight (edges f) (pick high l)) k.above,
            ap (λ (l : List ℕ). weight (edges (back f)) (pick high l)) k.above,
            pick-append (edges f) low p.below (joined_on Above ps s),
            pick-append (edges (back f)) low p.below (joined_on Above ps s),
            pick-append (edges f) high p.above (joined_on Below ps (s + 1)),
            pick-append (edges (back f)) high p.above (joined_on Below ps (s + 1)),
          ))
      | inr ne ↦ (
          let k = split_elsewhere S s p ps x xs ne in
          omega (
            arith,
            more,
            ap (total f) k.tiles,
            ap (total (back f)) k.tiles,
            ap (λ (l : List ℕ). weight (edges f) (pick low l)) k.below,
            ap (λ (l : List ℕ). weight (edges (back f)) (pick low l)) k.below,
            ap (λ (l : List ℕ). weight (edges f) (pick high l)) k.above,
            ap (λ (l : List ℕ). weight (edges (back f)) (pick high l)) k.above,
          ))
    ]

-- how many triangles a gap's strips have
pub strips_size : (S : Parts) (s : ℕ) (ps : List PairParts) (xs : List Solution) → AreRingViews S
    → AllByRecursion (IsJoint S) ps → AreTiled ps xs →
    (length (strip_triangles s ps xs) ≤ weight size (pick (rings_at S s) (joined_on Above ps s))
    + weight size (pick (rings_at S (s + 1)) (joined_on Below ps (s + 1))))
    × (length (joined_on Above ps s) ≤ length (strip_triangles s ps xs))
strips_size S s [] [] a j t = (omega arith, omega arith)
strips_size S s [] (x ∷ xs) a j t = absurd t
strips_size S s (p ∷ ps) [] a j t = absurd t
strips_size S s (p ∷ ps) (x ∷ xs) a j t =
    let low : List RingView = rings_at S s in
    let high : List RingView = rings_at S (s + 1) in
    let more = strips_size S s ps xs a j.1 t.1 in
    elim (cases_eq p.gap s) [
      | inl e ↦ (
          let k = split_here S s p ps x xs e in
          let one = strip_size S p x a j.0 t.0 in
          let n = length-append (strip_tiles p x) (strip_triangles s ps xs) in (
            omega (
              arith,
              more.0,
              one.0,
              n,
              ap length k.tiles,
              ap (λ (g : ℕ). weight size (pick (rings_at S g) p.below)) e,
              ap (λ (g : ℕ). weight size (pick (rings_at S (g + 1)) p.above)) e,
              ap (λ (l : List ℕ). weight size (pick low l)) k.below,
              ap (λ (l : List ℕ). weight size (pick high l)) k.above,
              pick-append size low p.below (joined_on Above ps s),
              pick-append size high p.above (joined_on Below ps (s + 1)),
            ),
            omega (
              arith,
              more.1,
              one.1,
              n,
              ap length k.tiles,
              ap length k.below,
              length-append p.below (joined_on Above ps s),
            ),
          ))
      | inr ne ↦ (
          let k = split_elsewhere S s p ps x xs ne in (
            omega (
              arith,
              more.0,
              ap length k.tiles,
              ap (λ (l : List ℕ). weight size (pick low l)) k.below,
              ap (λ (l : List ℕ). weight size (pick high l)) k.above,
            ),
            omega (arith, more.1, ap length k.tiles, ap length k.below),
          ))
    ]
