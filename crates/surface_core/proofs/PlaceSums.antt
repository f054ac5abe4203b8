-- Sums over the rings at some places of a section, and at the others.
use Rattle.std.proofs.Common.{◌≡◌, ℕ, zero, suc, ◌+◌, ◌<◌, ◌≤◌, inl, inr, ◌==◌, ◌||◌, not, Bool, true, false, cond, List, [], ◌∷◌, ◌++◌, length, filter, refl, sym, ap, ◌∙◌, arith}
use Rattle.std.specs.List.{range_with_len, AllByRecursion}
use Rattle.std.proofs.lemmas.Bool.{cases_eq, eq-eqb, ne_eqb}
use Rattle.std.proofs.lemmas.List.FromFn.{fill_by_all, length-range_with_len}
use Rattle.plane_geom.specs.Rings.{RingView}
use Rattle.ring_polygons.specs.Composites.{no_view, view_at}
use Rattle.correspondence.specs.Places.{has, IsDistinct, ArePlaces}
use Rattle.section_pairs.specs.Rings.{pick}
use Rattle.surface_core.specs.Surfaces.{others}

-- the sum of a number over places
abbrev pub adds : (ℕ → ℕ) → List ℕ → ℕ
adds r [] = 0
adds r (k ∷ ks) = r k + adds r ks

-- the sum of a weight over rings
abbrev pub weight : (RingView → ℕ) → List RingView → ℕ
weight w [] = 0
weight w (r ∷ rings) = w r + weight w rings

pub adds_cond : (r : ℕ → ℕ) (b : Bool) (k : ℕ) (ks : List ℕ) → adds r (cond b (k ∷ ks) ks) ≡ cond b (r k) 0 + adds r ks
adds_cond r true k ks = refl
adds_cond r false k ks = omega arith

-- a place before the range changes nothing
not_there : (r : ℕ → ℕ) (m a n : ℕ) (ms : List ℕ) → m < a
    → adds r (filter (λ k. not (has k ms)) (range_with_len a n))
    ≡ adds r (filter (λ k. not (has k (m ∷ ms))) (range_with_len a n))
not_there r m a zero ms l = refl
not_there r m a (suc n) ms l =
    let ne : (m == a) ≡ false = ne_eqb m a (λ e. absurd (omega arith)) in
    let same : not (has a ms) ≡ not (has a (m ∷ ms)) = ap (λ (b : Bool). not (b || has a ms)) (sym ne) in
    omega (
      arith,
      adds_cond r (not (has a ms)) a (filter (λ k. not (has k ms)) (range_with_len (a + 1) n)),
      adds_cond r (not (has a (m ∷ ms))) a (filter (λ k. not (has k (m ∷ ms))) (range_with_len (a + 1) n)),
      ap (λ (b : Bool). cond b (r a) 0) same,
      not_there r m (a + 1) n ms (omega arith),
    )

-- one more place
there : (r : ℕ → ℕ) (m a n : ℕ) (ms : List ℕ) → a ≤ m → m < a + n → has m ms ≡ false →
    adds r (filter (λ k. not (has k ms)) (range_with_len a n)) ≡ r m
    + adds r (filter (λ k. not (has k (m ∷ ms))) (range_with_len a n))
there r m a zero ms le lt h = absurd (omega arith)
there r m a (suc n) ms le lt h =
    let x = adds_cond r (not (has a ms)) a (filter (λ k. not (has k ms)) (range_with_len (a + 1) n)) in
    let y = adds_cond r (not (has a (m ∷ ms))) a (filter (λ k. not (has k (m ∷ ms))) (range_with_len (a + 1) n)) in
    elim (cases_eq m a) [
      | inl e ↦ (
          let p : cond (not (has a ms)) (r a) 0 ≡ r a =
          ap (λ (b : Bool). cond (not b) (r a) 0) (ap (λ (k : ℕ). has k ms) (sym e) ∙ h) in
          let q : cond (not (has a (m ∷ ms))) (r a) 0 ≡ 0 =
          ap (λ (b : Bool). cond (not (b || has a ms)) (r a) 0) (eq-eqb m a e) in
          omega (arith, x, y, p, q, ap r e, not_there r m (a + 1) n ms (omega arith)))
      | inr ne ↦ (
          let same : not (has a ms) ≡ not (has a (m ∷ ms)) =
          ap (λ (b : Bool). not (b || has a ms)) (sym (ne_eqb m a ne)) in
          omega (
            arith,
            x,
            y,
            ap (λ (b : Bool). cond b (r a) 0) same,
            there r m (a + 1) n ms (omega (arith, ne)) (omega arith) h,
          ))
    ]

-- some places and the others are all
pub adds_others : (r : ℕ → ℕ) (n : ℕ) (ms : List ℕ) → IsDistinct ms → AllByRecursion (λ m. m < n) ms
    → adds r ms + adds r (filter (λ k. not (has k ms)) (range_with_len 0 n)) ≡ adds r (range_with_len 0 n)
adds_others r n [] d h = omega (arith, ap (adds r) (all_kept (range_with_len 0 n)))
  where
    all_kept : (ks : List ℕ) → filter (λ k. not (has k [])) ks ≡ ks
    all_kept [] = refl
    all_kept (k ∷ ks) = ap (λ (l : List ℕ). k ∷ l) (all_kept ks)
adds_others r n (m ∷ ms) d h = omega
    (arith, adds_others r n ms d.1 h.1, there r m 0 n ms (omega arith) (omega (arith, h.0)) d.0)

pub pick_weight : (w : RingView → ℕ) (rings : List RingView) (places : List ℕ)
    → weight w (pick rings places) ≡ adds (λ (k : ℕ). w (view_at rings k)) places
pick_weight w rings [] = refl
pick_weight w rings (k ∷ ks) = omega (arith, pick_weight w rings ks)

pub pick_all : (rings : List RingView) → pick rings (range_with_len 0 (length rings)) ≡ rings
pick_all rings = sym (fill_by_all (view_at rings) rings (length rings) no_view refl (λ k h. refl))

-- the rings at some places, and at the others
pub pick_others : (w : RingView → ℕ) (rings : List RingView) (places : List ℕ) → ArePlaces (length rings) places
    → weight w (pick rings places) + weight w (others rings places) ≡ weight w rings
pick_others w rings places h =
    let r : ℕ → ℕ = λ k. w (view_at rings k) in
    let e = ap (weight w) (pick_all rings) in
    omega (
      arith,
      pick_weight w rings places,
      pick_weight w rings (filter (λ k. not (has k places)) (range_with_len 0 (length rings))),
      pick_weight w rings (range_with_len 0 (length rings)),
      adds_others r (length rings) places h.0 h.1,
      e,
    )

pub pick-append : (w : RingView → ℕ) (rings : List RingView) (xs ys : List ℕ)
    → weight w (pick rings (xs ++ ys)) ≡ weight w (pick rings xs) + weight w (pick rings ys)
pick-append w rings [] ys = omega arith
pick-append w rings (x ∷ xs) ys = omega (arith, pick-append w rings xs ys)

-- there are at most n distinct places below n
adds_ones : (ks : List ℕ) → adds (λ k. 1) ks ≡ length ks
adds_ones [] = refl
adds_ones (k ∷ ks) = omega (arith, adds_ones ks)

pub few_places : (n : ℕ) (places : List ℕ) → ArePlaces n places → length places ≤ n
few_places n places h = omega (
  arith,
  adds_others (λ k. 1) n places h.0 h.1,
  adds_ones places,
  adds_ones (range_with_len 0 n),
  length-range_with_len 0 n,
)
