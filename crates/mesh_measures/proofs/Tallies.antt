-- What the pairs of a list of triangles add to the count of a place: how many triangles the one there crosses.
use Rattle.std.proofs.Common.{◌≡◌, ◌⊎◌, inl, inr, ℕ, ◌+◌, ◌*◌, ◌≤◌, ◌==◌, ◌&&◌, Bool, true, false, cond, List, [], ◌∷◌, length, refl, sym, ap, ap₂, ◌∙◌, arith, count_by, eqb-true}
use Rattle.std.specs.Prelude.{sum_by}
use Rattle.std.specs.List.{AllByRecursion}
use Rattle.std.specs.List.Sorted.{IsPermutation}
use Rattle.std.proofs.lemmas.List.Sums.{sum_by-cons, count_by-le-length}
use Rattle.std.proofs.lemmas.List.Sorted.{sum_by-IsPermutation}
use Rattle.mesh_measures.specs.declared.crossing.Corners.{Corners}
use Rattle.mesh_measures.specs.declared.triangle_boxes.Boxed.{Boxed}
use Rattle.mesh_measures.specs.Crossings.{cross, crossing_pairs}
use Rattle.mesh_measures.specs.TriangleBoxes.{crosses, crosses_at, tally}
use Rattle.mesh_measures.proofs.Mutual.{mutual_cross, not_itself}
use Rattle.fku_types.proofs.ListLaws.{count-cons}

pub either : (b : Bool) → (b ≡ true) ⊎ (b ≡ false)
either true = inl refl
either false = inr refl

-- ---- the counts
-- a triangle that has this place has these corners
abbrev pub HasCorners : ℕ → Corners → Boxed → Type 0
HasCorners i s f = f.place ≡ i → f.corners ≡ s

abbrev pub has_place : ℕ → Boxed → Bool
has_place i f = f.place == i

either_way : (b : Bool) (n : ℕ) → n ≡ cond b n n
either_way true n = refl
either_way false n = refl

crossed_there : (e : Boxed) (i : ℕ) (s : Corners) (xs : List Boxed) → AllByRecursion (HasCorners i s) xs
    → count_by (crosses_at e i) xs ≡ cond (cross e.corners s) (count_by (has_place i) xs) 0
crossed_there e i s [] h = either_way (cross e.corners s) 0
crossed_there e i s (f ∷ xs) h =
    let rest = crossed_there e i s xs h.1 in
    elim (either (has_place i f)) [
      | inl here ↦
          (let same : f.corners ≡ s = h.0 (eqb-true f.place i here) in
          let test : crosses_at e i f ≡ cross e.corners s = ap₂ ◌&&◌ here (ap (cross e.corners) same) in
          count-cons (crosses_at e i) f xs ∙ ap₂ (λ (b : Bool) (n : ℕ). cond b 1 0 + n) test rest
          ∙ joined (cross e.corners s) (count_by (has_place i) xs)
          ∙ ap (λ (n : ℕ). cond (cross e.corners s) n 0)
          (sym (count-cons (has_place i) f xs ∙ ap (λ (b : Bool). cond b 1 0 + count_by (has_place i) xs) here)))
      | inr other ↦
          count-cons (crosses_at e i) f xs ∙ ap
          (λ (b : Bool). cond (b && crosses e f) 1 0 + count_by (crosses_at e i) xs) other
          ∙ none (count_by (crosses_at e i) xs) ∙ rest
          ∙ ap (λ (n : ℕ). cond (cross e.corners s) n 0)
          (sym (count-cons (has_place i) f xs ∙ ap (λ (b : Bool). cond b 1 0 + count_by (has_place i) xs) other
          ∙ none (count_by (has_place i) xs)))
    ]
  where
    joined : (b : Bool) (n : ℕ) → cond b 1 0 + cond b n 0 ≡ cond b (1 + n) 0
    joined true n = refl
    joined false n = refl

    none : (n : ℕ) → 0 + n ≡ n
    none n = omega arith

-- by how much one more triangle changes the two numbers whose product is the count
here_more : (t h c r m n : ℕ) → h ≡ c → r ≡ 0 → t ≡ m * n → c ≡ n → (h + r) + t ≡ (1 + m) * (0 + n)
here_more t h c r m n e f g k = grind arith

there_more : (t h r m n x : ℕ) → h ≡ 0 → r ≡ x → t ≡ m * n → (h + r) + t ≡ (0 + m) * n + x
there_more t h r m n x e f g = grind arith

pub tally_is : (i : ℕ) (s : Corners) (xs : List Boxed) → AllByRecursion (HasCorners i s) xs
    → tally xs i ≡ count_by (has_place i) xs * count_by (λ f. cross s f.corners) xs
tally_is i s [] h = refl
tally_is i s (e ∷ xs) h =
    let rest = tally_is i s xs h.1 in
    let m = count_by (has_place i) xs in
    let n = count_by (λ f. cross s f.corners) xs in
    let more_m = count-cons (has_place i) e xs in
    let more_n = count-cons (λ (f : Boxed). cross s f.corners) e xs in
    let there = crossed_there e i s xs h.1 in
    elim (either (has_place i e)) [
      | inl here ↦
          (let same : e.corners ≡ s = h.0 (eqb-true e.place i here) in
          let none : cross s e.corners ≡ false = ap (cross s) same ∙ not_itself s in
          let none' : cross e.corners s ≡ false = mutual_cross s e.corners ∙ none in
          let own : count_by (crosses e) xs ≡ n =
          ap (λ (c : Corners). count_by (λ (f : Boxed). cross c f.corners) xs) same in
          let first : cond (e.place == i) (count_by (crosses e) xs) 0 ≡ count_by (crosses e) xs =
          ap (λ (b : Bool). cond b (count_by (crosses e) xs) 0) here in
          let second : count_by (crosses_at e i) xs ≡ 0 = there ∙ ap (λ (b : Bool). cond b m 0) none' in
          here_more (tally xs i) _ (count_by (crosses e) xs) _ m n first second rest own
          ∙ sym (ap₂ ◌*◌ (more_m ∙ ap (λ (b : Bool). cond b 1 0 + m) here)
          (more_n ∙ ap (λ (b : Bool). cond b 1 0 + n) none)))
      | inr other ↦
          (let first : cond (e.place == i) (count_by (crosses e) xs) 0 ≡ 0 =
          ap (λ (b : Bool). cond b (count_by (crosses e) xs) 0) other in
          there_more (tally xs i) _ _ m n (cond (cross e.corners s) m 0) first there rest
          ∙ last (cross e.corners s) (cross s e.corners) m n (mutual_cross s e.corners)
          ∙ sym (ap₂ ◌*◌ (more_m ∙ ap (λ (b : Bool). cond b 1 0 + m) other) more_n))
    ]
  where
    last : (b d : Bool) (m n : ℕ) → b ≡ d → (0 + m) * n + cond b m 0 ≡ (0 + m) * (cond d 1 0 + n)
    last true true m n e = grind arith
    last true false m n e = absurd (let f : ⊥ = cc in f)
    last false true m n e = absurd (let f : ⊥ = cc in f)
    last false false m n e = grind arith

-- ---- the pairs
all_rows : (s : Corners) (all ts : List Corners)
    → sum_by (λ t. count_by (cross t) (s ∷ all)) ts ≡ count_by (cross s) ts + sum_by (λ t. count_by (cross t) all) ts
all_rows s all [] = refl
all_rows s all (t ∷ ts) =
    four _ _ _ _ _ _ _ _
    (sum_by-cons (λ (u : Corners). count_by (cross u) (s ∷ all)) t ts)
    (count-cons (cross t) s all ∙ ap (λ (b : Bool). cond b 1 0 + count_by (cross t) all) (mutual_cross s t))
    (all_rows s all ts)
    (count-cons (cross s) t ts)
    (sum_by-cons (λ (u : Corners). count_by (cross u) all) t ts)
  where
    four : (a b c d e f g h : ℕ) → a ≡ b + c → b ≡ d + e → c ≡ f + g → h ≡ d + f → {k : ℕ} → k ≡ e + g → a ≡ h + k
    four a b c d e f g h p q r s t = omega arith

-- each pair is counted at both of its triangles
pub both_ways : (ts : List Corners) → sum_by (λ t. count_by (cross t) ts) ts ≡ 2 * crossing_pairs ts
both_ways [] = refl
both_ways (s ∷ ts) =
    twice _ _ _ _ _ (sum_by-cons (λ (t : Corners). count_by (cross t) (s ∷ ts)) s ts)
    (count-cons (cross s) s ts ∙ ap (λ (b : Bool). cond b 1 0 + count_by (cross s) ts) (not_itself s))
    (all_rows s ts ts) (both_ways ts)
  where
    twice : (a b c n k : ℕ) → a ≡ b + c → b ≡ 0 + n → {r : ℕ} → c ≡ n + r → r ≡ 2 * k → a ≡ 2 * (n + k)
    twice a b c n k p q r s = omega arith

pub count-moved : {X : Type 0} (p : X → Bool) (xs ys : List X) → IsPermutation xs ys → count_by p ys ≡ count_by p xs
count-moved {X = X} p xs ys h = sum_by-IsPermutation (λ (x : X). cond (p x) 1 0) xs ys h

sum-same : {X : Type 0} (f g : X → ℕ) (xs : List X) → ((x : X) → f x ≡ g x) → sum_by f xs ≡ sum_by g xs
sum-same f g [] h = refl
sum-same f g (x ∷ xs) h = sum_by-cons f x xs ∙ ap₂ ◌+◌ (h x) (sum-same f g xs h) ∙ sym (sum_by-cons g x xs)

half : (a b : ℕ) → 2 * a ≡ 2 * b → a ≡ b
half a b e = omega arith

-- the number of pairs that cross does not depend on the order
pub pairs_moved : (xs ys : List Corners) → IsPermutation xs ys → crossing_pairs ys ≡ crossing_pairs xs
pairs_moved xs ys h =
    half (crossing_pairs ys) (crossing_pairs xs)
    (sym (both_ways ys) ∙ sum-same (λ (t : Corners). count_by (cross t) ys) (λ (t : Corners). count_by (cross t) xs) ys
    (λ t. count-moved (cross t) xs ys h)
    ∙ sum_by-IsPermutation (λ (t : Corners). count_by (cross t) xs) xs ys h ∙ both_ways xs)

-- at most every triangle with every other one
pub few_pairs : (n : ℕ) (ts : List Corners) → length ts ≤ n → crossing_pairs ts ≤ length ts * n
few_pairs n [] h = omega arith
few_pairs n (s ∷ ts) h =
    let rest = few_pairs n ts (omega arith) in
    let row = count_by-le-length (cross s) ts in
    more (length ts) (length (s ∷ ts)) n (crossing_pairs ts) (count_by (cross s) ts) (omega arith) rest
    (omega (arith, row))
  where
    more : (l k n p c : ℕ) → k ≡ 1 + l → p ≤ l * n → c ≤ n → c + p ≤ k * n
    more l k n p c e h g = grind arith
