-- Each contour with a cap is in one group: sums over groups are sums over these contours.
use Rattle.std.proofs.Common.{◌≡◌, ℕ, zero, suc, ◌+◌, ◌<◌, ◌≤◌, ◌⊎◌, inl, inr, ◌==◌, ◌&&◌, not, Bool, true, false, cond, Option, None, Some, List, [], ◌∷◌, filter, refl, sym, ap, ap₂, ◌∙◌, arith}
use Rattle.std.specs.List.{range_with_len}
use Rattle.std.proofs.lemmas.Bool.{cases_eq, ne_eqb, eq-eqb, and_right}
use Rattle.surface_core.proofs.PlaceSums.{adds, adds_cond}
use Rattle.ring_caps.specs.Groups.{parent_passes, begins, joins_group, group}

-- ---- sums
adds_filter : (r : ℕ → ℕ) (test : ℕ → Bool) (ks : List ℕ)
    → adds r (filter test ks) ≡ adds (λ k. cond (test k) (r k) 0) ks
adds_filter r test [] = refl
adds_filter r test (k ∷ ks) = omega (arith, adds_cond r (test k) k (filter test ks), adds_filter r test ks)

adds_same : (f g : ℕ → ℕ) (a n : ℕ) → ((k : ℕ) → a ≤ k → k < a + n → f k ≡ g k)
    → adds f (range_with_len a n) ≡ adds g (range_with_len a n)
adds_same f g a zero h = refl
adds_same f g a (suc n) h = omega (
  arith,
  h a (omega arith) (omega arith),
  adds_same f g (a + 1) n (λ k l b. h k (omega arith) (omega arith)),
)

adds_both : (f g : ℕ → ℕ) (ks : List ℕ) → adds (λ k. f k + g k) ks ≡ adds f ks + adds g ks
adds_both f g [] = refl
adds_both f g (k ∷ ks) = omega (arith, adds_both f g ks)

adds_none : (ks : List ℕ) → adds (λ k. 0) ks ≡ 0
adds_none [] = refl
adds_none (k ∷ ks) = omega (arith, adds_none ks)

adds_swap : (h : ℕ → ℕ → ℕ) (xs ys : List ℕ) → adds (λ k. adds (λ j. h k j) ys) xs ≡ adds (λ j. adds (λ k. h k j) xs) ys
adds_swap h [] ys = sym (adds_none ys)
adds_swap h (x ∷ xs) ys = omega (arith, adds_swap h xs ys, adds_both (λ j. h x j) (λ j. adds (λ k. h k j) xs) ys)

-- one number of a range is counted
none_before : (p v a n : ℕ) → p < a → adds (λ k. cond (p == k) v 0) (range_with_len a n) ≡ 0
none_before p v a zero l = refl
none_before p v a (suc n) l = omega (
  arith,
  ap (λ (b : Bool). cond b v 0) (ne_eqb p a (λ e. absurd (omega arith))),
  none_before p v (a + 1) n (omega arith),
)

adds_one : (p v a n : ℕ) → a ≤ p → p < a + n → adds (λ k. cond (p == k) v 0) (range_with_len a n) ≡ v
adds_one p v a zero l b = absurd (omega arith)
adds_one p v a (suc n) l b =
    elim (cases_eq p a) [
      | inl e ↦ omega (arith, ap (λ (t : Bool). cond t v 0) (eq-eqb p a e), none_before p v (a + 1) n (omega arith))
      | inr ne ↦ omega (
        arith,
        ap (λ (t : Bool). cond t v 0) (ne_eqb p a ne),
        adds_one p v (a + 1) n (omega (arith, ne)) (omega arith),
      )
    ]

cond_adds : (b : Bool) (f : ℕ → ℕ) (ks : List ℕ) → cond b (adds f ks) 0 ≡ adds (λ k. cond b (f k) 0) ks
cond_adds true f ks = refl
cond_adds false f ks = sym (adds_none ks)

-- ---- families: parents are among n contours, and have no parents themselves
pub record AreFamilies (parents : ℕ → Option ℕ) (n : ℕ) : Type 0 where
  pub there : (k j : ℕ) → k < n → parents k ≡ Some j → j < n
  pub no_parent : (k j : ℕ) → k < n → parents k ≡ Some j → parents j ≡ None

-- a contour that belongs to the group of its parent
abbrev tail : (ℕ → ℕ) → (ℕ → Bool) → (ℕ → Option ℕ) → ℕ → ℕ
tail r capped parents j = cond (capped j && parent_passes capped (parents j)) (r j) 0

option_cases : (o : Option ℕ) → (o ≡ None) ⊎ ((j : ℕ) × (o ≡ Some j))
option_cases None = inl refl
option_cases (Some j) = inr (j, refl)

and_true : (b : Bool) → (b && true) ≡ b
and_true true = refl
and_true false = refl

cond_same : (b : Bool) (z : ℕ) → cond b z z ≡ z
cond_same true z = refl
cond_same false z = refl

both : (x y : Bool) (m : ℕ) → cond y (cond (x && true) m 0) 0 ≡ cond (x && y) m 0
both true true m = refl
both true false m = refl
both false true m = refl
both false false m = refl

chosen : (b c x y : Bool) (m : ℕ) → c ≡ true → b ≡ y → cond b (cond (x && c) m 0) 0 ≡ cond c (cond (x && y) m 0) 0
chosen b c x y m t e = ap₂ (λ (d f : Bool). cond d (cond (x && f) m 0) 0) e t ∙ both x y m
    ∙ sym (ap (λ (d : Bool). cond d (cond (x && y) m 0) 0) t)

passed : (b c x : Bool) (m v : ℕ) → c ≡ false → cond b (cond (x && c) m 0) 0 ≡ cond c v 0
passed b c x m v f =
    ap (λ (d : Bool). cond b (cond (x && d) m 0) 0) f
    ∙ ap (λ (d : Bool). cond b (cond d m 0) 0) (and_right x false refl) ∙ cond_same b 0
    ∙ sym (ap (λ (d : Bool). cond d v 0) f)

-- the sum over the groups to which contour j belongs: that of its parent, if both have a cap
abbrev gone_on : (ℕ → ℕ) → (ℕ → Bool) → (ℕ → Option ℕ) → ℕ → ℕ → ℕ
gone_on r capped parents n j = adds
    (λ k. cond (begins capped parents k) (cond (joins_group capped parents k j) (r j) 0) 0) (range_with_len 0 n)

alone : (r : ℕ → ℕ) (capped : ℕ → Bool) (parents : ℕ → Option ℕ) (n j : ℕ) → parents j ≡ None
    → gone_on r capped parents n j ≡ tail r capped parents j
alone r capped parents n j e =
    let zero_each : (k : ℕ) → cond (begins capped parents k) (cond (joins_group capped parents k j) (r j) 0) 0 ≡ 0 =
    λ k.
    ap (λ (o : Option ℕ). cond (begins capped parents k) (cond (capped j && parent_passes (λ i. i == k) o) (r j) 0) 0) e
    ∙ ap (λ (t : Bool). cond (begins capped parents k) (cond t (r j) 0) 0) (and_right (capped j) false refl)
    ∙ cond_same (begins capped parents k) 0 in
    adds_same (λ k. cond (begins capped parents k) (cond (joins_group capped parents k j) (r j) 0) 0) (λ k. 0) 0 n
    (λ k a b. zero_each k) ∙ adds_none (range_with_len 0 n)
    ∙ sym (ap (λ (o : Option ℕ). cond (capped j && parent_passes capped o) (r j) 0) e
    ∙ ap (λ (t : Bool). cond t (r j) 0) (and_right (capped j) false refl))

with_parent : (r : ℕ → ℕ) (capped : ℕ → Bool) (parents : ℕ → Option ℕ) (n j p : ℕ) → p < n → parents p ≡ None
    → parents j ≡ Some p → gone_on r capped parents n j ≡ tail r capped parents j
with_parent r capped parents n j p l none e =
    let v : ℕ = cond (capped j && capped p) (r j) 0 in
    let head : begins capped parents p ≡ capped p = ap (λ (o : Option ℕ). capped p && not (parent_passes capped o)) none
    ∙ and_true (capped p) in
    let term : (k : ℕ) → cond (begins capped parents k) (cond (capped j && (p == k)) (r j) 0) 0 ≡ cond (p == k) v 0 =
    λ k. elim (cases_eq p k) [
      | inl same ↦ chosen (begins capped parents k) (p == k) (capped j) (capped p) (r j) (eq-eqb p k same)
          (ap (begins capped parents) (sym same) ∙ head)
      | inr ne ↦ passed (begins capped parents k) (p == k) (capped j) (r j) v (ne_eqb p k ne)
    ] in
    adds_same (λ k. cond (begins capped parents k) (cond (joins_group capped parents k j) (r j) 0) 0)
    (λ k. cond (p == k) v 0) 0 n
    (λ k a b. ap (λ (o : Option ℕ). cond (begins capped parents k)
    (cond (capped j && parent_passes (λ i. i == k) o) (r j) 0) 0) e ∙ term k)
    ∙ adds_one p v 0 n (omega arith) (omega (arith, l))
    ∙ sym (ap (λ (o : Option ℕ). cond (capped j && parent_passes capped o) (r j) 0) e)

in_groups : (r : ℕ → ℕ) (capped : ℕ → Bool) (parents : ℕ → Option ℕ) (n : ℕ) → AreFamilies parents n → (j : ℕ) → j < n
    → gone_on r capped parents n j ≡ tail r capped parents j
in_groups r capped parents n h j l =
    elim (option_cases (parents j)) [
      | inl e ↦ alone r capped parents n j e
      | inr some ↦ with_parent r capped parents n j some.0 (h.there j some.0 l some.1) (h.no_parent j some.0 l some.1)
          some.1
    ]

-- a contour with a cap begins a group or belongs to one
begins_or_goes_on : (capped x : Bool) (m : ℕ) → cond (capped && not x) m 0 + cond (capped && x) m 0 ≡ cond capped m 0
begins_or_goes_on true true m = omega arith
begins_or_goes_on true false m = omega arith
begins_or_goes_on false true m = refl
begins_or_goes_on false false m = refl

split : (b : Bool) (x y : ℕ) → cond b (x + y) 0 ≡ cond b x 0 + cond b y 0
split true x y = refl
split false x y = refl

-- a sum over all groups is the sum over the contours with a cap
pub group_adds : (r : ℕ → ℕ) (capped : ℕ → Bool) (parents : ℕ → Option ℕ) (n : ℕ) → AreFamilies parents n →
    adds (λ k. adds r (group capped parents n k)) (filter (begins capped parents) (range_with_len 0 n))
    ≡ adds r (filter capped (range_with_len 0 n))
group_adds r capped parents n h =
    let all : List ℕ = range_with_len 0 n in
    let heads : ℕ → ℕ = λ k. cond (begins capped parents k) (r k) 0 in
    let others : ℕ → ℕ → ℕ = λ k j. cond (joins_group capped parents k j) (r j) 0 in
    let one : (k : ℕ) → cond (begins capped parents k) (adds r (group capped parents n k)) 0 ≡ heads k
    + adds (λ j. cond (begins capped parents k) (others k j) 0) all = λ k.
    omega (
      arith,
      split (begins capped parents k) (r k) (adds r (filter (joins_group capped parents k) all)),
      ap (λ (m : ℕ). cond (begins capped parents k) m 0) (adds_filter r (joins_group capped parents k) all),
      cond_adds (begins capped parents k) (others k) all,
    ) in
    let whole = adds_filter (λ k. adds r (group capped parents n k)) (begins capped parents) all in
    let parts = adds_same (λ k. cond (begins capped parents k) (adds r (group capped parents n k)) 0)
    (λ k. heads k + adds (λ j. cond (begins capped parents k) (others k j) 0) all) 0 n (λ k a b. one k) in
    let apart = adds_both heads (λ k. adds (λ j. cond (begins capped parents k) (others k j) 0) all) all in
    let swapped = adds_swap (λ k j. cond (begins capped parents k) (others k j) 0) all all in
    let each = adds_same (λ j. adds (λ k. cond (begins capped parents k) (others k j) 0) all) (tail r capped parents) 0
    n (λ j a b. in_groups r capped parents n h j (omega arith)) in
    let joint = adds_both heads (tail r capped parents) all in
    let last = adds_same (λ k. heads k + tail r capped parents k) (λ k. cond (capped k) (r k) 0) 0 n
    (λ k a b. begins_or_goes_on (capped k) (parent_passes capped (parents k)) (r k)) in
    omega (arith, whole, parts, apart, swapped, each, joint, last, adds_filter r capped all)

-- ---- one of the groups
adds_at : (f : ℕ → ℕ) (test : ℕ → Bool) (a n k : ℕ) → a ≤ k → k < a + n → test k ≡ true
    → f k ≤ adds f (filter test (range_with_len a n))
adds_at f test a zero k l b t = absurd (omega arith)
adds_at f test a (suc n) k l b t =
    let more = adds_cond f (test a) a (filter test (range_with_len (a + 1) n)) in
    elim (cases_eq k a) [
      | inl e ↦ omega (
        arith,
        more,
        ap f e,
        ap (λ (i : ℕ). cond (test i) (f a) 0) e,
        ap (λ (t : Bool). cond t (f a) 0) t,
      )
      | inr ne ↦ omega (arith, more, adds_at f test (a + 1) n k (omega (arith, ne)) (omega arith) t)
    ]

part : (b : Bool) (m : ℕ) → cond b m 0 ≤ m
part true m = omega arith
part false m = omega arith

filter_less : (r : ℕ → ℕ) (test : ℕ → Bool) (ks : List ℕ) → adds r (filter test ks) ≤ adds r ks
filter_less r test [] = omega arith
filter_less r test (k ∷ ks) = omega
    (arith, adds_cond r (test k) k (filter test ks), filter_less r test ks, part (test k) (r k))

pub one_group : (r : ℕ → ℕ) (capped : ℕ → Bool) (parents : ℕ → Option ℕ) (n k : ℕ) → AreFamilies parents n → k < n
    → begins capped parents k ≡ true → adds r (group capped parents n k) ≤ adds r (range_with_len 0 n)
one_group r capped parents n k h l b =
    omega (
      arith,
      adds_at (λ k. adds r (group capped parents n k)) (begins capped parents) 0 n k (omega arith)
          (omega arith) b,
      group_adds r capped parents n h,
      filter_less r capped (range_with_len 0 n),
    )
