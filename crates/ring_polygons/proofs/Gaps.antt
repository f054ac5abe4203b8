-- Places of a ring after the vertex at one place is removed.
use Rattle.std.proofs.Common.{◌≡◌, ◌≢◌, ◌⊎◌, ℕ, ◌+◌, ◌-◌, ◌%◌, ◌<◌, ◌≤◌, ◌==◌, inl, inr, List, length, get_or, remove, sym, ap, ◌∙◌, arith, eq-eqb}
use Rattle.std.specs.Prelude.{if◌then◌else◌, nat_lt}
use Rattle.std.proofs.lemmas.Bool.{cases_eq, cases_lt, cond-true, cond-false, ne_eqb, lt-ltb, le-ltb}
use Rattle.std.proofs.lemmas.List.Edits.{get_or-remove_below, get_or-remove_above}
use Rattle.std.proofs.Math.Nat.{mod-eq_of_lt, add-mod_right}
use Rattle.ring_polygons.specs.Ears.{place_before, place_after}
use Rattle.ring_polygons.specs.States.{moved_place}

-- where the vertex at place i stood before the one at place p was removed
abbrev pub up : ℕ → ℕ → ℕ
up p i = if nat_lt i p then i else i + 1

up_is : (p i : ℕ) → ((i < p) × (up p i ≡ i)) ⊎ ((p ≤ i) × (up p i ≡ i + 1))
up_is p i = elim (cases_lt i p) [
  | inl l ↦ inl (l, cond-true {A = ℕ} (nat_lt i p) i (i + 1) (lt-ltb i p l))
  | inr h ↦ inr (h, cond-false {A = ℕ} (nat_lt i p) i (i + 1) (le-ltb i p h))
]

pub read : {X : Type 0} (xs : List X) (p i : ℕ) (d : X) → p < length xs
    → get_or (remove xs p) i d ≡ get_or xs (up p i) d
read xs p i d l = elim (up_is p i) [
  | inl h ↦ get_or-remove_below xs p d i h.0 l ∙ ap (λ (j : ℕ). get_or xs j d) (sym h.1)
  | inr h ↦ get_or-remove_above xs p d i h.0 l ∙ ap (λ (j : ℕ). get_or xs j d) (sym h.1)
]

up_apart : (p i j : ℕ) → up p i ≡ up p j → i ≡ j
up_apart p i j e = elim (up_is p i) [
  | inl h ↦ elim (up_is p j) [
    | inl k ↦ omega (arith, h.0, h.1, k.0, k.1, e)
    | inr k ↦ omega
        (arith, h.0, h.1, k.0, k.1, e)
  ]
  | inr h ↦ elim (up_is p j) [
    | inl k ↦ omega (arith, h.0, h.1, k.0, k.1, e)
    | inr k ↦ omega
        (arith, h.0, h.1, k.0, k.1, e)
  ]
]

-- places stay one or two
pub up_same : (p i j : ℕ) → (i == j) ≡ (up p i == up p j)
up_same p i j = elim (cases_eq i j) [
  | inl e ↦ eq-eqb i j e ∙ sym (eq-eqb (up p i) (up p j) (ap (up p) e))
  | inr ne ↦ ne_eqb i j ne ∙ sym (ne_eqb (up p i) (up p j) (λ e. ne (up_apart p i j e)))
]

pub up_below : (n p i : ℕ) → i < n - 1 → up p i < n
up_below n p i l = elim (up_is p i) [ inl h ↦ omega (arith, h.1) | inr h ↦ omega (arith, h.1) ]

-- another place is moved and found again
pub up_moved : (p k : ℕ) → k ≢ p → up p (moved_place p k) ≡ k
up_moved p k ne = elim (cases_lt p k) [
  | inl l ↦ ap (up p) (cond-true {A = ℕ} (nat_lt p k) (k - 1) k (lt-ltb p k l))
      ∙ elim (up_is p (k - 1)) [ inl h ↦ omega (arith, h.0) | inr h ↦ omega (arith, h.1) ]
  | inr m ↦ ap (up p) (cond-false {A = ℕ} (nat_lt p k) (k - 1) k (le-ltb p k m))
      ∙ elim (up_is p k) [ inl h ↦ h.1 | inr h ↦ absurd (ne (omega (arith, h.0, m))) ]
]

pub moved_below : (n p k : ℕ) → p < n → k < n → k ≢ p → moved_place p k < n - 1
moved_below n p k l b ne = elim (cases_lt p k) [
  | inl h ↦ omega (arith, cond-true {A = ℕ} (nat_lt p k) (k - 1) k (lt-ltb p k h))
  | inr h ↦ omega (arith, cond-false {A = ℕ} (nat_lt p k) (k - 1) k (le-ltb p k h), ne)
]

-- ---- the places before and after
before_is : (n t : ℕ) → t < n → ((t ≡ 0) × (place_before n t + 1 ≡ n)) ⊎ (place_before n t + 1 ≡ t)
before_is n t l = elim (cases_lt 0 t) [
  | inl h ↦
      let back : t + n - 1 ≡ t - 1 + n = omega arith in
      let e : place_before n t ≡ t - 1 = ap (λ (i : ℕ). i % n) back ∙ add-mod_right (t - 1) n
      ∙ mod-eq_of_lt (omega arith) in
      inr (omega (arith, e))
  | inr h ↦
      let zero : t ≡ 0 = omega arith in
      let back : t + n - 1 ≡ n - 1 = omega arith in
      let e : place_before n t ≡ n - 1 = ap (λ (i : ℕ). i % n) back ∙ mod-eq_of_lt (omega arith) in
      inl (zero, omega (arith, e))
]

after_is : (n t : ℕ) → t < n → ((t + 1 ≡ n) × (place_after n t ≡ 0)) ⊎ ((t + 1 < n) × (place_after n t ≡ t + 1))
after_is n t l = elim (cases_lt (t + 1) n) [
  | inl h ↦ inr (h, mod-eq_of_lt h)
  | inr h ↦
      let whole : t + 1 ≡ 0 + n = omega arith in
      inl (omega arith, ap (λ (i : ℕ). i % n) whole ∙ add-mod_right 0 n ∙ mod-eq_of_lt (omega arith))
]

-- except at the corner after the gap, the place before stays the place before
pub up_before : (n p t : ℕ) → p < n → 2 ≤ n → t < n - 1 → up p t ≢ place_after n p
    → up p (place_before (n - 1) t) ≡ place_before n (up p t)
up_before n p t l two b ne =
    let there : up p t < n = up_below n p t b in
    let at = up_is p t in
    let to = up_is p (place_before (n - 1) t) in
    let old = before_is n (up p t) there in
    let new = before_is (n - 1) t b in
    let other = after_is n p l in
    split at to old new other
  where
    split : ((t < p) × (up p t ≡ t)) ⊎ ((p ≤ t) × (up p t ≡ t + 1)) →
        ((place_before (n - 1) t < p) × (up p (place_before (n - 1) t) ≡ place_before (n - 1) t))
        ⊎ ((p ≤ place_before (n - 1) t) × (up p (place_before (n - 1) t) ≡ place_before (n - 1) t + 1)) →
        ((up p t ≡ 0) × (place_before n (up p t) + 1 ≡ n)) ⊎ (place_before n (up p t) + 1 ≡ up p t) →
        ((t ≡ 0) × (place_before (n - 1) t + 1 ≡ n - 1)) ⊎ (place_before (n - 1) t + 1 ≡ t) →
        ((p + 1 ≡ n) × (place_after n p ≡ 0)) ⊎ ((p + 1 < n) × (place_after n p ≡ p + 1)) →
        up p (place_before (n - 1) t) ≡ place_before n (up p t)
    split at to old new other = grind arith

pub up_after : (n p t : ℕ) → p < n → 2 ≤ n → t < n - 1 → up p t ≢ place_before n p
    → up p (place_after (n - 1) t) ≡ place_after n (up p t)
up_after n p t l two b ne =
    let there : up p t < n = up_below n p t b in
    let at = up_is p t in
    let to = up_is p (place_after (n - 1) t) in
    let old = after_is n (up p t) there in
    let new = after_is (n - 1) t b in
    let other = before_is n p l in
    split at to old new other
  where
    split : ((t < p) × (up p t ≡ t)) ⊎ ((p ≤ t) × (up p t ≡ t + 1)) →
        ((place_after (n - 1) t < p) × (up p (place_after (n - 1) t) ≡ place_after (n - 1) t))
        ⊎ ((p ≤ place_after (n - 1) t) × (up p (place_after (n - 1) t) ≡ place_after (n - 1) t + 1)) →
        ((up p t + 1 ≡ n) × (place_after n (up p t) ≡ 0)) ⊎ ((up p t + 1 < n) × (place_after n (up p t) ≡ up p t + 1)) →
        ((t + 1 ≡ n - 1) × (place_after (n - 1) t ≡ 0)) ⊎ ((t + 1 < n - 1) × (place_after (n - 1) t ≡ t + 1)) →
        ((p ≡ 0) × (place_before n p + 1 ≡ n)) ⊎ (place_before n p + 1 ≡ p) →
        up p (place_after (n - 1) t) ≡ place_after n (up p t)
    split at to old new other = grind arith
