-- The components of a gap are disjoint.
use Rattle.std.proofs.Common.{◌≡◌, inl, inr, ℕ, ◌<◌, ◌≤◌, ◌==◌, true, false, List, [], ◌∷◌, ◌++◌, length, get_or, refl, sym, ◌∙◌, arith, flat_map, eqb-true, eq-eqb, subst}
use Rattle.std.specs.List.{AllByRecursion}
use Rattle.std.proofs.lemmas.Bool.{or_cases, or_right, or_left, or_from, ne_eqb, false_from_ne_true}
use Rattle.correspondence.specs.Places.{has, IsDistinct, ArePlaces}
use Rattle.correspondence.specs.Components.{Member, Below, Above, Members, AreConnected, IsMember, IsRising, IsComponent, AreInOrder}
use Rattle.fku_types.proofs.ListLaws.{all_join}
use Rattle.correspondence.proofs.Visiting.{has_parts}

-- what holds of all numbers holds of each
pub of_each : (P : ℕ → Type 0) (k : ℕ) (ks : List ℕ) → AllByRecursion P ks → has k ks ≡ true → P k
of_each P k [] a h = absurd (cc)
of_each P k (x ∷ ks) a h = elim (or_cases (x == k) (has k ks) h)
    [ inl e ↦ subst P (eqb-true x k e) a.0 | inr i ↦ of_each P k ks a.1 i ]

-- the first of rising numbers is the least
pub first_le : (ks : List ℕ) (k : ℕ) → IsRising ks → has k ks ≡ true → get_or ks 0 0 ≤ k
first_le [] k r h = absurd (cc)
first_le (x ∷ ks) k r h =
    elim (or_cases (x == k) (has k ks) h) [
      | inl e ↦ omega (arith, eqb-true x k e)
      | inr i ↦ omega (arith, of_each (λ m. x < m) k ks r.0 i)
    ]

pub first_in : (ks : List ℕ) → 0 < length ks → has (get_or ks 0 0) ks ≡ true
first_in [] h = absurd (omega arith)
first_in (x ∷ ks) h = or_left (x == x) (has x ks) (eq-eqb x x refl)

not_among : (k : ℕ) (ks : List ℕ) → AllByRecursion (λ m. k < m) ks → has k ks ≡ false
not_among k [] h = refl
not_among k (x ∷ ks) h = or_from (x == k) (has k ks) (ne_eqb x k (λ e. absurd (omega (arith, h.0))))
    (not_among k ks h.1)

rising_distinct : (ks : List ℕ) → IsRising ks → IsDistinct ks
rising_distinct [] h = tt
rising_distinct (k ∷ ks) h = (not_among k ks h.0, rising_distinct ks h.1)

append_distinct : (xs ys : List ℕ) → IsDistinct xs → IsDistinct ys → ((k : ℕ) → has k xs ≡ true → has k ys ≡ true → ⊥)
    → IsDistinct (xs ++ ys)
append_distinct [] ys a b h = b
append_distinct (x ∷ xs) ys a b h = (
  false_from_ne_true (has x (xs ++ ys)) (λ t. elim (has_parts x xs ys t) [
    | inl i ↦ absurd (let e : false ≡ true = sym a.0 ∙ i in cc)
    | inr i ↦ h x (or_left (x == x) (has x xs) (eq-eqb x x refl)) i
  ]),
  append_distinct xs ys a.1 b (λ k i j. h k (or_right (x == k) (has k xs) i) j),
)

-- no contour is a member of two components
not_both : (links : ℕ → ℕ → Type 0) (n m : ℕ) (c d : Members) → IsComponent links n m c → IsComponent links n m d
    → get_or c.below 0 0 < get_or d.below 0 0 → (x : Member) → IsMember x c → IsMember x d → ⊥
not_both links n m c d hc hd lt x ic id =
    let a : ℕ = get_or c.below 0 0 in
    let joined : AreConnected links x (Below a) = (hc.whole x (Below a) ic).0 (first_in c.below hc.some_below) in
    let there : has a d.below ≡ true = (hd.whole x (Below a) id).1 joined in
    absurd (omega (arith, first_le d.below a hd.below_in_order there))

below_apart : (links : ℕ → ℕ → Type 0) (n m : ℕ) (c : Members) (cs : List Members) → IsComponent links n m c
    → AllByRecursion (IsComponent links n m) cs → AllByRecursion (λ d. get_or c.below 0 0 < get_or d.below 0 0) cs →
    (k : ℕ) → has k c.below ≡ true → has k (flat_map (λ d. d.below) cs) ≡ true → ⊥
below_apart links n m c [] hc h o k i j = absurd (cc)
below_apart links n m c (d ∷ cs) hc h o k i j =
    elim (has_parts k d.below (flat_map (λ (d : Members). d.below) cs) j) [
      | inl e ↦ not_both links n m c d hc h.0 o.0 (Below k) i e
      | inr e ↦ below_apart links n m c cs hc h.1 o.1 k i e
    ]

above_apart : (links : ℕ → ℕ → Type 0) (n m : ℕ) (c : Members) (cs : List Members) → IsComponent links n m c
    → AllByRecursion (IsComponent links n m) cs → AllByRecursion (λ d. get_or c.below 0 0 < get_or d.below 0 0) cs →
    (k : ℕ) → has k c.above ≡ true → has k (flat_map (λ d. d.above) cs) ≡ true → ⊥
above_apart links n m c [] hc h o k i j = absurd (cc)
above_apart links n m c (d ∷ cs) hc h o k i j =
    elim (has_parts k d.above (flat_map (λ (d : Members). d.above) cs) j) [
      | inl e ↦ not_both links n m c d hc h.0 o.0 (Above k) i e
      | inr e ↦ above_apart links n m c cs hc h.1 o.1 k i e
    ]

-- each contour is in at most one component
pub below_places : (links : ℕ → ℕ → Type 0) (n m : ℕ) (cs : List Members) → AllByRecursion (IsComponent links n m) cs
    → AreInOrder cs → ArePlaces n (flat_map (λ c. c.below) cs)
below_places links n m [] h o = (tt, tt)
below_places links n m (c ∷ cs) h o =
    let rest = below_places links n m cs h.1 o.1 in (
      append_distinct c.below (flat_map (λ (c : Members). c.below) cs) (rising_distinct c.below h.0.below_in_order)
          rest.0 (below_apart links n m c cs h.0 h.1 o.0),
      all_join (λ k. k < n) c.below (flat_map (λ (c : Members). c.below) cs) h.0.below_there rest.1,
    )

pub above_places : (links : ℕ → ℕ → Type 0) (n m : ℕ) (cs : List Members) → AllByRecursion (IsComponent links n m) cs
    → AreInOrder cs → ArePlaces m (flat_map (λ c. c.above) cs)
above_places links n m [] h o = (tt, tt)
above_places links n m (c ∷ cs) h o =
    let rest = above_places links n m cs h.1 o.1 in (
      append_distinct c.above (flat_map (λ (c : Members). c.above) cs) (rising_distinct c.above h.0.above_in_order)
          rest.0 (above_apart links n m c cs h.0 h.1 o.0),
      all_join (λ k. k < m) c.above (flat_map (λ (c : Members). c.above) cs) h.0.above_there rest.1,
    )
