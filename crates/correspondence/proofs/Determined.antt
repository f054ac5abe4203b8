-- The components of a gap are determined.
use Rattle.std.proofs.Common.{◌≡◌, ◌⊎◌, inl, inr, ℕ, ◌<◌, ◌≤◌, ◌==◌, ◌+◌, length, true, false, List, [], ◌∷◌, get_or, refl, sym, ap, ap₂, arith, subst, eqb-true, eq-eqb}
use Rattle.std.specs.List.{AllByRecursion, list_any}
use Rattle.std.proofs.lemmas.Bool.{or_cases, or_left, or_right}
use Rattle.section_core.specs.Parts.{Parts}
use Rattle.correspondence.specs.Outlines.{layer_at}
use Rattle.correspondence.specs.Correspondences.{Correspond}
use Rattle.correspondence.specs.Gaps.{AreGapMembers}
use Rattle.correspondence.specs.Places.{has}
use Rattle.correspondence.specs.Components.{Member, Below, Above, Members, Leads, AreConnected, IsMember, IsRising, IsComponent, AreInOrder, AreComponents}
use Rattle.correspondence.proofs.ComponentLaws.{first_le, first_in, of_each}

-- an element is in a list
abbrev pub In : {X : Type 0} → X → List X → Type 0
In x [] = ⊥
In x (y ∷ ys) = (y ≡ x) ⊎ In x ys

-- rising lists with the same elements are equal
rising_same : (xs ys : List ℕ) → IsRising xs → IsRising ys → ((k : ℕ) → has k xs ≡ true → has k ys ≡ true)
    → ((k : ℕ) → has k ys ≡ true → has k xs ≡ true) → xs ≡ ys
rising_same [] [] a b f g = refl
rising_same [] (y ∷ ys) a b f g = absurd
    (let e : false ≡ true = g y (or_left (y == y) (has y ys) (eq-eqb y y refl)) in cc)
rising_same (x ∷ xs) [] a b f g = absurd
    (let e : false ≡ true = f x (or_left (x == x) (has x xs) (eq-eqb x x refl)) in cc)
rising_same (x ∷ xs) (y ∷ ys) a b f g =
    let low = first_le (y ∷ ys) x b (f x (or_left (x == x) (has x xs) (eq-eqb x x refl))) in
    let high = first_le (x ∷ xs) y a (g y (or_left (y == y) (has y ys) (eq-eqb y y refl))) in
    let e : x ≡ y = omega (arith, low, high) in
    let there : (k : ℕ) → has k xs ≡ true → has k ys ≡ true =
    λ k h. elim (or_cases (y == k) (has k ys) (f k (or_right (x == k) (has k xs) h))) [
      | inl q ↦ absurd (omega (arith, of_each (λ m. x < m) k xs a.0 h, eqb-true y k q, e))
      | inr i ↦ i
    ] in
    let here : (k : ℕ) → has k ys ≡ true → has k xs ≡ true =
    λ k h. elim (or_cases (x == k) (has k xs) (g k (or_right (y == k) (has k ys) h))) [
      | inl q ↦ absurd (omega (arith, of_each (λ m. y < m) k ys b.0 h, eqb-true x k q, e))
      | inr i ↦ i
    ] in
    ap₂ (λ (z : ℕ) (zs : List ℕ). z ∷ zs) e (rising_same xs ys a.1 b.1 there here)

-- components that share a member are equal
same_component : (links : ℕ → ℕ → Type 0) (n m : ℕ) (c d : Members) → IsComponent links n m c → IsComponent links n m d
    → (x : Member) → IsMember x c → IsMember x d → c ≡ d
same_component links n m c d hc hd x ic id =
    let over : (y : Member) → IsMember y c → IsMember y d = λ y h. (hd.whole x y id).1 ((hc.whole x y ic).0 h) in
    let back : (y : Member) → IsMember y d → IsMember y c = λ y h. (hc.whole x y ic).1 ((hd.whole x y id).0 h) in
    ap₂ (λ (b a : List ℕ). record { below = b; above = a })
    (rising_same c.below d.below hc.below_in_order hd.below_in_order (λ k h. over (Below k) h)
    (λ k h. back (Below k) h))
    (rising_same c.above d.above hc.above_in_order hd.above_in_order (λ k h. over (Above k) h)
    (λ k h. back (Above k) h))

-- the first step from a contour below to one above
first_step : (links : ℕ → ℕ → Type 0) (i j : ℕ) (via : List Member) → Leads links (Below i) via (Above j) → (k : ℕ)
    × links i k × AreConnected links (Below i) (Above k)
first_step links i j [] l = absurd (cc)
first_step links i j (Below k ∷ zs) l = absurd l.0
first_step links i j (Above k ∷ zs) l = (k, l.0, (Above k ∷ [], (l.0, refl)))

found_component : (i : ℕ) (cs : List Members) → list_any (λ c. has i c.below) cs ≡ true → (c : Members) × In c cs
    × (has i c.below ≡ true)
found_component i [] h = absurd (cc)
found_component i (c ∷ cs) h =
    elim (or_cases (has i c.below) (list_any (λ d. has i d.below) cs) h) [
      | inl e ↦ (c, inl refl, e)
      | inr k ↦ (let r = found_component i cs k in (r.0, inr r.1, r.2))
    ]

one_of : (P : Members → Type 0) (c : Members) (cs : List Members) → AllByRecursion P cs → In c cs → P c
one_of P c [] h i = absurd i
one_of P c (d ∷ cs) h (inl e) = subst P e h.0
one_of P c (d ∷ cs) h (inr i) = one_of P c cs h.1 i

-- a component of one list is in the other
contour_places_in : (links : ℕ → ℕ → Type 0) (n m : ℕ) (cs : List Members) → AreComponents links n m cs → (c : Members)
    → IsComponent links n m c → In c cs
contour_places_in links n m cs h c hc =
    let i : ℕ = get_or c.below 0 0 in
    let j : ℕ = get_or c.above 0 0 in
    let ib : has i c.below ≡ true = first_in c.below hc.some_below in
    let ja : has j c.above ≡ true = first_in c.above hc.some_above in
    let path = (hc.whole (Below i) (Above j) ib).0 ja in
    let step = first_step links i j path.0 path.1 in
    let there : has step.0 c.above ≡ true = (hc.whole (Below i) (Above step.0) ib).1 step.2 in
    let f = found_component i cs (h.every i step.0 (of_each (λ k. k < n) i c.below hc.below_there ib)
    (of_each (λ k. k < m) step.0 c.above hc.above_there there) step.1) in
    subst (λ (d : Members). In d cs) (same_component links n m f.0 c
    (one_of (IsComponent links n m) f.0 cs h.components f.1) hc (Below i) f.2 ib) f.1

abbrev key : Members → ℕ
key c = get_or c.below 0 0

key_le : (c d : Members) (ds : List Members) → AllByRecursion (λ e. key d < key e) ds → In c (d ∷ ds) → key d ≤ key c
key_le c d ds o (inl e) = omega (arith, ap key e)
key_le c d ds o (inr i) = omega (arith, one_of (λ e. key d < key e) c ds o i)

-- lists in the order of their keys with the same elements are equal
order_same : (cs ds : List Members) → AreInOrder cs → AreInOrder ds → ((c : Members) → In c cs → In c ds)
    → ((d : Members) → In d ds → In d cs) → cs ≡ ds
order_same [] [] a b f g = refl
order_same [] (d ∷ ds) a b f g = absurd (g d (inl refl))
order_same (c ∷ cs) [] a b f g = absurd (f c (inl refl))
order_same (c ∷ cs) (d ∷ ds) a b f g =
    let low = key_le c d ds b.0 (f c (inl refl)) in
    let high = key_le d c cs a.0 (g d (inl refl)) in
    let e : d ≡ c = elim (f c (inl refl))
    [ inl q ↦ q | inr i ↦ absurd (omega (arith, high, one_of (λ e. key d < key e) c ds b.0 i)) ] in
    let there : (x : Members) → In x cs → In x ds = λ x i. elim (f x (inr i)) [
      | inl q ↦ absurd (omega (arith, one_of (λ e. key c < key e) x cs a.0 i, ap key q, ap key e))
      | inr k ↦ k
    ] in
    let here : (x : Members) → In x ds → In x cs = λ x i. elim (g x (inr i)) [
      | inl q ↦ absurd (omega (arith, one_of (λ e. key d < key e) x ds b.0 i, ap key q, ap key e))
      | inr k ↦ k
    ] in
    ap₂ (λ (x : Members) (xs : List Members). x ∷ xs) (sym e) (order_same cs ds a.1 b.1 there here)

each_stands : (links : ℕ → ℕ → Type 0) (n m : ℕ) (cs ds : List Members) → AreComponents links n m cs
    → AreComponents links n m ds → (c : Members) → In c cs → In c ds
each_stands links n m cs ds a b c i =
    contour_places_in links n m ds b c (one_of (IsComponent links n m) c cs a.components i)

components_same : (links : ℕ → ℕ → Type 0) (n m : ℕ) (cs ds : List Members) → AreComponents links n m cs
    → AreComponents links n m ds → cs ≡ ds
components_same links n m cs ds a b =
    order_same cs ds a.in_order b.in_order (each_stands links n m cs ds a b) (each_stands links n m ds cs b a)

pub gap_members_same : (S : Parts) (g : ℕ) (cs ds : List Members) → AreGapMembers S g cs → AreGapMembers S g ds
    → cs ≡ ds
gap_members_same S g cs ds a b = components_same (Correspond S g) (length (layer_at S g).outlines)
    (length (layer_at S (g + 1)).outlines) cs ds a b
