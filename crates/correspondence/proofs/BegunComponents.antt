-- One component after another, in the order of their first contours.
use Rattle.std.proofs.Common.{◌≡◌, ◌⊎◌, inl, inr, ℕ, ◌+◌, ◌<◌, ◌||◌, true, false, List, [], ◌∷◌, ◌++◌, get_or, refl, sym, ap, ◌∙◌, subst, arith}
use Rattle.std.specs.List.{list_any, AllByRecursion}
use Rattle.std.proofs.lemmas.Bool.{cases_lt, or_left, or_right, or_cases, cases_eq, both_ways}
use Rattle.std.proofs.lemmas.List.Folds.{list_any-append}
use Rattle.correspondence.specs.Places.{has}
use Rattle.correspondence.specs.Components.{Member, Below, Above, Members, Leads, IsComponent, AreInOrder}
use Rattle.correspondence.specs.Graphs.{AreBegun}
use Rattle.correspondence.proofs.ComponentLaws.{first_le, first_in}
use Rattle.fku_types.proofs.ListLaws.{all_push, all_weaker}

order_push : (cs : List Members) (c : Members) (r : ℕ) → AreInOrder cs → AllByRecursion (λ d. get_or d.below 0 0 < r) cs
    → get_or c.below 0 0 ≡ r → AreInOrder (cs ++ c ∷ [])
order_push [] c r o f e = (tt, tt)
order_push (d ∷ cs) c r o f e = (
  all_push (λ x. get_or d.below 0 0 < get_or x.below 0 0) cs c o.0
      (omega (arith, f.0, e)),
  order_push cs c r o.1 f.1 e,
)

-- the component that contains a place
found_in : (links : ℕ → ℕ → Type 0) (n m i : ℕ) (cs : List Members) → AllByRecursion (IsComponent links n m) cs
    → list_any (λ c. has i c.below) cs ≡ true
    → (c : Members) × IsComponent links n m c × (has i c.below ≡ true)
    × ((k : ℕ) → has k c.below ≡ true → list_any (λ d. has k d.below) cs ≡ true)
found_in links n m i [] a h = absurd (both_ways false refl h)
found_in links n m i (c ∷ cs) a h = elim (or_cases (has i c.below) (list_any (λ d. has i d.below) cs) h) [
  | inl e ↦ (c, a.0, e, λ k t. or_left (has k c.below) (list_any (λ d. has k d.below) cs) t)
  | inr r ↦ (let f = found_in links n m i cs a.1 r in
      (f.0, f.1, f.2, λ k t. or_right (has k c.below) (list_any (λ d. has k d.below) cs) (f.3 k t)))
]

first_link : (links : ℕ → ℕ → Type 0) (i : ℕ) (via : List Member) (y : Member) → Leads links (Below i) via y
    → (Below i ≡ y) ⊎ ((j : ℕ) × links i j)
first_link links i [] y e = inl e
first_link links i (Above j ∷ via) y p = inr (j, p.0)
first_link links i (Below j ∷ via) y p = absurd p.0

abbrev below_place : Member → ℕ
below_place (Below i) = i
below_place (Above j) = 0

pub begun_pass : (links : ℕ → ℕ → Type 0) (n m r : ℕ) (cs : List Members) → AreBegun links n m r cs
    → ((j : ℕ) → links r j → list_any (λ c. has r c.below) cs ≡ true) → AreBegun links n m (r + 1) cs
begun_pass links n m r cs b h = record {
  components = b.components;
  in_order = b.in_order;
  firsts = all_weaker (λ c. get_or c.below 0 0 < r) (λ c. get_or c.below 0 0 < r + 1) cs (λ c l. omega arith) b.firsts;
  every = λ i j l k. elim (cases_eq i r) [
    | inl e ↦ subst (λ (p : ℕ). list_any (λ c. has p c.below) cs ≡ true) (sym e)
        (h j (subst (λ (p : ℕ). links p j) e k))
    | inr ne ↦ b.every i j (omega (arith, ne)) k
  ];
}

pub begun_push : (links : ℕ → ℕ → Type 0) (n m r : ℕ) (cs : List Members) (c : Members) → AreBegun links n m r cs
    → list_any (λ d. has r d.below) cs ≡ false → IsComponent links n m c → has r c.below ≡ true
    → AreBegun links n m (r + 1) (cs ++ c ∷ [])
begun_push links n m r cs c b new h own =
    let first : get_or c.below 0 0 ≡ r =
    elim (cases_lt (get_or c.below 0 0) r)
    [ inr g ↦ omega (arith, first_le c.below r h.below_in_order own) | inl l ↦ earlier l ] in
    record {
      components = all_push (IsComponent links n m) cs c b.components h;
      in_order = order_push cs c r b.in_order b.firsts first;
      firsts = all_push (λ d. get_or d.below 0 0 < r + 1) cs c
          (all_weaker (λ d. get_or d.below 0 0 < r) (λ d. get_or d.below 0 0 < r + 1) cs (λ d l. omega arith) b.firsts)
          (omega (arith, first));
      every = λ i j l k. list_any-append (λ (d : Members). has i d.below) cs (c ∷ []) ∙ elim (cases_eq i r) [
        | inl e ↦ or_right (list_any (λ d. has i d.below) cs) (has i c.below || false)
            (or_left (has i c.below) false (ap (λ (p : ℕ). has p c.below) e ∙ own))
        | inr ne ↦ or_left (list_any (λ d. has i d.below) cs) (has i c.below || false)
            (b.every i j (omega (arith, ne)) k)
      ];
    }
  where
    earlier : get_or c.below 0 0 < r → get_or c.below 0 0 ≡ r
    earlier l =
        let i : ℕ = get_or c.below 0 0 in
        let there : has i c.below ≡ true = first_in c.below h.some_below in
        let path = (h.whole (Below i) (Below r) there).0 own in
        elim (first_link links i path.0 (Below r) path.1) [
          | inl e ↦ ap below_place e
          | inr k ↦
              let d = found_in links n m i cs b.components (b.every i k.0 l k.1) in
              absurd (both_ways (list_any (λ x. has r x.below) cs) new
              (d.3 r ((d.1.whole (Below i) (Below r) d.2).1 path)))
        ]
