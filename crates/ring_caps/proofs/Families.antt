-- Parents of contours: they exist, and have no parents themselves.
use Rattle.std.proofs.Common.{◌≡◌, ℕ, zero, suc, ◌+◌, ◌%◌, ◌<◌, ◌≤◌, inl, inr, ◌==◌, Bool, true, false, Option, None, Some, find, List, length, get_or, refl, sym, ap, ◌∙◌, arith, eqb-true}
use Rattle.std.specs.Prelude.{unwrap_or, IfSome}
use Rattle.std.specs.List.{range_with_len}
use Rattle.std.proofs.lemmas.Bool.{cases_Bool, cond-true, cond-false, and_parts, ne_eqb}
use Rattle.std.proofs.lemmas.List.FromFn.{get_or-map-range_with_len, length-map-range_with_len}
use Rattle.fku_types.specs.declared.points.Point.{Point}
use Rattle.correspondence.specs.Nesting.{depth, depths, lies_in}
use Rattle.ring_caps.specs.Groups.{is_around, parent, parents}
use Rattle.ring_caps.specs.Held.{parent_by, AreThere}
use Rattle.ring_caps.proofs.GroupSums.{AreFamilies}

is_some : Option ℕ → Bool
is_some None = false
is_some (Some j) = true

none_some : {P : Type 0} (j : ℕ) → None ≡ Some j → P
unfolding is_some
none_some j e = absurd (let t : false ≡ true = ap is_some e in cc)

-- what is found passes the test
pub record Found (test : ℕ → Bool) (a n j : ℕ) : Type 0 where
  pub after : a ≤ j
  pub below : j < a + n
  pub passes : test j ≡ true

pub found : (test : ℕ → Bool) (a n j : ℕ) → find test (range_with_len a n) ≡ Some j → Found test a n j
found test a zero j e = none_some j e
found test a (suc n) j e =
    elim (cases_Bool (test a)) [
      | inl t ↦ (let same : a ≡ j = ap (λ (o : Option ℕ). unwrap_or o 0)
          (sym (cond-true {A = Option ℕ} (test a) (Some a) (find test (range_with_len (a + 1) n)) t) ∙ e) in
          record { after = omega (arith, same); below = omega (arith, same); passes = ap test (sym same) ∙ t })
      | inr f ↦ (let rest = found test (a + 1) n j
          (sym (cond-false {A = Option ℕ} (test a) (Some a) (find test (range_with_len (a + 1) n)) f) ∙ e) in
          record { after = omega (arith, rest.after); below = omega (arith, rest.below); passes = rest.passes })
    ]

-- the facts on a parent
pub record Parent (outlines : List (List Point)) (k j : ℕ) : Type 0 where
  pub there : j < length outlines
  pub deeper : depth outlines j + 1 ≡ depth outlines k
  pub inside : lies_in outlines k j ≡ true
  pub odd : depth outlines k % 2 ≡ 1

pub parent_is : (outlines : List (List Point)) (k j : ℕ) → parent outlines k ≡ Some j → Parent outlines k j
unfolding parent
parent_is outlines k j e =
    let odd : Bool = (depth outlines k % 2) == 1 in
    let first : Option ℕ = find (is_around outlines k) (range_with_len 0 (length outlines)) in
    elim (cases_Bool odd) [
      | inl t ↦ (let f = found (is_around outlines k) 0 (length outlines) j
          (sym (cond-true {A = Option ℕ} odd first None t) ∙ e) in
          let parts = and_parts ((depth outlines j + 1) == depth outlines k) (lies_in outlines k j) f.passes in
          record {
            there = omega (arith, f.below);
            deeper = eqb-true (depth outlines j + 1) (depth outlines k) parts.0;
            inside = parts.1;
            odd = eqb-true (depth outlines k % 2) 1 t;
          })
      | inr f ↦ none_some j (sym (cond-false {A = Option ℕ} odd first None f) ∙ e)
    ]

-- by the test of a hole
pub parent_odd : (outlines : List (List Point)) (k : ℕ) → ((depth outlines k % 2) == 1) ≡ true
    → parent outlines k ≡ find (is_around outlines k) (range_with_len 0 (length outlines))
unfolding parent
parent_odd outlines k t = cond-true {A = Option ℕ} ((depth outlines k % 2) == 1)
    (find (is_around outlines k) (range_with_len 0 (length outlines))) None t

pub parent_even : (outlines : List (List Point)) (k : ℕ) → ((depth outlines k % 2) == 1) ≡ false
    → parent outlines k ≡ None
unfolding parent
parent_even outlines k f = cond-false {A = Option ℕ} ((depth outlines k % 2) == 1)
    (find (is_around outlines k) (range_with_len 0 (length outlines))) None f

-- the depths that the code holds
pub level_count : (outlines : List (List Point)) (levels : List ℕ) → levels ≡ depths outlines
    → length levels ≡ length outlines
level_count outlines levels e = ap length e ∙ length-map-range_with_len (depth outlines) 0 (length outlines)

pub level_at : (outlines : List (List Point)) (levels : List ℕ) (k : ℕ) → levels ≡ depths outlines → k < length outlines
    → get_or levels k 0 ≡ depth outlines k
level_at outlines levels k e l = ap (λ (ds : List ℕ). get_or ds k 0) e
    ∙ get_or-map-range_with_len (depth outlines) 0 (length outlines) k k 0 l (omega arith)

pub even_alone : (outlines : List (List Point)) (k : ℕ) → (depth outlines k % 2 ≡ 1 → ⊥) → parent outlines k ≡ None
unfolding parent
even_alone outlines k h =
    cond-false {A = Option ℕ} ((depth outlines k % 2) == 1)
    (find (is_around outlines k) (range_with_len 0 (length outlines))) None (ne_eqb (depth outlines k % 2) 1 h)

pub families : (outlines : List (List Point)) → AreFamilies (parent outlines) (length outlines)
families outlines = record {
  there = λ k j l e. (parent_is outlines k j e).there;
  no_parent = λ k j l e. let p = parent_is outlines k j e in
      even_alone outlines j (λ o. absurd (omega (arith, p.deeper, p.odd, o)));
}

-- the same for other parents of the same contours
pub same_families : (f g : ℕ → Option ℕ) (n : ℕ) → ((k : ℕ) → k < n → f k ≡ g k) → AreFamilies g n → AreFamilies f n
same_families f g n e h = record {
  there = λ k j l p. h.there k j l (sym (e k l) ∙ p);
  no_parent = λ k j l p. e j (h.there k j l (sym (e k l) ∙ p)) ∙ h.no_parent k j l (sym (e k l) ∙ p);
}

-- ---- the parents of the code
pub held_count : (outlines : List (List Point)) (held : List (Option ℕ)) → held ≡ parents outlines
    → length held ≡ length outlines
held_count outlines held e = ap length e ∙ length-map-range_with_len (parent outlines) 0 (length outlines)

pub held_parent : (outlines : List (List Point)) (held : List (Option ℕ)) → held ≡ parents outlines → (k : ℕ)
    → k < length outlines → parent_by held k ≡ parent outlines k
held_parent outlines held e k l = ap (λ (ps : List (Option ℕ)). get_or ps k None) e
    ∙ get_or-map-range_with_len (parent outlines) 0 (length outlines) k k None l (omega arith)

some_there : (n : ℕ) (o : Option ℕ) → ((j : ℕ) → o ≡ Some j → j < n) → IfSome o (λ j. j < n)
some_there n None h = tt
some_there n (Some j) h = h j refl

pub held_there : (outlines : List (List Point)) (held : List (Option ℕ)) → held ≡ parents outlines → AreThere held
held_there outlines held e k l =
    let n = held_count outlines held e in
    some_there (length held) (parent_by held k)
    (λ j p. omega (
      arith,
      n,
      (families outlines).there k j (omega (arith, n, l))
          (sym (held_parent outlines held e k (omega (arith, n, l))) ∙ p),
    ))
