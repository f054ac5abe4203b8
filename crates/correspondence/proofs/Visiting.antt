-- Nodes that are reached: one step of a visit, and one visit.
use Rattle.std.proofs.Common.{◌≡◌, ◌≢◌, ◌⊎◌, inl, inr, ℕ, ◌+◌, ◌<◌, ◌≤◌, ◌==◌, Bool, true, false, cond, List, [], ◌∷◌, ◌++◌, length, refl, sym, ap, ◌∙◌, subst, arith, eqb-true, eq-eqb}
use Rattle.std.proofs.Math.ListN.{set, replicate, get_or-eq_default}
use Rattle.std.proofs.lemmas.Bool.{or_cases, or_left, or_right, cases_eq, cases_lt, cases_Bool, both_ways}
use Rattle.std.proofs.lemmas.List.{length-append, length-replicate, length-set, get_or-replicate, get_or-set_same, get_or-set_other, get_or_past}
use Rattle.std.proofs.lemmas.List.Folds.{list_any-append}
use Rattle.std.proofs.lemmas.List.Sums.{sum_by-set}
use Rattle.correspondence.specs.Places.{has}
use Rattle.correspondence.specs.Graphs.{mark, LeadsAlong, Reaches, unmarked_count, Visits, AreReached}

pub has_front : (k : ℕ) (xs ys : List ℕ) → has k xs ≡ true → has k (xs ++ ys) ≡ true
has_front k xs ys h = list_any-append (λ m. m == k) xs ys ∙ or_left (has k xs) (has k ys) h

pub has_back : (k : ℕ) (xs ys : List ℕ) → has k ys ≡ true → has k (xs ++ ys) ≡ true
has_back k xs ys h = list_any-append (λ m. m == k) xs ys ∙ or_right (has k xs) (has k ys) h

pub has_parts : (k : ℕ) (xs ys : List ℕ) → has k (xs ++ ys) ≡ true → (has k xs ≡ true) ⊎ (has k ys ≡ true)
has_parts k xs ys h = or_cases (has k xs) (has k ys) (sym (list_any-append (λ m. m == k) xs ys) ∙ h)

pub has_one : (k x : ℕ) → has k (x ∷ []) ≡ true → x ≡ k
has_one k x h = elim (or_cases (x == k) false h) [ inl e ↦ eqb-true x k e | inr n ↦ absurd (both_ways false refl n) ]

pub one_has : (k : ℕ) → has k (k ∷ []) ≡ true
one_has k = or_left (k == k) false (eq-eqb k k refl)

pub mark_below : (ms : List Bool) (k : ℕ) → mark ms k ≡ true → k < length ms
mark_below ms k h = elim (cases_lt k (length ms))
    [ inl l ↦ l | inr g ↦ absurd (both_ways (mark ms k) (get_or-eq_default ms false g) h) ]

mark_other : (ms : List Bool) (t k : ℕ) (b : Bool) → k ≢ t → mark (set ms t b) k ≡ mark ms k
mark_other ms t k b h = get_or-set_other ms t k b false h

mark_same : (ms : List Bool) (t : ℕ) (b : Bool) → t < length ms → mark (set ms t b) t ≡ b
mark_same ms t b h = get_or-set_same ms t b false h

-- a set mark stays
mark_kept : (ms : List Bool) (t k : ℕ) → t < length ms → mark ms k ≡ true → mark (set ms t true) k ≡ true
mark_kept ms t k l h = elim (cases_eq k t)
    [ inl e ↦ ap (mark (set ms t true)) e ∙ mark_same ms t true l | inr ne ↦ mark_other ms t k true ne ∙ h ]

-- a mark is new or the one that was set
mark_cases : (ms : List Bool) (t k : ℕ) → mark (set ms t true) k ≡ true → (k ≡ t) ⊎ (mark ms k ≡ true)
mark_cases ms t k h = elim (cases_eq k t) [ inl e ↦ inl e | inr ne ↦ inr (sym (mark_other ms t k true ne) ∙ h) ]

unmarked_less : (ms : List Bool) (t : ℕ) → t < length ms → mark ms t ≡ false
    → unmarked_count (set ms t true) + 1 ≡ unmarked_count ms
unmarked_less ms t l h =
    let f : Bool → ℕ = λ b. cond b 0 1 in
    let e = sum_by-set f ms t true false l in
    let one : f (mark ms t) ≡ 1 = ap f h in
    omega (arith, e, one)

pub visits_pass : (R : ℕ → ℕ → Bool) (from t : ℕ) (old new : List Bool) (before waiting : List ℕ)
    → Visits R from t old new before waiting → (R from t ≡ true → mark new t ≡ true)
    → Visits R from (t + 1) old new before waiting
visits_pass R from t old new before waiting v h = record {
  size = v.size;
  kept = v.kept;
  added = λ k l r. elim (cases_eq k t) [
    | inl e ↦ subst (λ (i : ℕ). mark new i ≡ true) (sym e) (h (subst (λ (i : ℕ). R from i ≡ true) e r))
    | inr ne ↦
        v.added k (omega (arith, ne)) r
  ];
  only = v.only;
  stay = v.stay;
  wait = v.wait;
  marked = v.marked;
  less = v.less;
}

-- before the first node to which one may be adjacent, and after the last
pub visits_begin : (R : ℕ → ℕ → Bool) (from n : ℕ) (marks : List Bool) (before : List ℕ)
    → ((k : ℕ) → k < n → R from k ≡ true → ⊥) → Visits R from n marks marks before before
visits_begin R from n marks before none = record {
  size = refl;
  kept = λ k m. m;
  added = λ k l r. absurd (none k l r);
  only = λ k m. inl m;
  stay = λ k h. h;
  wait = λ k m o. absurd (both_ways (mark marks k) o m);
  marked = λ k h. inl h;
  less = omega arith;
}

pub visits_end : (R : ℕ → ℕ → Bool) (from t n : ℕ) (old new : List Bool) (before waiting : List ℕ)
    → ((k : ℕ) → t ≤ k → k < n → R from k ≡ true → ⊥) → Visits R from t old new before waiting
    → Visits R from n old new before waiting
visits_end R from t n old new before waiting none v = record {
  size = v.size;
  kept = v.kept;
  added = λ k l r. elim (cases_lt k t) [ inl b ↦ v.added k b r | inr g ↦ absurd (none k g l r) ];
  only = v.only;
  stay = v.stay;
  wait = v.wait;
  marked = v.marked;
  less = v.less;
}

pub visits_mark : (R : ℕ → ℕ → Bool) (from t : ℕ) (old new : List Bool) (before waiting : List ℕ)
    → Visits R from t old new before waiting → t < length new → mark new t ≡ false → R from t ≡ true
    → Visits R from (t + 1) old (set new t true) before (waiting ++ t ∷ [])
visits_mark R from t old new before waiting v l n r = record {
  size = length-set new t true ∙ v.size;
  kept = λ k h. mark_kept new t k l (v.kept k h);
  added = λ k b h. elim (cases_eq k t) [
    | inl e ↦ ap (mark (set new t true)) e ∙ mark_same new t true l
    | inr ne ↦ mark_kept new t k l (v.added k (omega (arith, ne)) h)
  ];
  only = λ k h. elim (mark_cases new t k h)
      [ inl e ↦ inr (subst (λ (i : ℕ). R from i ≡ true) (sym e) r) | inr m ↦ v.only k m ];
  stay = λ k h. has_front k waiting (t ∷ []) (v.stay k h);
  wait = λ k h o. elim (mark_cases new t k h) [
    | inl e ↦ has_back k waiting (t ∷ []) (subst (λ (i : ℕ). has k (i ∷ []) ≡ true) e (one_has k))
    | inr m ↦ has_front k waiting (t ∷ []) (v.wait k m o)
  ];
  marked = λ k h. elim (has_parts k waiting (t ∷ []) h) [
    | inl a ↦ elim (v.marked k a) [ inl b ↦ inl b | inr m ↦ inr (mark_kept new t k l m) ]
    | inr b ↦ inr (subst (λ (i : ℕ). mark (set new t true) i ≡ true) (has_one k t b) (mark_same new t true l))
  ];
  less = omega (arith, unmarked_less new t l n, length-append waiting (t ∷ []), v.less);
}

-- ---- the whole search
pub passes_push : (R : ℕ → ℕ → Bool) (a : ℕ) (via : List ℕ) (b c : ℕ) → LeadsAlong R a via b → R b c ≡ true
    → LeadsAlong R a (via ++ c ∷ []) c
passes_push R a [] b c e r = (subst (λ (i : ℕ). R i c ≡ true) (sym e) r, refl)
passes_push R a (d ∷ via) b c p r = (p.0, passes_push R d via b c p.1 r)

-- the state between two visits
pub record Reaching (R : ℕ → ℕ → Bool) (start n : ℕ) (marks : List Bool) (waiting : List ℕ) : Type 0 where
  pub size : length marks ≡ n
  pub root : mark marks start ≡ true
  pub sound : (k : ℕ) → mark marks k ≡ true → Reaches R start k
  pub marked : (k : ℕ) → has k waiting ≡ true → mark marks k ≡ true
  pub closed : (a b : ℕ) → mark marks a ≡ true → b < n → R a b ≡ true → has a waiting ≡ false → mark marks b ≡ true

pub reaching_begin : (R : ℕ → ℕ → Bool) (root size : ℕ) (marks : List Bool) (waiting : List ℕ)
    → marks ≡ replicate size false → root < size → waiting ≡ root ∷ []
    → Reaching R root size (set marks root true) waiting
reaching_begin R root size marks waiting e l w =
    let count : length marks ≡ size = ap length e ∙ length-replicate size false in
    let there : root < length marks = omega (arith, l, count) in
    record {
      size = length-set marks root true ∙ count;
      root = mark_same marks root true there;
      sound = λ k h. elim (mark_cases marks root k h)
          [ inl i ↦ ([], sym i) | inr m ↦ absurd (both_ways (mark marks k) (none k) m) ];
      marked = λ k h. subst (λ (i : ℕ). mark (set marks root true) i ≡ true) (has_one k root (sym (ap (has k) w) ∙ h))
          (mark_same marks root true there);
      closed = λ a b m r h o. elim (mark_cases marks root a m) [
        | inl i ↦ absurd (both_ways (has a waiting) o
            (ap (has a) w ∙ subst (λ (j : ℕ). has a (j ∷ []) ≡ true) i (one_has a)))
        | inr n ↦ absurd (both_ways (mark marks a) (none a) n)
      ];
    }
  where
    none : (k : ℕ) → mark marks k ≡ false
    none k = ap (λ (ms : List Bool). mark ms k) e
        ∙ elim (cases_lt k size) [
          | inl b ↦ get_or-replicate size k false false b
          | inr g ↦ get_or_past
              (replicate size false) k false (omega (arith, g, length-replicate size false))
        ]

pub reaching_step : (R : ℕ → ℕ → Bool) (root size x : ℕ) (marks after : List Bool) (waiting rest next : List ℕ)
    → Reaching R root size marks waiting → waiting ≡ rest ++ x ∷ [] → Visits R x (length marks) marks after rest next
    → Reaching R root size after next
reaching_step R root size x marks after waiting rest next h e v =
    let here : has x waiting ≡ true = ap (has x) e ∙ has_back x rest (x ∷ []) (one_has x) in
    record {
      size = v.size ∙ h.size;
      root = v.kept root h.root;
      sound = λ k m. elim (v.only k m) [
        | inl o ↦ h.sound k o
        | inr r ↦
            (let p = h.sound x (h.marked x here) in (p.0 ++ k ∷ [], passes_push R root p.0 x k p.1 r))
      ];
      marked = λ k w. elim (v.marked k w)
          [ inl b ↦ v.kept k (h.marked k (ap (has k) e ∙ has_front k rest (x ∷ []) b)) | inr m ↦ m ];
      closed = λ a b m l r w.
          elim (cases_eq a x) [
            | inl i ↦ v.added b (omega (arith, h.size)) (subst (λ (j : ℕ). R j b ≡ true) i r)
            | inr ne ↦ elim (cases_Bool (mark marks a)) [
              | inl o ↦ v.kept b (h.closed a b o l r (gone a ne w))
              | inr o ↦ absurd (both_ways (has a next) w (v.wait a m o))
            ]
          ];
    }
  where
    gone : (a : ℕ) → a ≢ x → has a next ≡ false → has a waiting ≡ false
    gone a ne w = elim (cases_Bool (has a waiting)) [
      | inr f ↦ f
      | inl t ↦ elim (has_parts a rest (x ∷ []) (sym (ap (has a) e) ∙ t))
          [ inl b ↦ absurd (both_ways (has a next) w (v.stay a b)) | inr b ↦ absurd (ne (sym (has_one a x b))) ]
    ]

pub reaching_end : (R : ℕ → ℕ → Bool) (root size : ℕ) (marks : List Bool) → ((a b : ℕ) → R a b ≡ true → b < size)
    → Reaching R root size marks [] → AreReached R root size marks
reaching_end R root size marks bound h =
    record { size = h.size; reached = λ k. (h.sound k, λ p. along root p.0 k h.root p.1) }
  where
    along : (a : ℕ) (via : List ℕ) (b : ℕ) → mark marks a ≡ true → LeadsAlong R a via b → mark marks b ≡ true
    along a [] b m e = subst (λ (i : ℕ). mark marks i ≡ true) e m
    along a (c ∷ via) b m p = along c via b (h.closed a c m (bound a c p.0) p.0 refl) p.1

pub visits_at : (R : ℕ → ℕ → Bool) (from n : ℕ) (old new marks : List Bool) (before waiting ws : List ℕ) → marks ≡ new
    → ws ≡ waiting → Visits R from n old new before waiting → Visits R from n old marks before ws
visits_at R from n old new marks before waiting ws e f v =
    subst (λ (m : List Bool). Visits R from n old m before ws) (sym e)
    (subst (Visits R from n old new before) (sym f) v)
