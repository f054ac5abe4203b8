-- Numbers of edges: different edges have different numbers; and the edges of a list that join two vertices.
use Rattle.std.proofs.Common.{◌≡◌, ◌⊎◌, inl, inr, ℕ, ◌+◌, ◌*◌, ◌<◌, ◌≤◌, ◌==◌, ◌&&◌, ◌||◌, Bool, true, false, cond, nat_le, nat_lt, eqb, List, [], ◌∷◌, map, refl, sym, ap, ap₂, ◌∙◌, arith, eqb-true, eq-eqb}
use Rattle.std.specs.Prelude.{count_by}
use Rattle.std.specs.List.{AllByRecursion, list_any}
use Rattle.std.specs.Set.{is_member}
use Rattle.std.proofs.lemmas.Bool.{and_parts, and_from, lt-ltb, le-leb, leb-true, or_left, or_right, or_cases, cases_lt}
use Rattle.std.proofs.lemmas.List.Sums.{sum_by-cons}
use Rattle.fku_types.proofs.TruthLaws.{same_truths}
use Rattle.plane_geom.specs.Rings.{is_edge}
use Rattle.triangle_meshes.specs.Edges.{unordered}
use Rattle.triangle_meshes.specs.Keys.{key}
use Rattle.triangle_meshes.proofs.PairTests.{same_edge, IsPair}

-- ---- numbers of pairs
pub same_key : (n : ℕ) (e f : ℕ × ℕ) → n ≤ 4294967296 → IsPair n e → IsPair n f → eqb (key e) (key f) ≡ same_edge e f
same_key n e f few h g = same_truths (eqb (key e) (key f)) (same_edge e f)
    (λ t. (let k : 4294967296 * e.0 + e.1 ≡ 4294967296 * f.0 + f.1 = eqb-true (key e) (key f) t in
    let x = h.1 in
    let y = g.1 in
    and_from (e.0 == f.0) (e.1 == f.1) (eq-eqb e.0 f.0 (omega arith)) (eq-eqb e.1 f.1 (omega arith))))
    (λ t. (let p = and_parts (e.0 == f.0) (e.1 == f.1) t in
    let a : e.0 ≡ f.0 = eqb-true e.0 f.0 p.0 in
    let b : e.1 ≡ f.1 = eqb-true e.1 f.1 p.1 in
    eq-eqb (key e) (key f) (omega arith)))

pub member_key : (n : ℕ) (e : ℕ × ℕ) (es : List (ℕ × ℕ)) → n ≤ 4294967296 → IsPair n e → AllByRecursion (IsPair n) es
    → is_member eqb (map key es) (key e) ≡ is_member same_edge es e
member_key n e [] few h a = refl
member_key n e (f ∷ es) few h a = ap₂ (λ (x y : Bool). x || y) (same_key n e f few h a.0) (member_key n e es few h a.1)

-- the two ids of an edge, the smaller one first
pub is_pair : (n : ℕ) (e : ℕ × ℕ) → e.0 < n → e.1 < n → IsPair n (unordered e)
is_pair n e l m = by_order (nat_le e.0 e.1) refl
  where
    not_le : (e.1 < e.0) ⊎ (e.0 ≤ e.1) → nat_le e.0 e.1 ≡ false → e.1 ≤ e.0
    not_le (inl l) t = omega arith
    not_le (inr l) t = absurd (let f : false ≡ true = sym t ∙ le-leb e.0 e.1 l in cc)

    by_order : (b : Bool) → nat_le e.0 e.1 ≡ b → IsPair n (cond b e (e.1, e.0))
    by_order true t = (let k : e.0 ≤ e.1 = leb-true e.0 e.1 t in (k, m))
    by_order false t = (let k : e.1 ≤ e.0 = not_le (cases_lt e.1 e.0) t in (k, l))

-- ---- the edges that join two vertices
abbrev pub joins : ℕ → ℕ → ℕ × ℕ → Bool
joins u v e = is_edge u v e || is_edge v u e

pub same_joins : (u v : ℕ) (e : ℕ × ℕ) → u ≤ v → same_edge (u, v) (unordered e) ≡ joins u v e
same_joins u v e l = same_truths (same_edge (u, v) (unordered e)) (joins u v e) (there (nat_le e.0 e.1)) back
  where
    both : (a b c d : ℕ) → a ≡ b → c ≡ d → ((a == b) && (c == d)) ≡ true
    both a b c d p q = and_from (a == b) (c == d) (eq-eqb a b p) (eq-eqb c d q)

    there : (b : Bool) → same_edge (u, v) (cond b e (e.1, e.0)) ≡ true → joins u v e ≡ true
    there true t = (let p = and_parts (u == e.0) (v == e.1) t in
        or_left (is_edge u v e) (is_edge v u e)
        (both e.0 u e.1 v (sym (eqb-true u e.0 p.0)) (sym (eqb-true v e.1 p.1))))
    there false t = (let p = and_parts (u == e.1) (v == e.0) t in
        or_right (is_edge u v e) (is_edge v u e)
        (both e.0 v e.1 u (sym (eqb-true v e.0 p.1)) (sym (eqb-true u e.1 p.0))))

    placed : (b : Bool) → nat_le e.0 e.1 ≡ b → ((u ≡ e.0) × (v ≡ e.1)) ⊎ ((u ≡ e.1) × (v ≡ e.0))
        → same_edge (u, v) (cond b e (e.1, e.0)) ≡ true
    placed true t (inl p) = both u e.0 v e.1 p.0 p.1
    placed true t (inr p) = (let k : e.0 ≤ e.1 = leb-true e.0 e.1 t in
        both u e.0 v e.1 (omega (arith, p.0, p.1)) (omega (arith, p.0, p.1)))
    placed false t (inl p) = absurd (let f : false ≡ true = sym t ∙ le-leb e.0 e.1 (omega (arith, p.0, p.1)) in cc)
    placed false t (inr p) = both u e.1 v e.0 p.0 p.1

    back : joins u v e ≡ true → same_edge (u, v) (unordered e) ≡ true
    back t = placed (nat_le e.0 e.1) refl (by_case (or_cases (is_edge u v e) (is_edge v u e) t))
      where
        by_case : (is_edge u v e ≡ true) ⊎ (is_edge v u e ≡ true) → ((u ≡ e.0) × (v ≡ e.1)) ⊎ ((u ≡ e.1) × (v ≡ e.0))
        by_case (inl h) = (let p = and_parts (e.0 == u) (e.1 == v) h in
            inl (sym (eqb-true e.0 u p.0), sym (eqb-true e.1 v p.1)))
        by_case (inr h) = (let p = and_parts (e.0 == v) (e.1 == u) h in
            inr (sym (eqb-true e.1 u p.1), sym (eqb-true e.0 v p.0)))

some_more : (a b : Bool) (x y : ℕ) → ((a || b) || nat_lt 0 (x + y)) ≡ nat_lt 0 ((cond a 1 0 + x) + (cond b 1 0 + y))
some_more true b x y = sym (lt-ltb 0 ((1 + x) + (cond b 1 0 + y)) (omega arith))
some_more false true x y = sym (lt-ltb 0 ((0 + x) + (1 + y)) (omega arith))
some_more false false x y = ap (nat_lt 0) (let e : x + y ≡ (0 + x) + (0 + y) = omega arith in e)

pub some_joins : (u v : ℕ) (es : List (ℕ × ℕ))
    → list_any (joins u v) es ≡ nat_lt 0 (count_by (is_edge u v) es + count_by (is_edge v u) es)
some_joins u v [] = refl
some_joins u v (e ∷ es) =
    ap (λ (b : Bool). joins u v e || b) (some_joins u v es)
    ∙ some_more (is_edge u v e) (is_edge v u e) (count_by (is_edge u v) es) (count_by (is_edge v u) es)
    ∙ sym (ap₂ (λ (m n : ℕ). nat_lt 0 (m + n)) (sum_by-cons (λ (x : ℕ × ℕ). cond (is_edge u v x) 1 0) e es)
    (sum_by-cons (λ (x : ℕ × ℕ). cond (is_edge v u x) 1 0) e es))
