-- Counts of directed edges are sums of a weight.
use Rattle.std.proofs.Common.{◌≡◌, ℕ, ◌+◌, ◌==◌, Bool, true, false, cond, List, [], ◌∷◌, refl, sym, ap, ◌∙◌, arith, count_by}
use Rattle.std.specs.List.{flat_map}
use Rattle.std.proofs.lemmas.List.Recursion.{is_count_by}
use Rattle.plane_geom.specs.Rings.{ring_edges, is_edge, edge_count, LeavesOver, IsClosed}
use Rattle.plane_geom.proofs.Sums.{weigh, total, back, total_edges}
use Rattle.fku_types.proofs.TruthLaws.{and_comm}

-- 1 for the edge from u to v
abbrev pub one_edge : ℕ → ℕ → ℕ → ℕ → ℕ
one_edge u v a b = cond (is_edge u v (a, b)) 1 0

-- two weights that agree at each edge
pub weigh_same : {X : Type 0} (f g : X → X → ℕ) → ((a b : X) → f a b ≡ g a b) → (es : List (X × X))
    → weigh f es ≡ weigh g es
weigh_same f g h [] = refl
weigh_same f g h (e ∷ es) = omega (arith, h e.0 e.1, weigh_same f g h es)

pub total_same : {X : Type 0} (f g : X → X → ℕ) → ((a b : X) → f a b ≡ g a b) → (rings : List (List X))
    → total f rings ≡ total g rings
total_same f g h [] = refl
total_same f g h (ring ∷ rings) = omega (arith, weigh_same f g h (ring_edges ring), total_same f g h rings)

one_or_none : (b : Bool) (n : ℕ) → cond b 1 0 + n ≡ cond b (1 + n) n
one_or_none true n = refl
one_or_none false n = omega arith

pub count_weigh : (u v : ℕ) (es : List (ℕ × ℕ)) → count_by (is_edge u v) es ≡ weigh (one_edge u v) es
count_weigh u v es = sym (is_count_by (weigh (one_edge u v)) (is_edge u v) refl
    (λ e rest. one_or_none (is_edge u v e) (weigh (one_edge u v) rest)) es)

pub count_total : (rings : List (List ℕ)) (u v : ℕ) → edge_count rings u v ≡ total (one_edge u v) rings
count_total rings u v = count_weigh u v (flat_map ring_edges rings) ∙ total_edges (one_edge u v) rings

pub one_back : (u v a b : ℕ) → one_edge v u a b ≡ back (one_edge u v) a b
one_back u v a b = ap (λ (t : Bool). cond t 1 0) (and_comm (a == v) (b == u))

pub count_back : (rings : List (List ℕ)) (u v : ℕ) → edge_count rings v u ≡ total (back (one_edge u v)) rings
count_back rings u v = count_total rings v u ∙ total_same (one_edge v u) (back (one_edge u v)) (one_back u v) rings

-- the law of sums gives the law of counts
pub leaves_over : (triangles forwards backwards : List (List ℕ)) →
    ((f : ℕ → ℕ → ℕ) → total f triangles + total (back f) forwards + total f backwards ≡ total (back f) triangles
    + total f forwards + total (back f) backwards) →
    LeavesOver triangles forwards backwards
leaves_over ts xs ys h u v =
    omega (
      arith,
      h (one_edge u v),
      count_total ts u v,
      count_back ts u v,
      count_total xs u v,
      count_back xs u v,
      count_total ys u v,
      count_back ys u v,
    )

pub closed : (triangles : List (List ℕ)) → ((f : ℕ → ℕ → ℕ) → total f triangles ≡ total (back f) triangles)
    → IsClosed triangles
closed ts h u v = omega (arith, h (one_edge u v), count_total ts u v, count_back ts u v)
