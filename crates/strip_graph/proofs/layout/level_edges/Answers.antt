use Rattle.std.proofs.Common.{◌≡◌, ℕ, ◌+◌, ◌<◌, ℤ, List, [], ◌∷◌, ◌++◌, length, get_or, inl, inr, ap, sym, subst, subst₂, ◌∙◌, arith, to_z, of_z, w32}
use Rattle.std.proofs.lemmas.Bool.{cases_lt}
use Rattle.std.proofs.lemmas.List.{get_or_append_left, get_or_push}
use Rattle.fku_types.specs.declared.points.Point.{Point}
use Rattle.plane_geom.specs.Rings.{around}
use Rattle.strip_graph.specs.declared.areas.Edge.{Edge}
use Rattle.strip_graph.specs.Edges.{IsEdge}
use Rattle.strip_graph.proofs.layout.level_edges.Goals as goal

-- one more edge
edge_more : (high : List Point) (z : ℤ) (xs ys : List Edge) (x : Edge) (k : ℕ) → length xs ≡ k → ys ≡ xs ++ x ∷ []
    → IsEdge x (around high (k + 1)) (around high k) z
    → ((i : ℕ) (d : Edge) → i < k → IsEdge (get_or xs i d) (around high (i + 1)) (around high i) z)
    → (i : ℕ) (d : Edge) → i < k + 1 → IsEdge (get_or ys i d) (around high (i + 1)) (around high i) z
edge_more high z xs ys x k len e last all i d lt = elim (cases_lt i k) [
  | inl less ↦ subst (λ (y : Edge). IsEdge y (around high (i + 1)) (around high i) z)
      (sym (ap (λ (l : List Edge). get_or l i d) e ∙ get_or_append_left xs (x ∷ []) d i (omega (arith, len))))
      (all i d less)
  | inr ge ↦ (let here : k ≡ i = omega arith in
      subst (λ (j : ℕ). IsEdge (get_or ys j d) (around high (j + 1)) (around high j) z) here
      (subst (λ (y : Edge). IsEdge y (around high (k + 1)) (around high k) z)
      (sym (ap (λ (l : List Edge). get_or l k d) e ∙ get_or_push xs x d k len)) last))
]

pub loop-k-preserved : goal.loop-k-preserved
loop-k-preserved c =
    let z = to_z w32 (of_z w32 c.around-height.result.z) in
    let last = subst₂ (λ (a b : Point). IsEdge c.of.result a b z) c.around.ensures.value
    c.around-in-loop-k.ensures.value c.of.ensures in
    record {
      count = omega (arith, c.in_ok-push.ensures.len, c.loop-k.invariant.count);
      are = edge_more c.args.high.now z c.loop-k.edges.items c.push.new.self.items c.of.result c.loop-k.k
          c.loop-k.invariant.count c.in_ok-push.ensures.items last c.loop-k.invariant.are;
    }
