-- Different pairs of vertices.
use Rattle.std.proofs.Common.{◌≡◌, ℕ, ◌<◌, ◌≤◌, ◌==◌, ◌&&◌, Bool, true, refl, sym, ap, ap₂, ◌∙◌, eqb-true, eq-eqb}
use Rattle.std.specs.Cmp.{IsEquivalence}
use Rattle.std.proofs.lemmas.Bool.{and_parts, and_from}
use Rattle.fku_types.proofs.TruthLaws.{same_truths}

abbrev pub same_edge : ℕ × ℕ → ℕ × ℕ → Bool
same_edge e f = (e.0 == f.0) && (e.1 == f.1)

pub same_pair : (e f : ℕ × ℕ) → same_edge e f ≡ true → e ≡ f
same_pair e f t =
    let p = and_parts (e.0 == f.0) (e.1 == f.1) t in
    ap₂ (λ (u v : ℕ). (u, v)) (eqb-true e.0 f.0 p.0) (eqb-true e.1 f.1 p.1)

abbrev pub IsPair : ℕ → ℕ × ℕ → Type 0
IsPair n e = (e.0 ≤ e.1) × (e.1 < n)

pair_itself : (e : ℕ × ℕ) → same_edge e e ≡ true
pair_itself e = and_from (e.0 == e.0) (e.1 == e.1) (eq-eqb e.0 e.0 refl) (eq-eqb e.1 e.1 refl)

pub same_edge_equiv : IsEquivalence same_edge
same_edge_equiv = record {
  refl = pair_itself;
  symm = λ e f. same_truths (same_edge e f) (same_edge f e) (turned e f) (turned f e);
  congr = λ e f g t. ap (λ (x : ℕ × ℕ). same_edge x g) (same_pair e f t);
}
  where
    turned : (e f : ℕ × ℕ) → same_edge e f ≡ true → same_edge f e ≡ true
    turned e f t = ap (λ (x : ℕ × ℕ). same_edge x e) (sym (same_pair e f t)) ∙ pair_itself e
