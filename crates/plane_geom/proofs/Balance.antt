-- A list that has each edge as often as its reverse: the sum of any weight is that of the reversed edges.
use Rattle.std.proofs.Common.{◌≡◌, ℕ, zero, suc, ◌+◌, ◌<◌, ◌≤◌, inl, inr, ◌==◌, ◌&&◌, true, cond, List, [], ◌∷◌, length, refl, sym, ap, ap₂, ◌∙◌, arith, eq-eqb, eqb-true}
use Rattle.std.proofs.lemmas.Bool.{cases_eq, ne_eqb, and_parts, and_from, and_left, cond-true, cond-false, cases_Bool}
use Rattle.std.specs.List.{flat_map}
use Rattle.plane_geom.specs.Rings.{ring_edges, is_edge, IsClosed}
use Rattle.plane_geom.proofs.Sums.{weigh, total, back, total_edges}
use Rattle.plane_geom.proofs.Counts.{one_edge, one_back, count_weigh}

-- the list without the first edge from u to v
without : ℕ → ℕ → List (ℕ × ℕ) → List (ℕ × ℕ)
without u v [] = []
without u v (e ∷ es) = cond (is_edge u v e) es (e ∷ without u v es)

unedge : (f : ℕ → ℕ → ℕ) (u v : ℕ) (e : ℕ × ℕ) → is_edge u v e ≡ true → f e.0 e.1 ≡ f u v
unedge f u v e h = let p = and_parts (e.0 == u) (e.1 == v) h in ap₂ f (eqb-true e.0 u p.0) (eqb-true e.1 v p.1)

taken : (f : ℕ → ℕ → ℕ) (u v : ℕ) (es : List (ℕ × ℕ)) → 0 < weigh (one_edge u v) es
    → weigh f es ≡ f u v + weigh f (without u v es)
unfolding without
taken f u v [] h = absurd (omega arith)
taken f u v (e ∷ es) h =
    elim (cases_Bool (is_edge u v e)) [
      | inl t ↦ omega (arith, unedge f u v e t, ap (weigh f) (cond-true (is_edge u v e) es (e ∷ without u v es) t))
      | inr t ↦ omega (
        arith,
        taken f u v es (omega (arith, cond-false {A = ℕ} (is_edge u v e) 1 0 t)),
        ap (weigh f) (cond-false (is_edge u v e) es (e ∷ without u v es) t),
      )
    ]

shorter : (u v : ℕ) (es : List (ℕ × ℕ)) → length (without u v es) ≤ length es
unfolding without
shorter u v [] = omega arith
shorter u v (e ∷ es) =
    elim (cases_Bool (is_edge u v e)) [
      | inl t ↦ omega (arith, ap length (cond-true (is_edge u v e) es (e ∷ without u v es) t))
      | inr t ↦ omega (arith, shorter u v es, ap length (cond-false (is_edge u v e) es (e ∷ without u v es) t))
    ]

-- the list has each edge as often as its reverse
abbrev IsEven : List (ℕ × ℕ) → Type 0
IsEven es = (u v : ℕ) → weigh (one_edge u v) es ≡ weigh (one_edge v u) es

one_self : (a b : ℕ) → one_edge a b a b ≡ 1
one_self a b = cond-true ((a == a) && (b == b)) 1 0 (and_from (a == a) (b == b) (eq-eqb a a refl) (eq-eqb b b refl))

one_other : (a b : ℕ) → (a ≡ b → ⊥) → one_edge b a a b ≡ 0
one_other a b ne = cond-false ((a == b) && (b == a)) 1 0 (and_left (a == b) (b == a) (ne_eqb a b ne))

even_by : (f : ℕ → ℕ → ℕ) (n : ℕ) (es : List (ℕ × ℕ)) → length es ≤ n → IsEven es → weigh f es ≡ weigh (back f) es
even_by f n [] le h = refl
even_by f zero (e ∷ es) le h = absurd (omega arith)
even_by f (suc n) (e ∷ es) le h =
    elim (cases_eq e.0 e.1) [
      | inl same ↦ (let rest : IsEven es =
          λ u v. omega (arith, h u v, one_back u v e.0 e.1, ap₂ (one_edge u v) same (sym same)) in
          omega (arith, even_by f n es (omega arith) rest, ap₂ f same (sym same)))
      | inr ne ↦ (let there : 0 < weigh (one_edge e.1 e.0) es =
          omega (arith, h e.0 e.1, one_self e.0 e.1, one_other e.0 e.1 ne) in
          let rest : IsEven (without e.1 e.0 es) =
          λ u v. omega (
            arith,
            h u v,
            taken (one_edge u v) e.1 e.0 es there,
            taken (one_edge v u) e.1 e.0 es there,
            one_back u v e.0 e.1,
            one_back u v e.1 e.0,
          ) in
          let small : length (without e.1 e.0 es) ≤ n = omega (arith, shorter e.1 e.0 es) in
          omega (
            arith,
            taken f e.1 e.0 es there,
            taken (back f) e.1 e.0 es there,
            even_by f n (without e.1 e.0 es) small rest,
          ))
    ]

pub closed_total : (triangles : List (List ℕ)) → IsClosed triangles → (f : ℕ → ℕ → ℕ)
    → total f triangles ≡ total (back f) triangles
closed_total ts h f =
    let es : List (ℕ × ℕ) = flat_map ring_edges ts in
    let even : IsEven es = λ u v. sym (count_weigh u v es) ∙ h u v ∙ count_weigh v u es in
    sym (total_edges f ts) ∙ even_by f (length es) es (omega arith) even ∙ total_edges (back f) ts
