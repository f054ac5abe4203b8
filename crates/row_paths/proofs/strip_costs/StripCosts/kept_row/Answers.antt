use Rattle.std.proofs.Common.{List, rules, arith, ◌≡◌, ℕ, ◌+◌, ◌*◌, ◌<◌, ◌≤◌, length, mul-le-mul_right, map, option_map, inl, inr, refl, ap, sym, subst, ◌∙◌}
use Rattle.std.proofs.lemmas.List.{length-map}
use Rattle.strip_graph.specs.declared.tilings.Step.{Step}
use Rattle.strip_graph.specs.declared.tilings.Step.TheVariants.{V, H}
use Rattle.strip_graph.specs.Strips.{arcs, rows, cols}
use Rattle.strip_graph.specs.Layouts.{IsByPlace}
use Rattle.strip_graph.proofs.Around.{arcs-periodic}
use Rattle.row_paths.specs.StripCosts.{largest, AreFirstCosts, AreRights, AreRightsOf}
use Rattle.row_paths.proofs.StripCostLaws.{IsPart, row_part, not_both}
use Rattle.row_paths.proofs.strip_costs.StripCosts.kept_row.Goals as goal
use Rattle.row_paths.proofs.strip_costs.StripCosts.kept_row.Goals.{in-Some, in-None}

-- a row of a table of m rows of n numbers ends within the table
ends : {A : Type 0} (t r m w n : ℕ) (value : A → ℕ) (costs : List A) → t < r → r ≡ m → w ≡ n
    → length (map value costs) ≡ m * n → t * w + w ≤ length costs
ends t r m w n value costs lt e d count =
    let more : t + 1 ≤ m = omega (arith, e) in
    omega (arith, d, count, length-map costs value, ap (λ (k : ℕ). t * k) d, mul-le-mul_right n more)

pub offset_bounds-rights-turned : goal.offset_bounds-rights-turned
offset_bounds-rights-turned g c =
    let p = c.self.inside.layout.now in
    let all : AreRights (largest g.C.Sum.Amount.MOST p) p (map g.C.Cost.value c.in-Some.rights.now) =
    subst (λ o. AreRightsOf (largest g.C.Sum.Amount.MOST p) p (option_map (λ v. map g.C.Cost.value v.now) o))
    c.in-Some.is (c.self.invariant.kept c.requires.kept).by_h in
    omega (
      arith,
      ends _ _ _ _ _ g.C.Cost.value c.in-Some.rights.now c.in_first_round-turned.ensures.within
          c.rows-rows.ensures.value c.cols-width.ensures.value all.count,
    )

pub slice_bounds-rights-end : goal.slice_bounds-rights-end
slice_bounds-rights-end g c =
    let p = c.self.inside.layout.now in
    let all : AreRights (largest g.C.Sum.Amount.MOST p) p (map g.C.Cost.value c.in-Some.rights.now) =
    subst (λ o. AreRightsOf (largest g.C.Sum.Amount.MOST p) p (option_map (λ v. map g.C.Cost.value v.now) o))
    c.in-Some.is (c.self.invariant.kept c.requires.kept).by_h in
    omega (
      arith,
      ends _ _ _ _ _ g.C.Cost.value c.in-Some.rights.now c.in_first_round-turned.ensures.within
          c.rows-rows.ensures.value c.cols-width.ensures.value all.count,
    )

pub offset_bounds-self-inside-above : goal.offset_bounds-self-inside-above
offset_bounds-self-inside-above g c = omega (
  arith,
  ends _ _ _ _ _ g.C.Cost.value c.self.inside.downs.now c.row_before-above.ensures.within c.rows-rows.ensures.value
      (ap (λ (k : ℕ). k + 1) c.cols-width.ensures.value) (c.self.invariant.kept c.requires.kept).by_v.count,
)

pub slice_bounds-rights-end-in-None : goal.slice_bounds-rights-end-in-None
slice_bounds-rights-end-in-None g c = omega (
  arith,
  ends _ _ _ _ _ g.C.Cost.value c.self.inside.downs.now c.row_before-above.ensures.within c.rows-rows.ensures.value
      (ap (λ (k : ℕ). k + 1) c.cols-width.ensures.value) (c.self.invariant.kept c.requires.kept).by_v.count,
)

pub offset_bounds-self-inside-at : goal.offset_bounds-self-inside-at
offset_bounds-self-inside-at g c = omega (
  arith,
  ends _ _ _ _ _ g.C.Cost.value c.self.inside.downs.now c.in_first_round-turned.ensures.within c.rows-rows.ensures.value
      (ap (λ (k : ℕ). k + 1) c.cols-width.ensures.value) (c.self.invariant.kept c.requires.kept).by_v.count,
)

pub slice_bounds-result-end : goal.slice_bounds-result-end
slice_bounds-result-end g c = omega (
  arith,
  ends _ _ _ _ _ g.C.Cost.value c.self.inside.downs.now c.in_first_round-turned.ensures.within c.rows-rows.ensures.value
      (ap (λ (k : ℕ). k + 1) c.cols-width.ensures.value) (c.self.invariant.kept c.requires.kept).by_v.count,
)

pub invariant_of-result : goal.invariant_of-result
invariant_of-result g c =
    let known = c.self.invariant.kept c.requires.kept in
    let p = c.self.inside.layout.now in
    let b = largest g.C.Sum.Amount.MOST p in
    let value = g.C.Cost.value in
    let w = c.cols-width.result in
    let m : c.rows-rows.result ≡ rows p = search rules in
    let n : w ≡ cols p = search rules in
    let t = c.in_first_round-turned.result in
    let u = c.row_before-above.result in
    let below : t < rows p = omega (arith, c.in_first_round-turned.ensures.within, m) in
    let same : (k : ℕ) (s : Step) → arcs p c.args.row k s ≡ arcs p t k s =
    λ k s. elim c.in_first_round-turned.ensures.same [
      | inl e ↦ ap (λ (r : ℕ). arcs p r k s) e
      | inr e ↦ ap (λ (r : ℕ). arcs p r k s) (e ∙ ap (λ (r : ℕ). t + r) m) ∙ (arcs-periodic p).row t k s
    ] in
    let above : u < rows p = omega (arith, c.row_before-above.ensures.within, m) in
    let next : (k : ℕ) (s : Step) → arcs p (u + 1) k s ≡ arcs p t k s = λ k s. elim c.row_before-above.ensures.next [
      | inl e ↦ ap (λ (r : ℕ). arcs p r k s) e
      | inr e ↦ ap (λ (r : ℕ). arcs p r k s) (e ∙ ap (λ (r : ℕ). t + r) m) ∙ (arcs-periodic p).row t k s
    ] in
    let one : (k : ℕ) → 1 + k ≡ k + 1 = λ k. omega arith in
    let zero : (k : ℕ) → 0 + k ≡ k = λ k. omega arith in
    let downs = row_part value b (λ (r k : ℕ). arcs p r k V) (rows p) (w + 1) t 0 (w + 1) (t * (w + 1))
    (t * (w + 1) + (w + 1)) c.self.inside.downs.now below (omega arith) (omega arith) (omega arith)
    (known.by_v.count ∙ ap (λ (k : ℕ). rows p * (k + 1)) (sym n))
    (subst (λ (s : ℕ). AreFirstCosts b (λ (r k : ℕ). arcs p r k V) (s + 1) (map value c.self.inside.downs.now))
    (sym n) known.by_v.first) in
    let rights : IsPart value b (λ (k : ℕ). arcs p t k H) 0 w c.match-self.rights.now = elim c.match-self.branch [
      | in-Some z ↦ (let all : AreRights b p (map value z.in-Some.rights.now) =
          subst (λ o. AreRightsOf b p (option_map (λ v. map value v.now) o)) z.in-Some.is known.by_h in
          let part = row_part value b (λ (r k : ℕ). arcs p r k H) (rows p) w t 0 w (t * w) (t * w + w)
          z.in-Some.rights.now below (omega arith) refl (omega arith)
          (all.count ∙ ap (λ (k : ℕ). rows p * k) (sym n))
          (subst (λ (s : ℕ). AreFirstCosts b (λ (r k : ℕ). arcs p r k H) s (map value z.in-Some.rights.now)) (sym n)
          all.first) in
          subst (λ r. IsPart value b (λ (k : ℕ). arcs p t k H) 0 w r.now) (sym z.rights-is) part)
      | in-None z ↦ (let same-place : IsByPlace p =
          subst (λ o. AreRightsOf b p (option_map (λ v. map value v.now) o)) z.in-None.is known.by_h in
          let part = row_part value b (λ (r k : ℕ). arcs p r k V) (rows p) (w + 1) u 1 w (u * (w + 1) + 1)
          (u * (w + 1) + (w + 1)) c.self.inside.downs.now above refl refl (omega arith)
          (known.by_v.count ∙ ap (λ (k : ℕ). rows p * (k + 1)) (sym n))
          (subst (λ (s : ℕ). AreFirstCosts b (λ (r k : ℕ). arcs p r k V) (s + 1)
          (map value c.self.inside.downs.now)) (sym n) known.by_v.first) in
          subst (λ r. IsPart value b (λ (k : ℕ). arcs p t k H) 0 w r.now) (sym z.rights-is) (record {
            size = part.size;
            are = λ k lt. part.are k lt ∙ ap (λ (i : ℕ). arcs p u i V) (one k) ∙ same-place u k ∙ next k H
                ∙ ap (λ (i : ℕ). arcs p t i H) (sym (zero k));
            small = part.small;
          }))
    ] in
    record {
      fit = λ t. not_both g.C.Cost.IS_COMPUTED t c.requires.kept;
      computed_from = λ t. not_both g.C.Cost.IS_COMPUTED t c.requires.kept;
      kept = λ _. record {
        downs_count = omega (arith, downs.size, n);
        rights_count = omega (arith, rights.size, n);
        downs_are = λ k le. downs.are k (omega (arith, n)) ∙ ap (λ (i : ℕ). arcs p t i V) (zero k) ∙ sym (same k V);
        rights_are = λ k lt. rights.are k (omega (arith, n)) ∙ ap (λ (i : ℕ). arcs p t i H) (zero k) ∙ sym (same k H);
        downs_small = λ k le. downs.small k (omega (arith, n));
        rights_small = λ k lt. rights.small k (omega (arith, n));
      };
    }
