use Rattle.std.proofs.Common.{◌≡◌, ◌++◌, ◌∷◌, [], ℕ, List, Bool, true, false, map, get_or, length, ap, sym, subst, arith}
use Rattle.std.proofs.lemmas.List.{length-append, length-map}
use Rattle.section_core.specs.Flat.{section_data}
use Rattle.section_pairs.specs.Unchanged.{IsSameAt}
use Rattle.section_pairs.proofs.Moved.{marks_all, marks_more}
use Rattle.section_pairs.proofs.unchanged.same_sections.Goals as goal

pub loop-place-preserved : goal.loop-place-preserved
loop-place-preserved c =
    let inv = c.loop-place.invariant in
    let old = c.loop-place.marks.items in
    let mark = c.is_same_at.result in
    let more : c.push.new.self.items ≡ old ++ mark ∷ [] = c.in_ok-push.ensures.items in
    let P : ℕ → Type 0 = λ k. IsSameAt (map section_data c.args.old.now) (map section_data c.args.sections.now) k in
    record {
      count = omega (arith, ap length more, length-append old (mark ∷ []), inv.count);
      same = subst (λ (bs : List Bool). (k : ℕ) → get_or bs k false ≡ true → P k) (sym more)
          (marks_more P old mark inv.same
          (subst (λ (k : ℕ). mark ≡ true → P k) (sym inv.count) c.is_same_at.ensures.same));
      all = λ k below h. subst (λ (bs : List Bool). get_or bs k false ≡ true) (sym more)
          (marks_all P old mark (λ j l p. inv.all j (omega (arith, l, inv.count)) p)
          (subst (λ (k : ℕ). P k → mark ≡ true) (sym inv.count) c.is_same_at.ensures.all) k
          (omega (arith, below, inv.count, length-append old (mark ∷ []))) h);
    }

pub returns-clause-all : goal.returns-clause-all
returns-clause-all c k h =
    c.loop-place.invariant.all k
    (omega (arith, h.also_there, c.loop-place-test.false, length-map c.args.sections.now section_data)) h
