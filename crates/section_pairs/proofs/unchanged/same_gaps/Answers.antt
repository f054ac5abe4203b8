use Rattle.std.proofs.Common.{◌≡◌, ◌++◌, ◌∷◌, [], ℕ, ◌+◌, List, Bool, true, false, get_or, length, ap, ◌∙◌, sym, subst, arith}
use Rattle.std.proofs.lemmas.Bool.{false≢true}
use Rattle.std.proofs.lemmas.List.{length-append, length-map}
use Rattle.section_core.specs.Flat.{section_data}
use Rattle.section_core.specs.ValidSections.{section_of}
use Rattle.section_pairs.specs.Unchanged.{IsSameGap, HasSameSections}
use Rattle.section_pairs.proofs.Moved.{gap_data, gap_same, marks_all, marks_more}
use Rattle.section_pairs.proofs.unchanged.same_gaps.Goals as goal

pub loop-gap-preserved : goal.loop-gap-preserved
loop-gap-preserved c =
    let S = c.args.old.now in
    let T = c.args.sections.now in
    let g = c.loop-gap.gap in
    let inv = c.loop-gap.invariant in
    let old = c.loop-gap.marks.items in
    let new = c.push.new.self.items in
    let mark = c.are_marked.result in
    let more : new ≡ old ++ mark ∷ [] = c.in_ok-push.ensures.items in
    let held : (k : ℕ) → get_or c.deref.result.now k false ≡ get_or c.in_ok-same.same.items k false =
    λ k. ap (λ (bs : List Bool). get_or bs k false) c.deref.ensures.value in
    let rules = c.are_same_rules.ensures in
    let yes = c.if-not-are_same_rules.false in
    let here : mark ≡ true → IsSameGap S T g = λ t.
    gap_same S T c.sections.result.now c.sections-2.result.now g c.sections.ensures.«data» c.sections-2.ensures.«data»
    (rules.cost yes) (rules.rule yes) (rules.links yes)
    (c.in_ok-same.ensures.same g (sym (held g) ∙ c.are_marked.ensures.first t))
    (c.in_ok-same.ensures.same (g + 1) (sym (held (g + 1)) ∙ c.are_marked.ensures.second t)) in
    let P : ℕ → Type 0 = λ k. IsSameGap S T k × HasSameSections S T k in
    let back : P g → mark ≡ true = λ p.
    (let both = gap_data S T c.sections.result.now c.sections-2.result.now g c.sections.ensures.«data»
    c.sections-2.ensures.«data» p.0 p.1 in
    c.are_marked.ensures.both (held g ∙ c.in_ok-same.ensures.all g both.0)
    (held (g + 1) ∙ c.in_ok-same.ensures.all (g + 1) both.1)) in
    let back_there : P (length old) → mark ≡ true = subst (λ (k : ℕ). P k → mark ≡ true) (sym inv.count) back in
    record {
      count = omega (arith, ap length more, length-append old (mark ∷ []), inv.count);
      same = subst (λ (bs : List Bool). (k : ℕ) → get_or bs k false ≡ true → IsSameGap S T k) (sym more)
          (marks_more (λ (k : ℕ). IsSameGap S T k) old mark inv.same
          (subst (λ (k : ℕ). mark ≡ true → IsSameGap S T k) (sym inv.count) here));
      all = λ k below h w.
          subst (λ (bs : List Bool). get_or bs k false ≡ true) (sym more)
          (marks_all P old mark (λ j l p. inv.all j (omega (arith, l, inv.count)) p.0 p.1) back_there k
          (omega (arith, below, inv.count, length-append old (mark ∷ []))) (h, w));
    }

pub returns-then-not-are_same_rules-clause-all : goal.returns-then-not-are_same_rules-clause-all
returns-then-not-are_same_rules-clause-all c k h w =
    absurd (false≢true (sym c.if-not-are_same_rules.true ∙ c.are_same_rules.ensures.all h.cost h.rule h.links))

pub returns-clause-all : goal.returns-clause-all
returns-clause-all c k h w =
    c.loop-gap.invariant.all k
    (omega (
      arith,
      w.there,
      c.loop-gap-test.false,
      c.len-gap-end.ensures,
      c.in_ok-same.ensures.count,
      ap length c.sections-2.ensures.«data»,
      length-map c.sections-2.result.now section_data,
      length-map c.args.sections.now.sections section_of,
    )) h w
