use Rattle.std.proofs.Common.{◌≡◌, ℕ, ◌+◌, ◌≤◌, List, length, map, refl, ap, ◌∙◌, arith, subst}
use Rattle.std.specs.Prelude.{None}
use Rattle.std.proofs.lemmas.List.{length-map}
use Rattle.fku_types.proofs.AnswerLaws.{err_is}
use Rattle.section_core.specs.Parts.{Parts}
use Rattle.section_pairs.specs.declared.gap_pairs.GapPair.{GapPair}
use Rattle.section_pairs.specs.Pairs.{PairParts, pair_parts}
use Rattle.section_pairs.specs.SectionFaults.{ArePairs}
use Rattle.surface_core.specs.Surfaces.{strips_in}
use Rattle.pair_pool.specs.Solvers.{SolvesEach}
use Rattle.section_edits.specs.declared.edit.EditFault.{EditFault}
use Rattle.section_edits.specs.declared.edit.EditFault.TheVariants.{NoMemory}
use Rattle.section_edits.specs.Changes.{changed}
use Rattle.section_edits.specs.Edits.{IsEdited, IsApplyFault}
use Rattle.section_edits.specs.Refusals.{IsRefusal, IsEditMemory}
use Rattle.section_edits.specs.Sessions.{Held, FaultCount}
use Rattle.section_edits.specs.Fresh.{fresh}
use Rattle.section_edits.proofs.ApplyFaults.{told_refused, told_found, after_own}
use Rattle.section_edits.proofs.Counting.{counted_some}
use Rattle.section_edits.proofs.session.Session.next.Goals as goal

pub returns-in_err-sections-clause-fault : goal.returns-in_err-sections-clause-fault
returns-in_err-sections-clause-fault g c =
    let S = c.self.inside.sections in
    let e = c.args.edit.now in
    let fault = c.in_err-sections.field-0.0 in
    let same : S ≡ c.args.self.now.sections = ap (λ (k : Held). k.sections) c.self.view_is in
    err_is (IsApplyFault c.args.self.now.sections e) c.from_residual.result fault c.from_residual.ensures.1
    (subst (λ (T : Parts). IsApplyFault T e fault) same
    (told_refused S e fault (λ s. s ≡ changed S e) c.in_err-sections.ensures.answers))

pub returns-in_err-pairs-clause-fault : goal.returns-in_err-pairs-clause-fault
returns-in_err-pairs-clause-fault g c =
    let S = c.self.inside.sections in
    let e = c.args.edit.now in
    let T = c.in_ok-sections.sections in
    let fault = c.in_err-pairs.field-0.0 in
    let made = c.in_ok-sections.ensures.answers in
    let same : S ≡ c.args.self.now.sections = ap (λ (k : Held). k.sections) c.self.view_is in
    err_is (IsApplyFault c.args.self.now.sections e) c.from_residual-in_err-pairs.result fault
    c.from_residual-in_err-pairs.ensures.1
    (subst (λ (U : Parts). IsApplyFault U e fault) same
    (told_found S e T fault made.0 made.1 c.in_err-pairs.ensures.fault))

pub returns-in_err-resolved-clause-fault_count : goal.returns-in_err-resolved-clause-fault_count
returns-in_err-resolved-clause-fault_count g c =
    let S = c.self.inside.sections in
    let e = c.args.edit.now in
    let before = c.self.inside.pairs.items in
    let after = c.in_ok-pairs.pairs.items in
    let held : c.deref-2.result.now ≡ before = c.deref-2.ensures.value in
    let found : c.deref-4.result.now ≡ after = c.deref-4.ensures.value in
    let same : map pair_parts before ≡ c.args.self.now.pairs = ap (λ (k : Held). k.pairs) c.self.view_is in
    let kept : S ≡ c.args.self.now.sections = ap (λ (k : Held). k.sections) c.self.view_is in
    let made = c.in_ok-sections.ensures.answers in
    let old = g.P.PairSolver.solved_pairs c.args.solver.now in
    let new = g.P.PairSolver.solved_pairs c.resolve.new.solver in
    let number : fresh (strips_in (map pair_parts c.deref-2.result.now))
    (strips_in (map pair_parts c.deref-4.result.now))
    ≡ fresh (strips_in c.args.self.now.pairs) (strips_in (map pair_parts after)) =
    ap (λ (l : List GapPair). fresh (strips_in (map pair_parts l)) (strips_in (map pair_parts c.deref-4.result.now)))
    held
    ∙ ap (λ (l : List GapPair). fresh (strips_in (map pair_parts before)) (strips_in (map pair_parts l))) found
    ∙ ap (λ (l : List PairParts). fresh (strips_in l) (strips_in (map pair_parts after))) same in
    err_is (λ (f : EditFault). FaultCount (changed c.args.self.now.sections e) c.args.self.now.pairs old new
    (f ≡ NoMemory)) c.from_residual-in_err-resolved.result NoMemory c.from_residual-in_err-resolved.ensures.1
    (counted_some (changed c.args.self.now.sections e) c.args.self.now.pairs (map pair_parts after) old new
    (NoMemory ≡ NoMemory)
    (subst (λ (U : Parts). ArePairs (changed U e) (map pair_parts after)) kept
    (subst (λ (U : Parts). ArePairs U (map pair_parts after)) made.1 c.in_ok-pairs.ensures.pairs))
    c.resolve.ensures.not_less (subst (λ (n : ℕ). new ≤ old + n) number c.resolve.ensures.not_more) refl)

pub returns-in_err-sections-clause-memory : goal.returns-in_err-sections-clause-memory
returns-in_err-sections-clause-memory g c =
    let S = c.self.inside.sections in
    let e = c.args.edit.now in
    let fault = c.in_err-sections.field-0.0 in
    let same : S ≡ c.args.self.now.sections = ap (λ (k : Held). k.sections) c.self.view_is in
    err_is (IsEditMemory c.args.self.now.sections e) c.from_residual.result fault c.from_residual.ensures.1
    (subst (λ (T : Parts). IsEditMemory T e fault) same c.in_err-sections.ensures.memory)

pub returns-in_err-pairs-clause-memory : goal.returns-in_err-pairs-clause-memory
returns-in_err-pairs-clause-memory g c =
    let S = c.self.inside.sections in
    let e = c.args.edit.now in
    let made = c.in_ok-sections.ensures.answers in
    let same : S ≡ c.args.self.now.sections = ap (λ (k : Held). k.sections) c.self.view_is in
    after_own c.from_residual-in_err-pairs.result c.args.self.now.sections e
    (subst (λ (T : Parts). IsRefusal T e None) same made.0)

pub returns-in_err-resolved-clause-memory : goal.returns-in_err-resolved-clause-memory
returns-in_err-resolved-clause-memory g c =
    let S = c.self.inside.sections in
    let e = c.args.edit.now in
    let made = c.in_ok-sections.ensures.answers in
    let same : S ≡ c.args.self.now.sections = ap (λ (k : Held). k.sections) c.self.view_is in
    after_own c.from_residual-in_err-resolved.result c.args.self.now.sections e
    (subst (λ (T : Parts). IsRefusal T e None) same made.0)

pub invariant_of-session : goal.invariant_of-session
invariant_of-session g c = record {
  pairs = c.in_ok-pairs.ensures.pairs;
  solved = subst (λ (l : List GapPair).
      SolvesEach (strips_in (map pair_parts l)) c.in_ok-resolved.resolved.solutions.items) c.deref-4.ensures.value
      c.in_ok-resolved.ensures.solved;
  few = omega (arith, length-map c.in_ok-pairs.pairs.items pair_parts, c.in_ok-pairs.ensures.few);
}

pub returns-clause-edited : goal.returns-clause-edited
returns-clause-edited g c =
    let S = c.self.inside.sections in
    let e = c.args.edit.now in
    let T = c.in_ok-sections.sections in
    let made = c.in_ok-sections.ensures.answers in
    let same : S ≡ c.args.self.now.sections = ap (λ (k : Held). k.sections) c.self.view_is in
    subst (λ (U : Parts). IsEdited U e T) same
    (record {
      not_refused = made.0;
      parts = made.1;
      whole =
          (map pair_parts c.in_ok-pairs.pairs.items, c.in_ok-pairs.ensures.pairs);
    })

pub returns-clause-solved : goal.returns-clause-solved
returns-clause-solved g c = record {
  pairs = c.in_ok-pairs.ensures.pairs;
  solved = subst (λ (l : List GapPair).
      SolvesEach (strips_in (map pair_parts l)) c.in_ok-resolved.resolved.solutions.items) c.deref-4.ensures.value
      c.in_ok-resolved.ensures.solved;
  few = omega (arith, length-map c.in_ok-pairs.pairs.items pair_parts, c.in_ok-pairs.ensures.few);
}

pub returns-clause-counts : goal.returns-clause-counts
returns-clause-counts g c =
    let before = c.self.inside.pairs.items in
    let after = c.in_ok-pairs.pairs.items in
    let n = c.in_ok-resolved.resolved.fresh in
    let held : c.deref-2.result.now ≡ before = c.deref-2.ensures.value in
    let found : c.deref-4.result.now ≡ after = c.deref-4.ensures.value in
    let same : map pair_parts before ≡ c.args.self.now.pairs = ap (λ (k : Held). k.pairs) c.self.view_is in
    let few : n ≤ length c.deref-4.result.now = c.in_ok-resolved.ensures.few in
    record {
      solved = c.in_ok-resolved.ensures.fresh
          ∙ ap (λ (l : List GapPair). fresh (strips_in (map pair_parts l))
          (strips_in (map pair_parts c.deref-4.result.now))) held
          ∙ ap (λ (l : List GapPair). fresh (strips_in (map pair_parts before)) (strips_in (map pair_parts l))) found
          ∙ ap (λ (l : List PairParts). fresh (strips_in l) (strips_in (map pair_parts after))) same;
      reused = omega (
        arith,
        few,
        c.len-count.ensures,
        c.deref-4.ensures.len,
        ap length found,
        length-map after pair_parts,
      );
    }
