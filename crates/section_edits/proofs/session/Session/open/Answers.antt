use Rattle.std.proofs.Common.{◌≡◌, [], List, length, map, refl, subst, ap, ◌∙◌, arith}
use Rattle.std.proofs.lemmas.List.{length-map}
use Rattle.fku_types.specs.declared.fault.Fault.{Fault}
use Rattle.fku_types.specs.declared.fault.Fault.TheVariants.{NoMemory}
use Rattle.fku_types.proofs.AnswerLaws.{err_is}
use Rattle.section_pairs.specs.declared.gap_pairs.GapPair.{GapPair}
use Rattle.section_pairs.specs.Pairs.{PairParts, pair_parts}
use Rattle.strip_graph.specs.Strips.{Strip}
use Rattle.pair_pool.specs.Solvers.{SolvesEach, referents, raised_by}
use Rattle.pair_pool.proofs.Referents.{count_referents}
use Rattle.surface_core.specs.Surfaces.{strips_in}
use Rattle.section_edits.specs.Sessions.{FaultCount}
use Rattle.section_edits.proofs.Counting.{counted_first}
use Rattle.section_edits.proofs.session.Session.open.Goals as goal
use Rattle.section_edits.proofs.session.Session.open.Given as given
use Rattle.section_edits.proofs.session.Session.open.Goals.{After-solve_each}

-- the strips of the pairs were solved
strips : (g : given.Over) (c : After-solve_each g)
    → referents c.deref-2.result.now ≡ strips_in (map pair_parts c.in_ok-pairs.pairs.items)
strips g c = ap referents c.deref-2.ensures.value ∙ c.in_ok-strips.ensures
    ∙ ap (λ (l : List GapPair). strips_in (map pair_parts l)) c.deref.ensures.value

count : (g : given.Over) (c : After-solve_each g)
    → length c.deref-2.result.now ≡ length (map pair_parts c.in_ok-pairs.pairs.items)
count g c =
    let ps = map pair_parts c.in_ok-pairs.pairs.items in
    count_referents c.deref-2.result.now (strips_in ps) (strips g c) ∙ length-map ps (λ (p : PairParts). p.strip)

pub returns-in_err-solved-clause-fault_count : goal.returns-in_err-solved-clause-fault_count
returns-in_err-solved-clause-fault_count g c =
    let old = g.P.PairSolver.solved_pairs c.args.solver.now in
    let new = g.P.PairSolver.solved_pairs c.solve_each.new.self in
    let same = count g (goal.at.returns-in_err-solved-clause-fault_count g c).After-solve_each in
    err_is (λ (f : Fault). FaultCount c.args.sections [] old new (f ≡ NoMemory)) c.from_residual-in_err-solved.result
    NoMemory c.from_residual-in_err-solved.ensures.1
    (counted_first c.args.sections (map pair_parts c.in_ok-pairs.pairs.items) old new (NoMemory ≡ NoMemory)
    c.in_ok-pairs.ensures.pairs c.solve_each.ensures.not_less (omega (arith, c.solve_each.ensures.not_more, same)) refl)

pub invariant_of-result : goal.invariant_of-result
invariant_of-result g c =
    let at = (goal.at.invariant_of-result g c).After-solve_each in
    record {
      pairs = c.in_ok-pairs.ensures.pairs;
      solved = subst (λ (ss : List Strip). SolvesEach ss c.in_ok-solved.solved.items) (strips g at)
          c.in_ok-solved.ensures.solved;
      few = omega (arith, c.in_ok-pairs.ensures.few, length-map c.in_ok-pairs.pairs.items pair_parts);
    }

pub returns-clause-solved : goal.returns-clause-solved
returns-clause-solved g c = invariant_of-result g c

pub returns-clause-counted : goal.returns-clause-counted
returns-clause-counted g c =
    c.in_ok-solved.ensures.counted
    ∙ ap (λ n. raised_by n (g.P.PairSolver.solved_pairs c.args.solver.now))
    (count g (goal.at.returns-clause-counted g c).After-solve_each)
