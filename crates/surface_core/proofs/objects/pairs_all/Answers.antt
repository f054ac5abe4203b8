use Rattle.std.proofs.Common.{◌≤◌, List, length, subst, IfOk, IfErr}
use Rattle.std.specs.List.{AllZip}
use Rattle.fku_types.specs.declared.limits.TheConstants.{MAX_PAIRS}
use Rattle.section_core.specs.Parts.{Parts}
use Rattle.section_pairs.specs.SectionFaults.{ArePairs, OrNoMemory}
use Rattle.surface_core.specs.Objects.{AreAllPairs, pair_lists, LieInGaps, numbered, IsFoundAmong, IsLateAmong}
use Rattle.surface_core.proofs.ObjectFacts.{objects_are, few_pairs_in}
use Rattle.fku_types.proofs.AnswerLaws.{ok_then}
use Rattle.surface_core.proofs.objects.pairs_all.Goals as goal

pub returns-clause-pairs : goal.returns-clause-pairs
returns-clause-pairs g c = subst (λ (objects : List Parts).
    IfOk c.pairs_of_each.result (λ v. AllZip ArePairs objects (pair_lists v.items)))
    (objects_are c.args.objects.now c.items.result.now c.items.ensures.parts c.items.ensures.under)
    c.pairs_of_each.ensures.pairs

pub returns-clause-gaps : goal.returns-clause-gaps
returns-clause-gaps g c = subst (λ (objects : List Parts).
    IfOk c.pairs_of_each.result (λ v. AllZip LieInGaps objects (pair_lists v.items)))
    (objects_are c.args.objects.now c.items.result.now c.items.ensures.parts c.items.ensures.under)
    c.pairs_of_each.ensures.gaps

pub returns-clause-few : goal.returns-clause-few
returns-clause-few g c =
    let F = c.args.objects.now in
    let pairs = returns-clause-pairs g c in
    ok_then c.pairs_of_each.result (λ v. AreAllPairs F (pair_lists v.items)) (λ v. AreAllPairs F (pair_lists v.items))
    (λ v. length (numbered (pair_lists v.items)) ≤ MAX_PAIRS) pairs pairs
    (λ v h k. few_pairs_in F (pair_lists v.items) c.items.ensures.accepted h)

pub returns-clause-fault : goal.returns-clause-fault
returns-clause-fault g c = subst (λ (objects : List Parts).
    IfErr c.pairs_of_each.result (OrNoMemory (IsFoundAmong objects)))
    (objects_are c.args.objects.now c.items.result.now c.items.ensures.parts c.items.ensures.under)
    c.pairs_of_each.ensures.fault

pub returns-clause-memory : goal.returns-clause-memory
returns-clause-memory g c = subst (λ (objects : List Parts). IfErr c.pairs_of_each.result (IsLateAmong objects))
    (objects_are c.args.objects.now c.items.result.now c.items.ensures.parts c.items.ensures.under)
    c.pairs_of_each.ensures.memory
