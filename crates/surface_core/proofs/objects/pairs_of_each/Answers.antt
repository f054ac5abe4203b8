use Rattle.std.proofs.Common.{◌≡◌, ◌∷◌, [], ◌++◌, List, map, ap, sym, ◌∙◌, subst, All, Err, Vec}
use Rattle.std.specs.Global.{Global}
use Rattle.std.proofs.lemmas.Result.{err_from_is_err_and}
use Rattle.std.proofs.lemmas.List.Elements.{All-append}
use Rattle.fku_types.specs.declared.fault.Fault.{Fault}
use Rattle.section_core.specs.declared.objects.Object.{Object}
use Rattle.strip_graph.specs.Strips.{IsStrip}
use Rattle.section_pairs.specs.declared.gap_pairs.GapPair.{GapPair}
use Rattle.section_pairs.specs.Pairs.{pair_parts}
use Rattle.section_pairs.specs.SectionFaults.{OrNoMemory, ArePairs}
use Rattle.surface_core.specs.Objects.{sections_in, pair_lists, LieInGaps, IsFoundAmong, IsLateAmong}
use Rattle.section_pairs.proofs.Firsts.{all_one}
use Rattle.section_pairs.proofs.FoundCases.{always}
use Rattle.section_pairs.proofs.Sides.{err_told}
use Rattle.surface_core.proofs.ObjectSteps.{zip_more, lie_in_gaps, object_fault, object_late}
use Rattle.surface_core.proofs.objects.pairs_of_each.Goals as goal

pub returns-in_err-found-clause-fault : goal.returns-in_err-found-clause-fault
returns-in_err-found-clause-fault g c =
    let items = c.args.items.now in
    let fault = c.in_err-found.field-0.0 in
    let exit = err_from_is_err_and c.from_residual.result c.from_residual.ensures.1 in
    err_told c.from_residual.result fault (OrNoMemory (IsFoundAmong (sections_in items)))
    (exit.1 ∙ ap (λ (e : Fault). Err e) exit.2)
    (object_fault items c.loop-object.object-index c.object-item.result (pair_lists c.loop-object.lists.items) fault
    c.loop-object-test.true c.object-item.is c.loop-object.invariant.pairs c.in_err-found.ensures.fault)

pub returns-in_err-found-clause-memory : goal.returns-in_err-found-clause-memory
returns-in_err-found-clause-memory g c =
    let items = c.args.items.now in
    let fault = c.in_err-found.field-0.0 in
    let exit = err_from_is_err_and c.from_residual.result c.from_residual.ensures.1 in
    err_told c.from_residual.result fault (IsLateAmong (sections_in items)) (exit.1 ∙ ap (λ (e : Fault). Err e) exit.2)
    (object_late items c.loop-object.object-index c.object-item.result (pair_lists c.loop-object.lists.items) fault
    c.loop-object-test.true c.object-item.is c.loop-object.invariant.pairs c.in_err-found.ensures.memory)

pub returns-in_err-add_list-clause-memory : goal.returns-in_err-add_list-clause-memory
returns-in_err-add_list-clause-memory g c =
    let items = c.args.items.now in
    always c.from_residual-in_err-add_list.result (IsLateAmong (sections_in items))
    (λ fault. object_late items c.loop-object.object-index c.object-item.result
    (pair_lists c.loop-object.lists.items) fault c.loop-object-test.true c.object-item.is
    c.loop-object.invariant.pairs (λ e. c.in_ok-found.ensures.pairs.linked.sound))

pub loop-object-preserved : goal.loop-object-preserved
loop-object-preserved g c =
    let items = c.args.items.now in
    let i = c.loop-object.object-index in
    let o = c.object-item.result in
    let inv = c.loop-object.invariant in
    let old = c.loop-object.lists.items in
    let found = c.in_ok-found.found in
    let new = c.add_list.new.lists.items in
    let held : Vec GapPair Global → List _ = λ v. map pair_parts v.items in
    let sections : Object → _ = λ x. x.sections in
    let strips : Vec GapPair Global → Type 0 = λ v. All (λ p. IsStrip p.pair) v.items in
    let n : new ≡ old ++ found ∷ [] = c.in_ok-add_list.ensures in
    record {
      pairs = zip_more sections held ArePairs items i o old new found c.loop-object-test.true c.object-item.is n
          inv.pairs c.in_ok-found.ensures.pairs;
      strips = subst (λ (vs : List (Vec GapPair Global)). All strips vs) (sym n)
          (All-append strips old (found ∷ []) inv.strips (all_one strips found c.in_ok-found.ensures.strips));
      gaps = zip_more sections held LieInGaps items i o old new found c.loop-object-test.true c.object-item.is n
          inv.gaps (lie_in_gaps o.sections found.items c.in_ok-found.ensures.gaps);
    }
