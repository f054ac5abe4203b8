use Rattle.std.proofs.Common.{ap, arith, map, length, List}
use Rattle.section_pairs.specs.declared.gap_pairs.GapPair.{GapPair}
use Rattle.section_pairs.specs.Pairs.{pair_parts}
use Rattle.section_pairs.proofs.FoundLaws.{paired_or_found}
use Rattle.section_slices.specs.Densified.{dense_pairs}
use Rattle.section_slices.proofs.Densifying.{same_count, of_remade, told, is_densified, faultless, old_is, counted_is, counted_mid, no_mid}
use Rattle.fku_types.proofs.AnswerLaws.{err_is}
use Rattle.section_slices.specs.Faults.{IsDensifyMemory}
use Rattle.section_slices.proofs.Exact.{exact, early, late}
use Rattle.section_slices.proofs.sections.densify.Goals as goal

pub returns-in_err-made-clause-not_more : goal.returns-in_err-made-clause-not_more
returns-in_err-made-clause-not_more g c ps h =
    let S = c.args.sections.now in
    let read = ap (λ (xs : List GapPair). length (dense_pairs S (map pair_parts xs))) c.deref.ensures.value in
    omega (
      arith,
      c.solved_parts.ensures.not_more,
      read,
      same_count S (map pair_parts c.in_ok-found.found.items) ps c.in_ok-found.ensures.pairs h,
    )

pub returns-in_err-made-clause-uncounted : goal.returns-in_err-made-clause-uncounted
returns-in_err-made-clause-uncounted g c fault h =
    absurd (paired_or_found c.args.sections.now (map pair_parts c.in_ok-found.found.items) fault
    c.in_ok-found.ensures.pairs h)

pub returns-clause-densified : goal.returns-clause-densified
returns-clause-densified g c = is_densified c.args.sections.now c.in_ok-made.made.sections.items
    c.in_ok-made.made.links.items c.remade.result c.in_ok-made.ensures.densified c.remade.ensures.made

pub returns-clause-faultless : goal.returns-clause-faultless
returns-clause-faultless g c = faultless c.remade.result c.remade.ensures.pairs

pub returns-clause-old : goal.returns-clause-old
returns-clause-old g c = old_is c.args.sections.now c.in_ok-made.made.sections.items c.in_ok-made.made.links.items
    c.remade.result c.in_ok-made.ensures.old c.remade.ensures.made

pub returns-clause-counted : goal.returns-clause-counted
returns-clause-counted g c =
    let S = c.args.sections.now in
    let found = c.in_ok-found.found.items in
    let read = ap (λ (xs : List GapPair). length (dense_pairs S (map pair_parts xs))) c.deref.ensures.value in
    counted_is S (map pair_parts found) _ _ _ c.remade.result c.in_ok-found.ensures.pairs read
    c.in_ok-made.ensures.counted

pub returns-in_err-found-clause-counted_middle : goal.returns-in_err-found-clause-counted_middle
returns-in_err-found-clause-counted_middle g c =
    no_mid c.args.sections.now c.in_err-found.field-0.0 c.from_residual.result _ c.from_residual.ensures.1
    c.in_err-found.ensures.fault

pub returns-clause-counted_middle : goal.returns-clause-counted_middle
returns-clause-counted_middle g c =
    let S = c.args.sections.now in
    let found = c.in_ok-found.found.items in
    let read = ap (λ (xs : List GapPair). length (dense_pairs S (map pair_parts xs))) c.deref.ensures.value in
    counted_mid S (map pair_parts found) _ _ _ c.remade.result c.in_ok-found.ensures.pairs read
    c.in_ok-made.ensures.counted

pub returns-clause-not_more : goal.returns-clause-not_more
returns-clause-not_more g c ps h =
    let S = c.args.sections.now in
    let read = ap (λ (xs : List GapPair). length (dense_pairs S (map pair_parts xs))) c.deref.ensures.value in
    omega (
      arith,
      c.solved_parts.ensures.not_more,
      read,
      same_count S (map pair_parts c.in_ok-found.found.items) ps c.in_ok-found.ensures.pairs h,
    )

pub returns-clause-uncounted : goal.returns-clause-uncounted
returns-clause-uncounted g c fault h =
    absurd (paired_or_found c.args.sections.now (map pair_parts c.in_ok-found.found.items) fault
    c.in_ok-found.ensures.pairs h)

pub returns-clause-fault : goal.returns-clause-fault
returns-clause-fault g c = of_remade c.args.sections.now c.in_ok-made.made.sections.items c.in_ok-made.made.links.items
    c.remade.result c.in_ok-made.ensures.densified c.in_ok-made.ensures.flat c.remade.ensures.fault

pub returns-clause-told : goal.returns-clause-told
returns-clause-told g c = told c.args.sections.now c.remade.result (returns-clause-fault g c)

pub returns-in_err-found-clause-exact : goal.returns-in_err-found-clause-exact
returns-in_err-found-clause-exact g c fault h =
    early c.args.sections.now fault c.in_err-found.field-0.0 c.from_residual.result c.from_residual.ensures.1
    c.in_err-found.ensures.fault h

pub returns-clause-exact : goal.returns-clause-exact
returns-clause-exact g c fault h =
    exact c.args.sections.now fault c.remade.result (returns-clause-densified g c) c.remade.ensures.accepted
    c.remade.ensures.pairs (returns-clause-fault g c) h

pub returns-in_err-found-clause-memory : goal.returns-in_err-found-clause-memory
returns-in_err-found-clause-memory g c =
    err_is (IsDensifyMemory c.args.sections.now) c.from_residual.result c.in_err-found.field-0.0
    c.from_residual.ensures.1 c.in_err-found.ensures.memory

pub returns-in_err-made-clause-memory : goal.returns-in_err-made-clause-memory
returns-in_err-made-clause-memory g c =
    late c.args.sections.now (map pair_parts c.in_ok-found.found.items) c.from_residual-in_err-made.result
    c.in_ok-found.ensures.pairs

pub returns-clause-memory : goal.returns-clause-memory
returns-clause-memory g c = late c.args.sections.now (map pair_parts c.in_ok-found.found.items) c.remade.result
    c.in_ok-found.ensures.pairs
