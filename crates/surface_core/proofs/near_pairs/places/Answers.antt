use Rattle.std.proofs.Common.{inl, inr, arith}
use Rattle.std.proofs.lemmas.Bool.{cases_lt}
use Rattle.section_pairs.proofs.SectionData.{item_at}
use Rattle.surface_core.proofs.near_pairs.places.Goals as goal

pub returns-clause-order : goal.returns-clause-order
returns-clause-order c =
    let begin = c.pairs_below in
    let end = c.pairs_below-2 in
    elim (cases_lt end.result begin.result) [
      | inl l ↦
          let p = (item_at c.args.pairs.now end.result (omega (arith, l, begin.ensures.within))).0 in
          absurd (omega (
            arith,
            begin.ensures.below end.result p l,
            end.ensures.others end.result p (omega arith) (omega (arith, l, begin.ensures.within)),
            c.requires.order,
          ))
      | inr l ↦ l
    ]
