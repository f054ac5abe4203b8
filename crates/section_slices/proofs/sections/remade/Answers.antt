use Rattle.std.proofs.Common.{sym, subst}
use Rattle.std.specs.Prelude.{IfErr}
use Rattle.fku_types.specs.declared.rules.PairRule.TheVariants.{Links}
use Rattle.section_core.specs.Costs.{cost_parts}
use Rattle.section_core.specs.Parts.{CostParts}
use Rattle.section_slices.specs.Faults.{IsRemakeFault, middle_fault}
use Rattle.section_slices.proofs.Told.{of_make, retold}
use Rattle.section_slices.proofs.sections.remade.Goals as goal

pub returns-in-Ok-clause-fault : goal.returns-in-Ok-clause-fault
returns-in-Ok-clause-fault c =
    let sections = c.args.sections.items in
    let links = c.args.links.items in
    subst (λ (k : CostParts). IfErr c.tested.result (IsRemakeFault k Links sections links)) c.cost.ensures.parts
    (retold c.in-Ok.made (cost_parts c.cost.result) Links sections links c.tested.result c.in-Ok.ensures.made
    c.in-Ok.ensures.accepted.0 c.tested.ensures.fault)

pub returns-in-Err-clause-fault : goal.returns-in-Err-clause-fault
returns-in-Err-clause-fault c =
    let sections = c.args.sections.items in
    let links = c.args.links.items in
    subst (IsRemakeFault c.args.old.now.cost Links sections links) (sym c.middle_fault.ensures)
    (subst (λ (k : CostParts). IsRemakeFault k Links sections links (middle_fault c.in-Err.fault)) c.cost.ensures.parts
    (of_make (cost_parts c.cost.result) Links sections links c.in-Err.fault c.in-Err.ensures.fault))
