use Rattle.section_core.specs.Flat.{section_data}
use Rattle.fku_types.proofs.LoopSteps.{copied_next, copied_all}
use Rattle.section_core.proofs.sections.copy_sections.Goals as goal

pub loop-section-preserved : goal.loop-section-preserved
loop-section-preserved c = copied_next section_data c.args.sections.now c.loop-section.section-index
    c.section-item.result c.in_ok-copy.field-0 _ _ c.loop-section-test.true c.section-item.is c.loop-section.invariant
    c.in_ok-copy.ensures.data c.in_ok-push.ensures.items

pub returns : goal.returns
returns c = copied_all section_data c.args.sections.now c.loop-section.section-index _ c.loop-section-test.false
    c.loop-section.invariant
