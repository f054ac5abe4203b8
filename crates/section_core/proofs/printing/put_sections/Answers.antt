use Rattle.section_core.specs.Canonical.{text_of_section}
use Rattle.fku_types.proofs.LoopSteps.{put_next, put_all}
use Rattle.section_core.proofs.printing.put_sections.Goals as goal

pub loop-section-preserved : goal.loop-section-preserved
loop-section-preserved c = put_next text_of_section c.args.sections.now c.loop-section.section-index
    c.section-item.result _ _ _ c.loop-section-test.true c.section-item.is c.loop-section.invariant
    c.in_ok-put_section.ensures

pub returns : goal.returns
returns c = put_all text_of_section c.args.sections.now c.loop-section.section-index _ _ c.loop-section-test.false
    c.loop-section.invariant
