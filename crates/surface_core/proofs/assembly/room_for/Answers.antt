use Rattle.section_pairs.proofs.SectionRings.{kept_outlines}
use Rattle.surface_core.proofs.assembly.room_for.Goals as goal

pub count_vertices-requires : goal.count_vertices-requires
count_vertices-requires c = (kept_outlines c.args.sections.now c.loop-section.section-index c.section-item.result
    c.requires c.loop-section-test.true c.section-item.is).few
