use Rattle.std.proofs.Common.{map}
use Rattle.section_core.specs.Flat.{section_data}
use Rattle.section_core.specs.ValidSections.{section_of}
use Rattle.section_pairs.proofs.SectionData.{tested}
use Rattle.section_pairs.proofs.faults.test_sections_after.Goals as goal

pub returns : goal.returns
returns c =
    tested c.test_all_apart.result (map section_data c.sections-sections.result.now)
    (map section_of c.args.sections.now.sections) c.sections-sections.ensures.«data» c.in_ok-test_all_simple.ensures
    c.test_all_apart.ensures
