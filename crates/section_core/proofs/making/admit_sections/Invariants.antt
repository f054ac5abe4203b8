use Rattle.std.proofs.Common.{take, drop}
use Rattle.std.specs.List.{flat_map, AllByRecursion}
use Rattle.section_core.specs.Made.{section_pieces, AreNamed}
use Rattle.section_core.proofs.Walking.{Goes}
use Rattle.section_core.proofs.making.admit_sections.Given as goal

abbrev pub invariant-loop-section : goal.invariant-loop-section
invariant-loop-section l = record {
  goes : Goes l.fn.tally (flat_map section_pieces l.sections) l.tally
      (flat_map section_pieces (drop l.section-index l.sections));
  named : AllByRecursion AreNamed (take l.section-index l.sections);
}
