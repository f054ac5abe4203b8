use Rattle.std.proofs.Common.{sym, ap, length, arith}
use Rattle.std.proofs.lemmas.List.{length-map}
use Rattle.section_core.specs.Views.{section_parts}
use Rattle.section_slices.proofs.DenseGaps.{not_above}
use Rattle.section_slices.proofs.gaps.is_dense.Goals as goal

pub returns-then-sections-gap : goal.returns-then-sections-gap
returns-then-sections-gap c =
    sym (not_above c.args.sections.now c.args.gap c.args.pairs.now c.requires.gaps
    (omega (
      arith,
      c.if-sections-gap.true,
      ap length c.sections.ensures.parts,
      length-map c.sections.result.now section_parts,
    )))
