use Rattle.std.proofs.Common.{arith, refl, ◌+◌, ◌-◌}
use Rattle.strip_graph.specs.Strips.{rows}
use Rattle.row_paths.proofs.GapLaws.{part_within}
use Rattle.row_paths.proofs.TurnLaws.{between_rows}
use Rattle.row_paths.proofs.divisions.looked_at.Goals as goal

pub returns-clause-part : goal.returns-clause-part
returns-clause-part g c =
    part_within c.args.strip.now c.args.gap.now _ c.requires.gap refl refl (omega arith)
    (omega (arith, c.left_out-skipped.ensures)) (omega arith)

pub returns-clause-places : goal.returns-clause-places
returns-clause-places g c =
    between_rows (rows c.args.strip.now) c.args.gap.now.first (c.args.gap.now.first + c.left_out-skipped.result)
    (c.args.gap.now.last - c.left_out-skipped.result) c.args.gap.now.last c.args.gap.now.lo.now
    c.args.gap.now.hi.now (omega arith) (omega (arith, c.left_out-skipped.ensures)) (omega arith)
