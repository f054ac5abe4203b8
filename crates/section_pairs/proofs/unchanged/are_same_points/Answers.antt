use Rattle.std.proofs.Common.{◌∙◌, sym}
use Rattle.section_pairs.proofs.Equals.{points_same, same_points}
use Rattle.section_pairs.proofs.unchanged.are_same_points.Goals as goal

pub returns-clause-same : goal.returns-clause-same
returns-clause-same c = λ e. points_same c.args.one.now c.args.other.now (sym c.eq.ensures ∙ e)

pub returns-clause-all : goal.returns-clause-all
returns-clause-all c = λ e. c.eq.ensures ∙ same_points c.args.one.now c.args.other.now e
