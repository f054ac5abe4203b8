use Rattle.std.proofs.Common.{Err, subst}
use Rattle.section_slices.specs.declared.sections.DensifyFault.{DensifyFault}
use Rattle.command_replies.specs.Stages.{on_objects}
use Rattle.surface_commands.specs.Densify.{Densified, densify}
use Rattle.surface_commands.proofs.DensifyLemmas.{found_written, middle_written}
use Rattle.surface_commands.proofs.densifying.densified.Goals as goal

pub returns-in-Err-Found-clause-written : goal.returns-in-Err-Found-clause-written
returns-in-Err-Found-clause-written g c =
    let rule = on_objects densify c.args.input.now in
    let before = g.P.PairSolver.solved_pairs c.args.solver.now in
    let after = g.P.PairSolver.solved_pairs c.densified_text.new.solver in
    let found = c.in-Err-Found in
    found_written rule before after found.fault c.refused.result
    (subst (λ (f : DensifyFault). Densified rule before after (Err f)) found.field-0-is found.ensures.reply)
    c.refused.ensures.written

pub returns-in-Err-Mid-clause-written : goal.returns-in-Err-Mid-clause-written
returns-in-Err-Mid-clause-written g c =
    let rule = on_objects densify c.args.input.now in
    let before = g.P.PairSolver.solved_pairs c.args.solver.now in
    let after = g.P.PairSolver.solved_pairs c.densified_text.new.solver in
    let mid = c.in-Err-Mid in
    middle_written rule before after mid.fault c.refused_middle.result
    (subst (λ (f : DensifyFault). Densified rule before after (Err f)) mid.field-0-is mid.ensures.reply)
    c.refused_middle.ensures.status c.refused_middle.ensures.text
