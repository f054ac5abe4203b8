use Rattle.std.proofs.Common.{inr, refl, arith, drop, ◌+◌}
use Rattle.text_io.specs.Text.{kept_from, kept_lines, lines}
use Rattle.section_core.specs.Reading.{HasFileFault}
use Rattle.section_core.specs.declared.parts.Version.TheVariants.{Two}
use Rattle.command_replies.specs.Stages.{AreSeveral, IsFront, IsOnly}
use Rattle.surface_commands.specs.Edit.{edit, edit_sections}
use Rattle.command_replies.proofs.ReplyLemmas.{failed, went_on}
use Rattle.command_replies.proofs.TailLemmas.{front_fault, with_front}
use Rattle.fku_types.proofs.AnswerLaws.{err_is}
use Rattle.section_text.specs.Fronts.{IsReadMemory}
use Rattle.command_replies.proofs.FourFirst.{at_front}
use Rattle.surface_commands.proofs.editing.edits.Goals as goal

pub returns-in_err-front-clause-reply : goal.returns-in_err-front-clause-reply
returns-in_err-front-clause-reply g c =
    let bytes = c.args.input.now in
    let n = g.P.PairSolver.solved_pairs c.args.solver.now in
    let fault = c.in_err-front.field-0.0 in
    failed (HasFileFault Two (kept_lines bytes)) (IsFront bytes) (λ f. edit g.W.SurfaceWriter.format f.0 f.1) n n
    c.from_residual.result fault c.from_residual.ensures.1 (front_fault bytes fault c.in_err-front.ensures.fault)
    (inr refl) (omega arith)

pub returns-in_err-sections-clause-reply : goal.returns-in_err-sections-clause-reply
returns-in_err-sections-clause-reply g c =
    let bytes = c.args.input.now in
    let f = c.in_ok-front.front in
    let tail = kept_from (f.lines + 1) (lines (drop f.used bytes)) in
    let n = g.P.PairSolver.solved_pairs c.args.solver.now in
    let out = c.from_residual-in_err-sections in
    with_front (edit g.W.SurfaceWriter.format) bytes n n out.result f c.in_ok-front.ensures.found
    (failed (AreSeveral f.objects) (IsOnly f.objects) (edit_sections g.W.SurfaceWriter.format tail) n n out.result
    c.in_err-sections.field-0.0 out.ensures.1 c.in_err-sections.ensures.fault (inr refl) (omega arith))

pub returns-clause-reply : goal.returns-clause-reply
returns-clause-reply g c =
    let bytes = c.args.input.now in
    let f = c.in_ok-front.front in
    let tail = kept_from (f.lines + 1) (lines (drop f.used bytes)) in
    let before = g.P.PairSolver.solved_pairs c.args.solver.now in
    let after = g.P.PairSolver.solved_pairs c.edit_sections.new.solver in
    with_front (edit g.W.SurfaceWriter.format) bytes before after c.edit_sections.result f c.in_ok-front.ensures.found
    (went_on (AreSeveral f.objects) (IsOnly f.objects) (edit_sections g.W.SurfaceWriter.format tail) before after
    c.edit_sections.result c.in_ok-sections.sections c.in_ok-sections.ensures.only c.edit_sections.ensures.reply)

pub returns-in_err-front-clause-memory : goal.returns-in_err-front-clause-memory
returns-in_err-front-clause-memory g c =
    err_is (IsReadMemory Two c.args.input.now) c.from_residual.result c.in_err-front.field-0.0 c.from_residual.ensures.1
    c.in_err-front.ensures.memory

pub returns-in_err-sections-clause-memory : goal.returns-in_err-sections-clause-memory
returns-in_err-sections-clause-memory g c =
    at_front c.args.input.now c.in_ok-front.front c.from_residual-in_err-sections.result c.in_ok-front.ensures.found

pub returns-clause-memory : goal.returns-clause-memory
returns-clause-memory g c = at_front c.args.input.now c.in_ok-front.front c.edit_sections.result
    c.in_ok-front.ensures.found
