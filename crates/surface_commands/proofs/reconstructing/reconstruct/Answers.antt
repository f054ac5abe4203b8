use Rattle.std.proofs.Common.{rules}
use Rattle.triangle_meshes.specs.Meshes.{surface_of}
use Rattle.surface_core.specs.Objects.{IsFoundIn}
use Rattle.command_replies.specs.Reply.{Tells}
use Rattle.command_replies.specs.Stages.{IsSurfaceOf}
use Rattle.surface_commands.specs.Reconstruct.{reconstruct}
use Rattle.command_replies.proofs.ReplyLemmas.{failed, no_text, tells, went_on, with_text}
use Rattle.fku_types.proofs.AnswerLaws.{err_is}
use Rattle.section_core.specs.declared.parts.Version.TheVariants.{Two}
use Rattle.section_text.specs.Fronts.{IsReadMemory}
use Rattle.command_replies.proofs.FourFirst.{at_text}
use Rattle.surface_commands.proofs.reconstructing.reconstruct.Goals as goal

pub returns-in_err-objects-clause-reply : goal.returns-in_err-objects-clause-reply
returns-in_err-objects-clause-reply g c =
    no_text (reconstruct g.W.SurfaceWriter.format) c.args.input.now (g.P.PairSolver.solved_pairs c.args.solver.now)
    c.from_residual.result c.in_err-objects.field-0.0 c.from_residual.ensures.1 c.in_err-objects.ensures.fault

pub returns-in_err-built-clause-reply : goal.returns-in_err-built-clause-reply
returns-in_err-built-clause-reply g c =
    let F = c.in_ok-objects.objects in
    let before = g.P.PairSolver.solved_pairs c.args.solver.now in
    let after = g.P.PairSolver.solved_pairs c.surface_all.new.solver in
    let out = c.from_residual-in_err-built in
    with_text (reconstruct g.W.SurfaceWriter.format) c.args.input.now before after out.result F
    c.in_ok-objects.ensures.text
    (failed (IsFoundIn F) (IsSurfaceOf F) (λ b. Tells (g.W.SurfaceWriter.format (surface_of b.mesh)) b.pairs) before
    after out.result c.in_err-built.field-0.0 out.ensures.1 c.in_err-built.ensures.fault
    c.in_err-built.ensures.uncounted c.in_err-built.ensures.not_less)

pub returns-clause-reply : goal.returns-clause-reply
returns-clause-reply g c =
    let F = c.in_ok-objects.objects in
    let b = c.in_ok-built.built in
    let before = g.P.PairSolver.solved_pairs c.args.solver.now in
    let after = g.P.PairSolver.solved_pairs c.surface_all.new.solver in
    with_text (reconstruct g.W.SurfaceWriter.format) c.args.input.now before after _ F c.in_ok-objects.ensures.text
    (went_on (IsFoundIn F) (IsSurfaceOf F) (λ b. Tells (g.W.SurfaceWriter.format (surface_of b.mesh)) b.pairs) before
    after _ b
    (record {
      is_built = c.in_ok-built.ensures.built;
      valid = c.in_ok-built.ensures.valid;
      closed =
          c.in_ok-built.ensures.closed;
    })
    (tells (g.W.SurfaceWriter.format (surface_of b.mesh)) before after b.pairs c.in_ok-text.text (search rules)
    c.in_ok-built.ensures.counted c.in_ok-built.ensures.not_less))

pub returns-in_err-objects-clause-memory : goal.returns-in_err-objects-clause-memory
returns-in_err-objects-clause-memory g c =
    err_is (IsReadMemory Two c.args.input.now) c.from_residual.result c.in_err-objects.field-0.0
    c.from_residual.ensures.1 c.in_err-objects.ensures.memory

pub returns-in_err-built-clause-memory : goal.returns-in_err-built-clause-memory
returns-in_err-built-clause-memory g c =
    at_text c.args.input.now c.in_ok-objects.objects c.from_residual-in_err-built.result c.in_ok-objects.ensures.text

pub returns-in_err-text-clause-memory : goal.returns-in_err-text-clause-memory
returns-in_err-text-clause-memory g c =
    at_text c.args.input.now c.in_ok-objects.objects c.from_residual-in_err-text.result c.in_ok-objects.ensures.text
