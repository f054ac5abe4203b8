use Rattle.std.proofs.Common.{inr, refl, arith, ℕ, List, ap}
use Rattle.triangle_meshes.specs.Meshes.{Surface, surface_of}
use Rattle.byu_text.specs.Reading.{ReadsAsMesh}
use Rattle.command_replies.specs.Reply.{Tells, told}
use Rattle.surface_commands.specs.Crossings.{crossings_text}
use Rattle.command_replies.proofs.ReplyLemmas.{failed, gives_unsolved, went_on}
use Rattle.fku_types.proofs.AnswerLaws.{err_is}
use Rattle.byu_text.specs.Answers.{IsByuFault, IsMeshMemory}
use Rattle.surface_commands.proofs.MeshLemmas.{at_mesh, byu_fault}
use Rattle.surface_commands.proofs.crossing.crossed.Goals as goal

pub returns-in_err-mesh-clause-reply : goal.returns-in_err-mesh-clause-reply
returns-in_err-mesh-clause-reply c n =
    failed (IsByuFault c.args.input.now) (ReadsAsMesh c.args.input.now) (λ (m : Surface). Tells (crossings_text m) 0) n
    n c.from_residual.result c.in_err-mesh.field-0.0 c.from_residual.ensures.1
    (byu_fault c.args.input.now c.in_err-mesh.field-0.0 c.in_err-mesh.ensures.fault) (inr refl) (omega arith)

pub returns-clause-reply : goal.returns-clause-reply
returns-clause-reply c n =
    let m = surface_of c.in_ok-mesh.mesh in
    went_on (IsByuFault c.args.input.now) (ReadsAsMesh c.args.input.now) (λ (s : Surface). Tells (crossings_text s) 0) n
    n _ m c.in_ok-mesh.ensures.found
    (gives_unsolved (Tells (crossings_text m) 0) n c.in_ok-text.text
    (ap (λ (t : List ℕ). told t 0) c.in_ok-text.ensures))

pub returns-in_err-mesh-clause-memory : goal.returns-in_err-mesh-clause-memory
returns-in_err-mesh-clause-memory c =
    err_is (IsMeshMemory c.args.input.now) c.from_residual.result c.in_err-mesh.field-0.0 c.from_residual.ensures.1
    c.in_err-mesh.ensures.memory

pub returns-in_err-text-clause-memory : goal.returns-in_err-text-clause-memory
returns-in_err-text-clause-memory c =
    at_mesh c.args.input.now (surface_of c.in_ok-mesh.mesh) c.from_residual-in_err-text.result
    c.in_ok-mesh.ensures.found
