use Rattle.std.proofs.Common.{◌∙◌, inr, refl, arith, ℕ, List, ap}
use Rattle.triangle_meshes.specs.Meshes.{surface_of}
use Rattle.byu_text.specs.Reading.{ReadsAsMesh}
use Rattle.command_replies.specs.Reply.{told}
use Rattle.surface_commands.specs.Count.{TellsCounts}
use Rattle.surface_commands.proofs.CountLemmas.{same_counts}
use Rattle.command_replies.proofs.ReplyLemmas.{failed, gives_unsolved, went_on}
use Rattle.fku_types.proofs.AnswerLaws.{err_is}
use Rattle.byu_text.specs.Answers.{IsByuFault, IsMeshMemory}
use Rattle.surface_commands.proofs.MeshLemmas.{at_mesh, byu_fault}
use Rattle.surface_commands.proofs.counting.count.Goals as goal

pub returns-in_err-mesh-clause-reply : goal.returns-in_err-mesh-clause-reply
returns-in_err-mesh-clause-reply c n =
    failed (IsByuFault c.args.input.now) (ReadsAsMesh c.args.input.now) TellsCounts n n c.from_residual.result
    c.in_err-mesh.field-0.0 c.from_residual.ensures.1
    (byu_fault c.args.input.now c.in_err-mesh.field-0.0 c.in_err-mesh.ensures.fault) (inr refl) (omega arith)

pub returns-clause-reply : goal.returns-clause-reply
returns-clause-reply c n =
    let m = surface_of c.in_ok-mesh.mesh in
    let has = c.in_ok-counts.ensures in
    let counts = c.in_ok-counts.counts in
    let text = c.in_ok-text.ensures ∙ same_counts m counts.parts counts.vertices counts.polygons counts.edges
    counts.closed has.parts has.vertices has.polygons has.edges in
    went_on (IsByuFault c.args.input.now) (ReadsAsMesh c.args.input.now) TellsCounts n n _ m c.in_ok-mesh.ensures.found
    (gives_unsolved (TellsCounts m) n c.in_ok-text.text
    (record { closed = counts.closed; says = has.closed; tells = ap (λ (t : List ℕ). told t 0) text }))

pub returns-in_err-mesh-clause-memory : goal.returns-in_err-mesh-clause-memory
returns-in_err-mesh-clause-memory c =
    err_is (IsMeshMemory c.args.input.now) c.from_residual.result c.in_err-mesh.field-0.0 c.from_residual.ensures.1
    c.in_err-mesh.ensures.memory

pub returns-in_err-counts-clause-memory : goal.returns-in_err-counts-clause-memory
returns-in_err-counts-clause-memory c =
    at_mesh c.args.input.now (surface_of c.in_ok-mesh.mesh) c.from_residual-in_err-counts.result
    c.in_ok-mesh.ensures.found

pub returns-in_err-text-clause-memory : goal.returns-in_err-text-clause-memory
returns-in_err-text-clause-memory c =
    at_mesh c.args.input.now (surface_of c.in_ok-mesh.mesh) c.from_residual-in_err-text.result
    c.in_ok-mesh.ensures.found
