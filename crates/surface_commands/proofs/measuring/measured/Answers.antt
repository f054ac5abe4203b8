use Rattle.std.proofs.Common.{◌∙◌, inr, refl, arith, ℕ, List, length, ap}
use Rattle.std.proofs.lemmas.Slice.Zip.{AllZip-long}
use Rattle.triangle_meshes.specs.Meshes.{surface_of}
use Rattle.byu_text.specs.Reading.{ReadsAsMesh}
use Rattle.command_replies.specs.Reply.{told}
use Rattle.surface_commands.specs.Measure.{AreMeasures, TellsMeasures, measures_text}
use Rattle.command_replies.proofs.ReplyLemmas.{failed, gives_unsolved, went_on}
use Rattle.fku_types.proofs.AnswerLaws.{err_is}
use Rattle.byu_text.specs.Answers.{IsByuFault, IsMeshMemory}
use Rattle.surface_commands.proofs.MeshLemmas.{at_mesh, byu_fault}
use Rattle.surface_commands.proofs.measuring.measured.Goals as goal

pub returns-in_err-mesh-clause-reply : goal.returns-in_err-mesh-clause-reply
returns-in_err-mesh-clause-reply c n =
    failed (IsByuFault c.args.input.now) (ReadsAsMesh c.args.input.now) TellsMeasures n n c.from_residual.result
    c.in_err-mesh.field-0.0 c.from_residual.ensures.1
    (byu_fault c.args.input.now c.in_err-mesh.field-0.0 c.in_err-mesh.ensures.fault) (inr refl) (omega arith)

pub measures_text-requires : goal.measures_text-requires
measures_text-requires c =
    let m = surface_of c.in_ok-mesh.mesh in
    let parts = c.in_ok-parts.parts.items in
    omega (
      arith,
      ap length c.deref.ensures.value,
      AllZip-long (AreMeasures m.vertices) m.parts parts c.in_ok-parts.ensures,
      c.in_ok-mesh.ensures.found.mesh.valid.few_parts,
    )

pub returns-clause-reply : goal.returns-clause-reply
returns-clause-reply c n =
    let m = surface_of c.in_ok-mesh.mesh in
    let parts = c.in_ok-parts.parts.items in
    let text = c.in_ok-text.ensures ∙ ap measures_text c.deref.ensures.value in
    went_on (IsByuFault c.args.input.now) (ReadsAsMesh c.args.input.now) TellsMeasures n n _ m
    c.in_ok-mesh.ensures.found
    (gives_unsolved (TellsMeasures m) n c.in_ok-text.text
    (record { measures = parts; are = c.in_ok-parts.ensures; tells = ap (λ (t : List ℕ). told t 0) text }))

pub returns-in_err-mesh-clause-memory : goal.returns-in_err-mesh-clause-memory
returns-in_err-mesh-clause-memory c =
    err_is (IsMeshMemory c.args.input.now) c.from_residual.result c.in_err-mesh.field-0.0 c.from_residual.ensures.1
    c.in_err-mesh.ensures.memory

pub returns-in_err-parts-clause-memory : goal.returns-in_err-parts-clause-memory
returns-in_err-parts-clause-memory c =
    at_mesh c.args.input.now (surface_of c.in_ok-mesh.mesh) c.from_residual-in_err-parts.result
    c.in_ok-mesh.ensures.found

pub returns-in_err-text-clause-memory : goal.returns-in_err-text-clause-memory
returns-in_err-text-clause-memory c =
    at_mesh c.args.input.now (surface_of c.in_ok-mesh.mesh) c.from_residual-in_err-text.result
    c.in_ok-mesh.ensures.found
