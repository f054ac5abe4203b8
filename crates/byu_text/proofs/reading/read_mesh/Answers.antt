use Rattle.std.proofs.Common.{arith, ◌≡◌, ◌<◌, ◌+◌, ℕ, List, length, drop, sym, ap₂, ◌∙◌, subst}
use Rattle.std.proofs.lemmas.List.{length-drop}
use Rattle.byu_text.specs.Reading.{HasMeshFault, ReadsAsMesh}
use Rattle.byu_text.specs.Stages.{counts_of, parts_in, text_end_at}
use Rattle.byu_text.proofs.CountsStuck.{head_fault}
use Rattle.byu_text.proofs.FirstLine.{after_head}
use Rattle.byu_text.proofs.Steps.{end_fault_at, reads_from}
use Rattle.byu_text.proofs.reading.read_mesh.Goals as goal

pub returns-in_default-clause-fault : goal.returns-in_default-clause-fault
returns-in_default-clause-fault c = head_fault c.args.text.now c.in_default.ensures

pub returns-then-text-end_at-clause-fault : goal.returns-then-text-end_at-clause-fault
returns-then-text-end_at-clause-fault c =
    let text = c.args.text.now in
    let h = counts_of c.in-Some.head in
    let more : 0 < length (drop (text_end_at h) text) =
    omega (arith, length-drop (text_end_at h) text, c.if-text-end_at.true, c.end_at.ensures) in
    subst (λ (k : ℕ). HasMeshFault text (h.parts + k + h.polygons + 2)) (sym c.vertex_lines.ensures)
    (end_fault_at text h c.in_ok-sizes.sizes.items c.in_ok-vertices.vertices.items c.in_ok-triangles.triangles.items
    c.in-Some.ensures c.in_ok-sizes.ensures.ok c.in_ok-vertices.ensures.ok c.in_ok-triangles.ensures.ok more)

pub returns-clause-found : goal.returns-clause-found
returns-clause-found c =
    let text = c.args.text.now in
    let h = counts_of c.in-Some.head in
    let sizes = c.in_ok-sizes.sizes.items in
    let vertices = c.in_ok-vertices.vertices.items in
    let triangles = c.in_ok-triangles.triangles.items in
    let none : length (drop (text_end_at h) text) ≡ 0 =
    omega (arith, length-drop (text_end_at h) text, c.if-text-end_at.false, c.end_at.ensures) in
    let reads = reads_from text h sizes vertices triangles c.in-Some.ensures c.in_ok-sizes.ensures.ok
    c.in_ok-vertices.ensures.ok c.in_ok-triangles.ensures.ok none in
    let parts = c.in_ok-parts.ensures ∙ ap₂ parts_in c.deref.ensures.value c.deref-2.ensures.value in
    subst (λ (p : List (List (List ℕ))). ReadsAsMesh text (record { vertices = vertices; parts = p })) (sym parts) reads

pub returns-in_err-sizes-clause-memory : goal.returns-in_err-sizes-clause-memory
returns-in_err-sizes-clause-memory c =
    after_head c.args.text.now (counts_of c.in-Some.head) c.from_residual.result c.in-Some.ensures

pub returns-in_err-vertices-clause-memory : goal.returns-in_err-vertices-clause-memory
returns-in_err-vertices-clause-memory c =
    after_head c.args.text.now (counts_of c.in-Some.head) c.from_residual-in_err-vertices.result c.in-Some.ensures

pub returns-in_err-triangles-clause-memory : goal.returns-in_err-triangles-clause-memory
returns-in_err-triangles-clause-memory c =
    after_head c.args.text.now (counts_of c.in-Some.head) c.from_residual-in_err-triangles.result c.in-Some.ensures

pub returns-in_err-parts-clause-memory : goal.returns-in_err-parts-clause-memory
returns-in_err-parts-clause-memory c =
    after_head c.args.text.now (counts_of c.in-Some.head) c.from_residual-in_err-parts.result c.in-Some.ensures
