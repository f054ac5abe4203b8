use Rattle.std.proofs.Common.{arith, ◌≡◌, length, Result, Ok, Err, ap, ◌∙◌}
use Rattle.std.specs.Prelude.{IfOk, IfErr}
use Rattle.triangle_meshes.specs.Meshes.{Surface, surface_of}
use Rattle.triangle_meshes.specs.declared.meshes.Mesh.{Mesh}
use Rattle.fku_types.specs.declared.fault.Fault.{Fault}
use Rattle.fku_types.specs.declared.fault.Fault.TheVariants.{NoMemory}
use Rattle.byu_text.specs.Reading.{IsMesh}
use Rattle.byu_text.specs.Answers.{ReadsBackMesh}
use Rattle.byu_text.proofs.PolygonsStuck.{mesh_width}
use Rattle.byu_text.proofs.reading_laws.read_back.Goals as goal

back : (s : Surface) (r : Result Mesh Fault) → ReadsBackMesh s r → IfOk r (λ m. surface_of m ≡ s)
back s (Ok m) g = g
back s (Err f) g = tt

lost : (s : Surface) (r : Result Mesh Fault) → ReadsBackMesh s r → IfErr r (λ f. f ≡ NoMemory)
lost s (Ok m) g = tt
lost s (Err f) g = g

pub read_byu-requires : goal.read_byu-requires
read_byu-requires c =
    let s = surface_of c.args.mesh.now in
    let m : IsMesh s = record { valid = c.requires; triangles = c.are_triangles.ensures } in
    omega (arith, mesh_width s m, ap length (c.deref.ensures.value ∙ c.in_ok-text.ensures))

pub returns-clause-ok : goal.returns-clause-ok
returns-clause-ok c =
    let s = surface_of c.args.mesh.now in
    let m : IsMesh s = record { valid = c.requires; triangles = c.are_triangles.ensures } in
    back s c.read_byu.result (c.read_byu.ensures.given s
    (record { mesh = m; same = c.deref.ensures.value ∙ c.in_ok-text.ensures }))

pub returns-clause-err : goal.returns-clause-err
returns-clause-err c =
    let s = surface_of c.args.mesh.now in
    let m : IsMesh s = record { valid = c.requires; triangles = c.are_triangles.ensures } in
    lost s c.read_byu.result (c.read_byu.ensures.given s
    (record { mesh = m; same = c.deref.ensures.value ∙ c.in_ok-text.ensures }))
