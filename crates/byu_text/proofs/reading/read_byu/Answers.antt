use Rattle.std.proofs.Common.{ℕ, List, Result, Ok, Err}
use Rattle.std.specs.Prelude.{IfOk, IfErr}
use Rattle.triangle_meshes.specs.Meshes.{Surface, surface_of}
use Rattle.triangle_meshes.specs.declared.meshes.Mesh.{Mesh}
use Rattle.fku_types.specs.declared.fault.Fault.{Fault}
use Rattle.fku_types.specs.declared.fault.Fault.TheVariants.{ByuForm}
use Rattle.byu_text.specs.Reading.{ReadsAsMesh, HasMeshFault}
use Rattle.byu_text.specs.Answers.{IsMeshFault, ReadsBackMesh, TellsMeshFault}
use Rattle.byu_text.proofs.Fronts.{no_fault, one_fault}
use Rattle.byu_text.proofs.Whole.{reads_one}
use Rattle.byu_text.proofs.reading.read_byu.Goals as goal

given : (text : List ℕ) (s : Surface) (r : Result Mesh Fault) → IfOk r (λ m. ReadsAsMesh text (surface_of m))
    → IfErr r (IsMeshFault text) → ReadsAsMesh text s → ReadsBackMesh s r
given text s (Ok m) f g h = reads_one text (surface_of m) s f h
given text s (Err (ByuForm n)) f g h = absurd (no_fault text n s h g)
given text s (Err fault) f g h = g

told : (text : List ℕ) (n : ℕ) (r : Result Mesh Fault) → IfOk r (λ m. ReadsAsMesh text (surface_of m))
    → IfErr r (IsMeshFault text) → HasMeshFault text n → TellsMeshFault n r
told text n (Ok m) f g h = no_fault text n (surface_of m) f h
told text n (Err (ByuForm line)) f g h = one_fault text line n g h
told text n (Err fault) f g h = g

pub returns-clause-given : goal.returns-clause-given
returns-clause-given c s h = given c.args.bytes.now s c.read_mesh.result c.read_mesh.ensures.found
    c.read_mesh.ensures.fault h

pub returns-clause-told : goal.returns-clause-told
returns-clause-told c n h = told c.args.bytes.now n c.read_mesh.result c.read_mesh.ensures.found
    c.read_mesh.ensures.fault h
