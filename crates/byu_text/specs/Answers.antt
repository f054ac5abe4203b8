-- What a reader of texts returns.
use Rattle.std.specs.Prelude.{ℕ, ◌≡◌, List, Result, Ok, Err}
use Rattle.triangle_meshes.specs.Meshes.{Surface, surface_of}
use Rattle.triangle_meshes.specs.declared.meshes.Mesh.{Mesh}
use Rattle.fku_types.specs.declared.fault.Fault.{Fault}
use Rattle.fku_types.specs.declared.fault.Fault.TheVariants.{ByuForm, NoMemory}
use Rattle.byu_text.specs.Reading.{BeginsAs, HasMeshFault}

-- the text has this fault
abbrev pub IsByuFault : List ℕ → Fault → Type 0
IsByuFault text fault = (n : ℕ) × HasMeshFault text n × (fault ≡ ByuForm n)

-- the text has its fault at this line, or memory ran out
abbrev pub IsMeshFault : List ℕ → Fault → Type 0
IsMeshFault text (ByuForm n) = HasMeshFault text n
IsMeshFault text fault = fault ≡ NoMemory

-- memory runs out only where the first line is that of a valid mesh: it is asked for after that line
abbrev pub IsMeshMemory : List ℕ → Fault → Type 0
IsMeshMemory text fault = fault ≡ NoMemory → (s : Surface) × BeginsAs text 1 s

-- the result has this mesh, unless memory runs out
abbrev pub ReadsBackMesh : Surface → Result Mesh Fault → Type 0
ReadsBackMesh s (Ok m) = surface_of m ≡ s
ReadsBackMesh s (Err fault) = fault ≡ NoMemory

-- the result reports the fault at line n, unless memory runs out
abbrev pub TellsMeshFault : ℕ → Result Mesh Fault → Type 0
TellsMeshFault n (Ok m) = ⊥
TellsMeshFault n (Err (ByuForm line)) = line ≡ n
TellsMeshFault n (Err fault) = fault ≡ NoMemory
