-- The stages that commands are made of.
use Rattle.std.specs.Prelude.{ℕ, ◌≡◌, ◌<◌, ◌≤◌, ◌⊎◌, true, List, [], ◌∷◌, Option, None, Some, length, All}
use Rattle.text_io.specs.Text.{kept_lines}
use Rattle.fku_types.specs.declared.fault.Fault.{Fault}
use Rattle.fku_types.specs.declared.fault.Fault.TheVariants.{Form, Limit, OneObject}
use Rattle.fku_types.specs.declared.fault.LimitName.TheVariants.{Bytes}
use Rattle.plane_geom.specs.Rings.{IsClosed}
use Rattle.section_core.specs.declared.parts.Version.TheVariants.{Two}
use Rattle.section_core.specs.Parts.{Parts, FileParts}
use Rattle.section_core.specs.Reading.{HasFile, HasFileFault, is_filled}
use Rattle.section_core.specs.Texts.{IsTextOfFile}
use Rattle.text_io.specs.WordLists.{Kept, first_number}
use Rattle.row_paths.specs.Solutions.{Solution}
use Rattle.pair_pool.specs.Solvers.{SolvesEach}
use Rattle.triangle_meshes.specs.Meshes.{surface_of, IsValid}
use Rattle.section_pairs.specs.SectionFaults.{IsFound, ArePairs}
use Rattle.surface_core.specs.Objects.{AreAllPairs, AreBuilt, IsFoundIn, numbered, objects_in}
use Rattle.section_pairs.specs.Pairs.{PairParts}
use Rattle.surface_core.specs.Surfaces.{IsBuilt, strips_in}
use Rattle.surface_core.specs.declared.surfaces.Built.{Built}
use Rattle.command_replies.specs.Reply.{Reply, Then, NoFault}

-- an input that is longer than a limit has this fault; else it is taken whole
abbrev pub IsTooLong : ℕ → List ℕ → Fault → Type 0
IsTooLong limit input fault = (limit < length input) × (fault ≡ Limit Bytes 0)

abbrev pub IsWhole : ℕ → List ℕ → List ℕ → Type 0
IsWhole limit input bytes = (length input ≤ limit) × (bytes ≡ input)

-- the input is read up to a limit; without one, nothing is read
abbrev pub on_input : Option ℕ → (List ℕ → Reply → Type 0) → List ℕ → Reply → Type 0
on_input (Some limit) rule input = Then (IsTooLong limit input) (IsWhole limit input) rule
on_input None rule input = rule []

-- the front of the bytes is a text of objects, and these are the kept lines after it
abbrev pub IsFront : List ℕ → FileParts × List Kept → Type 0
IsFront bytes f = HasFile Two (kept_lines bytes) f.0 f.1 × (is_filled f.0 ≡ true)

abbrev pub on_front : (FileParts → List Kept → Reply → Type 0) → List ℕ → Reply → Type 0
on_front rule bytes = Then (HasFileFault Two (kept_lines bytes)) (IsFront bytes) (λ f. rule f.0 f.1)

-- the first kept line after the front of the bytes has this number
abbrev pub HasTailAt : List ℕ → ℕ → Type 0
HasTailAt bytes n = (f : FileParts × List Kept) × IsFront bytes f × (first_number f.1 ≡ Some n)

-- the bytes are not a text of objects: their front has this fault; or it has none, and the first kept line after it is
-- at fault
abbrev pub IsTextFault : List ℕ → Fault → Type 0
IsTextFault bytes fault = HasFileFault Two (kept_lines bytes) fault ⊎ ((n : ℕ) × HasTailAt bytes n × (fault ≡ Form n))

-- the bytes are a text of objects without a tail
abbrev pub on_objects : (FileParts → Reply → Type 0) → List ℕ → Reply → Type 0
on_objects rule bytes = Then (IsTextFault bytes) (IsTextOfFile bytes) rule

-- the pairs of objects, object by object
abbrev pub on_pairs : FileParts → (List (List PairParts) → Reply → Type 0) → Reply → Type 0
on_pairs F rule = Then (IsFoundIn F) (AreAllPairs F) rule

-- the pairs of all objects, as they are numbered through the text
abbrev pub AreNumbered : FileParts → List PairParts → Type 0
AreNumbered F ps = (pss : List (List PairParts)) × AreAllPairs F pss × (ps ≡ numbered pss)

abbrev pub on_numbered : FileParts → (List PairParts → Reply → Type 0) → Reply → Type 0
on_numbered F rule = Then (IsFoundIn F) (AreNumbered F) rule

-- the pairs of one object
abbrev pub on_pairs_of : Parts → (List PairParts → Reply → Type 0) → Reply → Type 0
on_pairs_of S rule = Then (IsFound S) (ArePairs S) rule

-- There are several objects: the fault of the first one that has a fault; or there is none, and their number is
-- refused.
pub data AreSeveral (F : FileParts) : Fault → Type 0 where
  found : (fault : Fault) → 1 < length F.objects → IsFoundIn F fault → AreSeveral F fault
  too_many : (pss : List (List PairParts)) → 1 < length F.objects → AreAllPairs F pss
      → AreSeveral F (OneObject (length F.objects))

-- the only object
abbrev pub IsOnly : FileParts → Parts → Type 0
IsOnly F S = objects_in F ≡ S ∷ []

abbrev pub on_only : FileParts → (Parts → Reply → Type 0) → Reply → Type 0
on_only F rule = Then (AreSeveral F) (IsOnly F) rule

-- the solutions of pairs: the chosen tiling of each, which costs no more than any acceptable tiling from any start
abbrev pub on_solutions : List PairParts → (List Solution → Reply → Type 0) → Reply → Type 0
on_solutions pairs rule = Then NoFault (SolvesEach (strips_in pairs)) rule

-- the closed surface of the pairs of objects, each joined by a least tiling
pub record IsSurfaceOf (F : FileParts) (b : Built) : Type 0 where
  pub is_built : AreBuilt F b
  pub valid : IsValid (surface_of b.mesh)
  pub closed : All IsClosed (surface_of b.mesh).parts

abbrev pub on_surface : FileParts → (Built → Reply → Type 0) → Reply → Type 0
on_surface F rule = Then (IsFoundIn F) (IsSurfaceOf F) rule

-- the same for one object
pub record IsSurfaceOfOne (S : Parts) (b : Built) : Type 0 where
  pub is_built : IsBuilt S b
  pub valid : IsValid (surface_of b.mesh)
  pub closed : All IsClosed (surface_of b.mesh).parts

abbrev pub on_surface_of : Parts → (Built → Reply → Type 0) → Reply → Type 0
on_surface_of S rule = Then (IsFound S) (IsSurfaceOfOne S) rule
