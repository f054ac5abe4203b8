-- The words of the laws of a run.
use Rattle.std.specs.Prelude.{ℕ, ◌+◌, ◌≡◌, ◌≤◌, ℤ, List, ◌++◌, Option, Some, length, slice_get, codes, decimal}
use Rattle.std.specs.Option.{option_map}
use Rattle.text_io.specs.WordLists.{Kept, lines_of}
use Rattle.fku_types.specs.declared.fault.Fault.{Fault}
use Rattle.section_core.specs.Parts.{FileParts, Parts}
use Rattle.section_core.specs.Texts.{IsTextOfFile}
use Rattle.row_paths.specs.Solutions.{Solution}
use Rattle.pair_pool.specs.Solvers.{SolvesEach}
use Rattle.triangle_meshes.specs.Meshes.{Surface, surface_of}
use Rattle.byu_text.specs.Byu.{byu_of}
use Rattle.section_pairs.specs.Pairs.{PairParts}
use Rattle.surface_core.specs.Objects.{AreAllPairs, IsFoundIn, numbered}
use Rattle.surface_core.specs.Surfaces.{strips_in}
use Rattle.surface_core.specs.declared.surfaces.Built.{Built}
use Rattle.ring_caps.specs.RingSurfaces.{IsRingFoundIn}
use Rattle.surface_cli.specs.Words.{meaning}
use Rattle.surface_cli.specs.declared.commands.Command.{Command}
use Rattle.surface_cli.specs.declared.commands.Command.TheVariants.{Tilings, Reconstruct, Report, Certify, Slice, RingCaps}
use Rattle.surface_cli.specs.declared.words.Task.{Task}
use Rattle.command_replies.specs.Stages.{AreNumbered, IsFront, IsOnly}
use Rattle.pair_commands.specs.Tilings.{tilings_text}
use Rattle.surface_commands.specs.Edit.{Editing, IsEditing, answers_text}
use Rattle.surface_commands.specs.Slice.{IsHeightFaultOfAll}
use Rattle.surface_cli.specs.Run.{IsInputWithin}

-- the command that words ask for, with any number of workers; none for a usage error
abbrev pub command_of : List (List ℕ) → Option Command
command_of words = option_map (λ (task : Task). task.command) (meaning words)

-- What a command asks of objects without a fault: `slice` a height without a fault, `certify` a number of at most that
-- of their pairs, `ringcaps` no group that is too long; `tilings`, `reconstruct` and `report` ask for nothing more.
pub data Fits (F : FileParts) : Command → Type 0 where
  tilings_fit : Fits F Tilings
  reconstruct_fits : Fits F Reconstruct
  report_fits : Fits F Report
  slice_fits : (z : ℤ) → ((fault : Fault) → IsHeightFaultOfAll F z fault → ⊥) → Fits F (Slice z)
  certify_fits : (k : ℕ) (pairs : List PairParts) → AreNumbered F pairs → k ≤ length pairs → Fits F (Certify k)
  ring_caps_fit : ((fault : Fault) → IsRingFoundIn F fault → ⊥) → Fits F RingCaps

-- A valid input of a command: a section text within the limit, whose objects have no fault and fit the command.
pub record IsValidInput (command : Command) (input : List ℕ) : Type 0 where
  pub within : IsInputWithin command input
  pub objects : FileParts
  pub read : IsTextOfFile input objects
  pub faultless : (fault : Fault) → IsFoundIn objects fault → ⊥
  pub fits : Fits objects command

-- The text is the MOVIE.BYU text of the surface, of this kind, of the objects that the input reads as; this is its
-- mesh.
pub record IsSurfaceText (IsOf : FileParts → Built → Type 0) (input text : List ℕ) (mesh : Surface) : Type 0 where
  pub objects : FileParts
  pub read : IsTextOfFile input objects
  pub built : Built
  pub surface : IsOf objects built
  pub same : mesh ≡ surface_of built.mesh
  pub written : text ≡ byu_of mesh

-- The text is the answers to the edits after the only object of the input, their number, and a surface; these are the
-- edits, their answers, and the edited sections.
pub record AreEditsOf (input text surface : List ℕ) (x : Editing) : Type 0 where
  pub objects : FileParts
  pub tail : List Kept
  pub front : IsFront input (objects, tail)
  pub before : Parts
  pub only : IsOnly objects before
  pub edited : IsEditing before (lines_of tail) x
  pub written : text ≡ answers_text 1 x.answers
      ++ (codes "EDITS " ++ (decimal (length x.answers) ++ (codes "\n" ++ surface)))

-- a text ends with a line feed
abbrev pub EndsLine : List ℕ → Type 0
EndsLine text = (front : List ℕ) × (text ≡ front ++ codes "\n")

-- The text is that of `tilings` for the objects that the input reads as, and this is the cost that it prints for the
-- pair of a number.
pub record IsListedCost (input text : List ℕ) (k : ℕ) (cost : ℤ) : Type 0 where
  pub objects : FileParts
  pub read : IsTextOfFile input objects
  pub pairs : List (List PairParts)
  pub are_pairs : AreAllPairs objects pairs
  pub solutions : List Solution
  pub solved : SolvesEach (strips_in (numbered pairs)) solutions
  pub written : text ≡ tilings_text objects pairs solutions
  pub place : ℕ
  pub counted : k ≡ place + 1
  pub solution : Solution
  pub there : slice_get solutions place ≡ Some solution
  pub same : cost ≡ solution.cost
