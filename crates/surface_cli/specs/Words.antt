-- The meaning of the words of a command line.
use Rattle.std.specs.Prelude.{◌≤◌, ℕ, List, [], ◌∷◌, Option, None, Some, IfSome, Bool, false, if◌then◌else◌}
use Rattle.std.specs.List.{list_any}
use Rattle.std.specs.Str.{bytes_eq}
use Rattle.clap.specs.Words.{App, Kinds, Row, Text, fault_of, matches_of}
use Rattle.fku_types.specs.declared.limits.TheConstants.{MAX_DEMO_SECTIONS, MAX_DEMO_VERTICES, MAX_PAIRS, MAX_SEED, MAX_WORKERS}
use Rattle.fku_types.specs.Points.{IsCoordinate}
use Rattle.surface_cli.specs.declared.commands.Command.{Command}
use Rattle.surface_cli.specs.declared.commands.Command.TheVariants.{Certify, Demo, Slice}
use Rattle.surface_cli.specs.declared.words.Task.{Task}
use Rattle.surface_cli.specs.Arguments.{Entry}
use Rattle.surface_cli.specs.Commands.{commands}

-- the task, if no kind of refusal is named; else none
abbrev pub unless_refused : Kinds → Task → Option Task
unless_refused [] task = Some task
unless_refused (kind ∷ more) task = None

-- the task of the matches that `clap` states for the words, if it names no kind of refusal for them
unfoldable pub where_taken : App → (List Row → Task) → List Text → Option Task
where_taken app value words = unless_refused (fault_of app words) (value (matches_of app words))

-- the meaning of words whose first is `name`: the task of the command of this name
abbrev pub meaning_among : List Entry → Text → List Text → Option Task
meaning_among [] name words = None
meaning_among (entry ∷ others) name words =
    if bytes_eq name entry.app.top.name then where_taken entry.app entry.task words else meaning_among others name words

-- the meaning of the words; none for a usage error
unfoldable pub meaning : List Text → Option Task
meaning [] = None
meaning (name ∷ others) = meaning_among commands name (name ∷ others)

-- whether a command has this name; and whether the first word is the name of a command
abbrev pub is_command : Text → Bool
is_command name = list_any (λ (entry : Entry). bytes_eq name entry.app.top.name) commands

abbrev pub names_command : List Text → Bool
names_command [] = false
names_command (name ∷ others) = is_command name

-- from 1 worker on
abbrev pub IsWorkers : ℕ → Type 0
IsWorkers workers = (1 ≤ workers) × (workers ≤ MAX_WORKERS)

-- the numbers of a command are in their ranges
abbrev pub AreValuesInRange : Command → Type 0
AreValuesInRange (Certify pair) = (1 ≤ pair) × (pair ≤ MAX_PAIRS)
AreValuesInRange (Slice height) = IsCoordinate height
AreValuesInRange (Demo seed sections vertices) =
    (seed ≤ MAX_SEED) × ((1 ≤ sections) × (sections ≤ MAX_DEMO_SECTIONS))
    × ((3 ≤ vertices) × (vertices ≤ MAX_DEMO_VERTICES))
AreValuesInRange command = Unit {0}

-- and so is its number of workers, if it has that option
pub record IsTaskInRange (task : Task) : Type 0 where
  pub command : AreValuesInRange task.command
  pub workers : IfSome task.workers IsWorkers
