-- The contract of a run.
use Rattle.std.specs.Prelude.{ℕ, ◌≡◌, ◌≤◌, ◌⊎◌, List, Option, None, Some, take, length, unwrap_or, IfSome, IsSome}
use Rattle.std.specs.Io.KnownBytes.{Appends, Keeps, IsAtEnd}
use Rattle.text_io.specs.Outside.{Rose}
use Rattle.pair_pool.specs.Solvers.{Solver}
use Rattle.command_replies.specs.declared.status.Status.{Status}
use Rattle.command_replies.specs.declared.status.Status.TheVariants.{Done, Refused, BadWords, ReadFault, WriteFault, NoMemory}
use Rattle.surface_cli.specs.declared.commands.Command.{Command}
use Rattle.surface_cli.specs.declared.commands.Command.TheVariants.{Densify}
use Rattle.surface_cli.specs.declared.words.Task.{Task}
use Rattle.surface_cli.specs.Commands.{usage, input_limit}
use Rattle.surface_cli.specs.Words.{meaning}
use Rattle.surface_cli.specs.Out.{IsOut}
use Rattle.command_replies.specs.Reply.{counted}

-- the source and the sink of a run, before and after it
pub record Outside : Type 0 where
  -- the bytes left, if the source knows them, before and after
  pub left : Option (List ℕ)
  pub left_after : Option (List ℕ)
  -- the bytes written, if the sink knows them, before and after
  pub held : Option (List ℕ)
  pub held_after : Option (List ℕ)
  -- the faults of the source and of the sink, before and after
  pub read_faults : ℕ
  pub read_faults_after : ℕ
  pub write_faults : ℕ
  pub write_faults_after : ℕ

-- the same, for a source with its bytes left and its faults, and for a sink with its bytes written and its faults
abbrev pub outside : {A B : Type 0} → (A → Option (List ℕ)) → (A → ℕ) → A → A → (B → Option (List ℕ)) → (B → ℕ) → B → B
    → Outside
outside left read_faults source source_after held write_faults sink sink_after = record {
  left = left source;
  left_after = left source_after;
  held = held sink;
  held_after = held sink_after;
  read_faults = read_faults source;
  read_faults_after = read_faults source_after;
  write_faults = write_faults sink;
  write_faults_after = write_faults sink_after;
}

-- this is the meaning of a task that reads its input
abbrev pub ReadsInput : Option Task → Type 0
ReadsInput None = ⊥
ReadsInput (Some task) = IsSome (input_limit task.command)

-- the words have a meaning, and one that reads
abbrev pub HasMeaning : List (List ℕ) → Type 0
HasMeaning words = IsSome (meaning words)

abbrev pub HasReadingMeaning : List (List ℕ) → Type 0
HasReadingMeaning words = ReadsInput (meaning words)

-- the input, as far as the words read it: the bytes that the source knows; any bytes if the words read none
abbrev pub IsInput : List (List ℕ) → Option (List ℕ) → List ℕ → Type 0
IsInput words left input = HasReadingMeaning words → left ≡ Some input

-- the whole text of the run was appended
abbrev pub WritesWhole : List (List ℕ) → Outside → Status → Type 0
WritesWhole words o status =
    (input : List ℕ) → IsInput words o.left input
    → (text : List ℕ) × (solved : ℕ) × IsOut words input status text solved × Appends o.held o.held_after text

-- a front of a text of the run was appended
abbrev pub WritesFront : List (List ℕ) → Outside → Type 0
WritesFront words o =
    (input : List ℕ) → IsInput words o.left input
    → (status : Status) × (text : List ℕ) × (solved n : ℕ) × IsOut words input status text solved × (n ≤ length text)
    × Appends o.held o.held_after (take n text)

-- the input is at most as long as the command's limit
abbrev pub IsInputWithin : Command → List ℕ → Type 0
IsInputWithin command input = IfSome (input_limit command) (λ limit. length input ≤ limit)

-- a command that reads took its input to the end, if the input is within its limit
abbrev pub EndsReading : Command → Option (List ℕ) → Option (List ℕ) → Type 0
EndsReading command left left_after =
    IfSome left (λ input. IsSome (input_limit command) → IsInputWithin command input → IsAtEnd left_after)

abbrev pub ReadsToEnd : List (List ℕ) → Outside → Type 0
ReadsToEnd words o = (task : Task) → meaning words ≡ Some task → EndsReading task.command o.left o.left_after

-- what a command that reads gets: the bytes that the source knows; any bytes for a command that reads none
abbrev pub IsGiven : Command → Option (List ℕ) → List ℕ → Type 0
IsGiven command left input = IsSome (input_limit command) → left ≡ Some input

-- the status of an answer of a command
abbrev pub IsReply : Status → Type 0
IsReply Done = Unit {0}
IsReply Refused = Unit {0}
IsReply status = ⊥

-- what each status of a run shows
abbrev pub Runs : List (List ℕ) → Outside → Status → Type 0
Runs words o Done = HasMeaning words × WritesWhole words o Done × ReadsToEnd words o
Runs words o Refused = HasMeaning words × WritesWhole words o Refused × ReadsToEnd words o
Runs words o BadWords = (meaning words ≡ None) × Keeps o.left o.left_after × Appends o.held o.held_after usage
Runs words o ReadFault = HasReadingMeaning words × Rose o.read_faults o.read_faults_after × Keeps o.held o.held_after
Runs words o WriteFault = Rose o.write_faults o.write_faults_after × WritesFront words o × ReadsToEnd words o
Runs words o NoMemory = Keeps o.held o.held_after

-- If neither count rose or is at its last value, the run ends with the status of the definition and its whole text, or
-- memory ran out.
abbrev pub IsComplete : List (List ℕ) → Outside → Status → Type 0
IsComplete words o status =
    (Rose o.read_faults o.read_faults_after → ⊥) → (Rose o.write_faults o.write_faults_after → ⊥)
    → (status ≡ NoMemory) ⊎ WritesWhole words o status

-- the promise of a run: what its status shows of the bytes read and written, and that without a fault of source or sink
-- the whole text was written, or memory ran out
pub record IsRun (words : List (List ℕ)) (o : Outside) (status : Status) : Type 0 where
  pub runs : Runs words o status
  pub complete : IsComplete words o status

-- a solver's count rose by the number of pairs for this status
abbrev pub Raises : List (List ℕ) → List ℕ → ℕ → ℕ → Status → Type 0
Raises words input before after status =
    (text : List ℕ) × (solved : ℕ) × IsOut words input status text solved × (after ≡ counted solved before)

-- a task is to densify, the only one that may be refused after pairs were counted
abbrev pub IsToDensify : Option Task → Type 0
IsToDensify None = ⊥
IsToDensify (Some task) = task.command ≡ Densify

-- how a run changes the count of its solver
abbrev pub CountsPairs : List (List ℕ) → Option (List ℕ) → ℕ → ℕ → Status → Type 0
CountsPairs words left before after Done = (input : List ℕ) → IsInput words left input
    → Raises words input before after Done
CountsPairs words left before after Refused =
    ((input : List ℕ) → IsInput words left input → Raises words input before after Refused)
    × ((IsToDensify (meaning words) → ⊥) → after ≡ before)
CountsPairs words left before after WriteFault =
    (input : List ℕ) → IsInput words left input → (status : Status) × Raises words input before after status
CountsPairs words left before after NoMemory = before ≤ after
CountsPairs words left before after status = after ≡ before

-- the workers of a task: those of its option; if it has none, as many as before
abbrev pub workers_of : Option Task → ℕ → ℕ
workers_of None workers = workers
workers_of (Some task) workers = unwrap_or task.workers workers

-- how a run sets the workers of its solver; if memory ran out, it may not have set them
abbrev pub SetsWorkers : List (List ℕ) → ℕ → ℕ → Status → Type 0
SetsWorkers words before after NoMemory = (after ≡ before) ⊎ (after ≡ workers_of (meaning words) before)
SetsWorkers words before after status = after ≡ workers_of (meaning words) before

-- the promise of a run on its solver, before and after; it ranges over the bytes left, if the source knows them
pub record IsWork (words : List (List ℕ)) (left : Option (List ℕ)) (s t : Solver) (status : Status) : Type 0 where
  pub counts : CountsPairs words left s.solved_pairs t.solved_pairs status
  pub later : s.solved_pairs ≤ t.solved_pairs
  pub workers : SetsWorkers words s.worker_count t.worker_count status
