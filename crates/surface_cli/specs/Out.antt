-- What a run writes, and its status.
use Rattle.std.specs.Prelude.{ℕ, ◌≡◌, Option, List, None, Some}
use Rattle.command_replies.specs.declared.status.Status.{Status}
use Rattle.command_replies.specs.declared.status.Status.TheVariants.{BadWords}
use Rattle.command_replies.specs.Reply.{Reply, IsWritten}
use Rattle.command_replies.specs.Stages.{on_input}
use Rattle.surface_cli.specs.declared.commands.Command.{Command}
use Rattle.surface_cli.specs.declared.words.Task.{Task}
use Rattle.surface_cli.specs.Commands.{input_limit, rule_of, usage}
use Rattle.surface_cli.specs.Words.{meaning}

-- the reply of a command to an input
abbrev pub reply_of : Command → List ℕ → Reply → Type 0
reply_of command input = on_input (input_limit command) (rule_of command) input

-- what is written for a command and an input, with the status and the count of pairs
abbrev pub Answers : Command → List ℕ → Status → List ℕ → ℕ → Type 0
Answers command input status text solved =
    (reply : Reply) × reply_of command input reply × IsWritten reply status text solved

-- the same for words of this meaning; without one, the usage line is written
abbrev pub IsOutOf : Option Task → List ℕ → Status → List ℕ → ℕ → Type 0
IsOutOf (Some task) input status text solved = Answers task.command input status text solved
IsOutOf None input status text solved = (status ≡ BadWords) × (text ≡ usage) × (solved ≡ 0)

-- the text and the status of a run, and how many pairs its solver counts
abbrev pub IsOut : List (List ℕ) → List ℕ → Status → List ℕ → ℕ → Type 0
IsOut words input status text solved = IsOutOf (meaning words) input status text solved
