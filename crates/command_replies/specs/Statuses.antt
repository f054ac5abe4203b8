-- The exit codes of the program.
use Rattle.std.specs.Prelude.{ℕ}
use Rattle.command_replies.specs.declared.status.Status.{Status}
use Rattle.command_replies.specs.declared.status.Status.TheVariants.{Done, Refused, BadWords, ReadFault, WriteFault, NoMemory}

-- the exit code that stands for a status
abbrev pub exit_code : Status → ℕ
exit_code Done = 0
exit_code Refused = 1
exit_code BadWords = 2
exit_code ReadFault = 3
exit_code WriteFault = 4
exit_code NoMemory = 5
