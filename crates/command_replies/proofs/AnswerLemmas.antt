-- The answer for what a command returns.
use Rattle.std.proofs.Common.{◌≡◌, ℕ}
use Rattle.command_replies.specs.declared.answers.Answer.{Answer}
use Rattle.command_replies.specs.Reply.{Reply, text_bytes, IsWritten, counted}

-- a text and its status are what a rule replies, and the count of a solver before and after is that of the reply
abbrev pub Written : (Reply → Type 0) → ℕ → ℕ → Answer → Type 0
Written rule before after a = (reply : Reply) × (n : ℕ) × rule reply × IsWritten reply a.status (text_bytes a.text) n
    × (after ≡ counted n before)
