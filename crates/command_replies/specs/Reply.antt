-- What a command replies to an input, and the one way in which rules of replies are composed.
use Rattle.std.specs.Prelude.{ℕ, zero, suc, ◌≡◌, ◌≤◌, List, ◌++◌, Some, Vec, Result, Ok, Err, IfOk, IfErr, codes}
use Rattle.std.specs.Global.{Global}
use Rattle.fku_types.specs.Fault.{fault_words}
use Rattle.fku_types.specs.declared.fault.Fault.{Fault}
use Rattle.fku_types.specs.declared.fault.Fault.TheVariants.{NoMemory}
use Rattle.pair_pool.specs.Solvers.{raised_by}
use Rattle.section_pairs.specs.SectionFaults.{OrNoMemory}
use Rattle.command_replies.specs.declared.answers.Answer.{Answer}
use Rattle.command_replies.specs.declared.answers.AnswerText.{AnswerText}
use Rattle.command_replies.specs.declared.answers.AnswerText.TheVariants.{Made, Line}
use Rattle.command_replies.specs.declared.status.Status.{Status}
use Rattle.command_replies.specs.declared.status.Status.TheVariants.{Done, Refused}

-- a text, with how many pairs the solver counts for it; or the fault by which the input is refused; or the words of a
-- refusal after so many counted pairs
pub data Reply : Type 0 where
  told : (text : List ℕ) (solved : ℕ) → Reply
  refused : Fault → Reply
  refused_after : (words : List ℕ) (solved : ℕ) → Reply

-- A stage of a command: it fails, and its fault is the reply; or it gives a value, and a rule goes on with that.
pub data Then {X : Type 0} (IsFault : Fault → Type 0) (Is : X → Type 0) (rule : X → Reply → Type 0) : Reply
    → Type 0 where
  fails : (fault : Fault) → IsFault fault → Then IsFault Is rule (refused fault)
  goes_on : (x : X) (reply : Reply) → Is x → rule x reply → Then IsFault Is rule reply

-- a stage that does not fail
abbrev pub NoFault : Fault → Type 0
NoFault fault = ⊥

-- the last stage: this text, with so many counted pairs
abbrev pub Tells : List ℕ → ℕ → Reply → Type 0
Tells text solved reply = reply ≡ told text solved

-- the line of a refusal
abbrev pub refusal_text : List ℕ → List ℕ
refusal_text words = codes "REFUSED " ++ (words ++ codes "\n")

-- What is written for a reply, with the status and the count of pairs. `NoMemory` has no words, and is the reply to no
-- input.
abbrev pub IsWritten : Reply → Status → List ℕ → ℕ → Type 0
IsWritten (told text solved) status written count = (status ≡ Done) × (written ≡ text) × (count ≡ solved)
IsWritten (refused fault) status written count =
    (status ≡ Refused) × (line : List ℕ) × (fault_words fault ≡ Some line) × (written ≡ refusal_text line) × (count ≡ 0)
IsWritten (refused_after words solved) status written count =
    (status ≡ Refused) × (written ≡ refusal_text words) × (count ≡ solved)

-- a solver's count after so many more pairs; for 0 pairs it stays
abbrev pub counted : ℕ → ℕ → ℕ
counted zero count = count
counted (suc n) count = raised_by (suc n) count

-- A function returns what a rule replies, and a solver's count before and after is that of the reply. If memory runs
-- out, the count may have risen.
pub record Replies (rule : Reply → Type 0) (before after : ℕ) (result : Result (Vec ℕ Global) Fault) : Type 0 where
  pub text : IfOk result (λ v. (n : ℕ) × rule (told v.items n) × (after ≡ counted n before))
  pub fault : IfErr result (OrNoMemory (λ f. rule (refused f) × (after ≡ before)))
  pub later : before ≤ after

-- the bytes of an answer
abbrev pub text_bytes : AnswerText → List ℕ
text_bytes (Made v) = v.items
text_bytes (Line l) = l.items

-- the answer for what was returned: a text, or a fault; `NoMemory` has none
abbrev pub IsAnswer : Result (Vec ℕ Global) Fault → Answer → Type 0
IsAnswer (Ok v) a = (a.status ≡ Done) × (text_bytes a.text ≡ v.items)
IsAnswer (Err fault) a = IsWritten (refused fault) a.status (text_bytes a.text) 0 × (fault ≡ NoMemory → ⊥)
