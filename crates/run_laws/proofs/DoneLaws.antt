-- What a run with the status Done has passed.
use Rattle.std.proofs.Common.{◌≡◌, ℕ, ◌≤◌, List, length, Option, sym, subst}
use Rattle.section_core.specs.Parts.{FileParts}
use Rattle.section_core.specs.Texts.{IsTextOfFile}
use Rattle.surface_cli.specs.declared.commands.Command.{Command}
use Rattle.surface_cli.specs.declared.words.Task.{Task}
use Rattle.command_replies.specs.declared.status.Status.{Status}
use Rattle.command_replies.specs.declared.status.Status.TheVariants.{Done}
use Rattle.command_replies.specs.Reply.{IsWritten, Reply, Then, told}
use Rattle.command_replies.specs.Stages.{IsTextFault, IsTooLong, IsWhole, on_objects}
use Rattle.command_replies.proofs.ReplyLemmas.{went, written_done}
use Rattle.surface_cli.specs.Out.{Answers, IsOut, IsOutOf}
use Rattle.surface_cli.specs.Headline.{AsksFor}

-- the answer to words of a command
pub of_words : (command : Command) (words : List (List ℕ)) (input text : List ℕ) (s : Status) (n : ℕ)
    → AsksFor command words → IsOut words input s text n → Answers command input s text n
of_words command words input text s n asks out = subst (λ (o : Option Task). IsOutOf o input s text n) asks.1 out

pub by_words : (command : Command) (words : List (List ℕ)) (input text : List ℕ) (s : Status) (n : ℕ)
    → AsksFor command words → Answers command input s text n → IsOut words input s text n
by_words command words input text s n asks is = subst (λ (o : Option Task). IsOutOf o input s text n) (sym asks.1) is

pub same_text : (s t : List ℕ) (m n : ℕ) → told s m ≡ told t n → s ≡ t
same_text s t m n e = cc

-- the input is within its limit, and the rule's reply is the text
pub of_input : (limit : ℕ) (rule : List ℕ → Reply → Type 0) (input : List ℕ) (reply : Reply) (text : List ℕ) (n : ℕ)
    → Then (IsTooLong limit input) (IsWhole limit input) rule reply → IsWritten reply Done text n
    → (length input ≤ limit) × rule input (told text n)
of_input limit rule input reply text n is w =
    let done : Then (IsTooLong limit input) (IsWhole limit input) rule (told text n) =
    subst (Then (IsTooLong limit input) (IsWhole limit input) rule) (written_done reply text n w).1 is in
    let whole = went (IsTooLong limit input) (IsWhole limit input) rule (told text n) done tt in
    (whole.1.0, subst (λ (b : List ℕ). rule b (told text n)) whole.1.1 whole.2)

-- it reads as objects, and the rule's reply for these is the text
pub of_objects : (limit : ℕ) (rule : FileParts → Reply → Type 0) (input : List ℕ) (reply : Reply) (text : List ℕ)
    (n : ℕ) → Then (IsTooLong limit input) (IsWhole limit input) (on_objects rule) reply → IsWritten reply Done text n
    → (F : FileParts) × IsTextOfFile input F × rule F (told text n)
of_objects limit rule input reply text n is w =
    went (IsTextFault input) (IsTextOfFile input) rule (told text n)
    (of_input limit (on_objects rule) input reply text n is w).1 tt
