-- Words and an input leave one status, one text and one count of pairs.
use Rattle.std.proofs.Common.{◌≡◌, ℕ, List, Option, None, Some, refl, sym, subst, ap, ◌∙◌}
use Rattle.std.specs.Option.{option_map}
use Rattle.std.proofs.lemmas.Option.{none-some}
use Rattle.fku_types.specs.Fault.{fault_words}
use Rattle.fku_types.specs.declared.fault.Fault.{Fault}
use Rattle.fku_types.specs.declared.fault.Fault.TheVariants.{NoMemory}
use Rattle.section_core.proofs.SoFar.{some_is}
use Rattle.surface_cli.specs.Commands.{input_limit, rule_of}
use Rattle.surface_cli.specs.Words.{meaning}
use Rattle.surface_cli.specs.Out.{IsOut, IsOutOf, Answers}
use Rattle.surface_cli.specs.declared.commands.Command.{Command}
use Rattle.surface_cli.specs.declared.words.Task.{Task}
use Rattle.command_replies.specs.declared.status.Status.{Status}
use Rattle.command_replies.specs.Reply.{Reply, told, refused, refused_after, IsWritten, refusal_text}
use Rattle.run_laws.specs.Laws.{command_of}
use Rattle.run_laws.proofs.ReplyLaws.{IsTelling, one_input}
use Rattle.run_laws.proofs.CommandLaws.{one_rule}

-- a fault with words is not `NoMemory`
has_words : (f : Fault) (line : List ℕ) → fault_words f ≡ Some line → f ≡ NoMemory → ⊥
has_words f line e n = let k = sym (ap fault_words n) ∙ e in cc

pub telling : (reply : Reply) (s : Status) (text : List ℕ) (n : ℕ) → IsWritten reply s text n → IsTelling reply
telling (told t m) s text n w = tt
telling (refused f) s text n w = has_words f w.1 w.2
telling (refused_after words solved) s text n w = tt

-- a reply is written in only one way
one_writing : (reply : Reply) (s t : Status) (a b : List ℕ) (m n : ℕ) → IsWritten reply s a m → IsWritten reply t b n
    → (s ≡ t) × (a ≡ b) × (m ≡ n)
one_writing (told text k) s t a b m n x y = (x.0 ∙ sym y.0, x.1 ∙ sym y.1, x.2 ∙ sym y.2)
one_writing (refused f) s t a b m n x y =
    let lines : Some x.1 ≡ Some y.1 = sym x.2 ∙ y.2 in
    let line : x.1 ≡ y.1 = cc in
    (x.0 ∙ sym y.0, x.3 ∙ ap refusal_text line ∙ sym y.3, x.4 ∙ sym y.4)
one_writing (refused_after words solved) s t a b m n x y = (x.0 ∙ sym y.0, x.1 ∙ sym y.1, x.2 ∙ sym y.2)

one_answer : (command : Command) (input : List ℕ) (s t : Status) (a b : List ℕ) (m n : ℕ) → Answers command input s a m
    → Answers command input t b n → (s ≡ t) × (a ≡ b) × (m ≡ n)
one_answer command input s t a b m n x y =
    let same = one_input (input_limit command) (rule_of command) input (one_rule command) x.0 y.0
    (telling x.0 s a m x.2) (telling y.0 t b n y.2) x.1 y.1 in
    one_writing y.0 s t a b m n (subst (λ (reply : Reply). IsWritten reply s a m) same x.2) y.2

-- words that ask for one command, with any numbers of workers
pub one_command : (words other : List (List ℕ)) (input : List ℕ) (s t : Status) (a b : List ℕ) (m n : ℕ)
    → command_of words ≡ command_of other → IsOut words input s a m → IsOut other input t b n → (s ≡ t) × (a ≡ b)
    × (m ≡ n)
one_command words other input s t a b m n same x y = go (meaning words) (meaning other) same x y
  where
    go : (o p : Option Task) → option_map (λ (task : Task). task.command) o
        ≡ option_map (λ (task : Task). task.command) p → IsOutOf o input s a m → IsOutOf p input t b n → (s ≡ t)
        × (a ≡ b) × (m ≡ n)
    go None None e x y = (x.0 ∙ sym y.0, x.1 ∙ sym y.1, x.2 ∙ sym y.2)
    go None (Some task) e x y = absurd (none-some task.command e)
    go (Some task) None e x y = absurd (none-some task.command (sym e))
    go (Some task) (Some also) e x y =
        one_answer task.command input s t a b m n x (subst (λ (c : Command). Answers c input t b n) (sym (some_is e)) y)

pub one_out : (words : List (List ℕ)) (input : List ℕ) (s t : Status) (a b : List ℕ) (m n : ℕ) → IsOut words input s a m
    → IsOut words input t b n → (s ≡ t) × (a ≡ b) × (m ≡ n)
one_out words input s t a b m n x y = one_command words words input s t a b m n refl x y
