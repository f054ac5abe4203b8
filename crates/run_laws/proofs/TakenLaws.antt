-- `reconstruct` takes the text that `densify` writes.
use Rattle.std.proofs.Common.{◌≡◌, ℕ, List, [], ◌∷◌, ◌++◌, Option, None, Some, refl, subst}
use Rattle.text_io.specs.Text.{kept_lines}
use Rattle.text_io.specs.WordLists.{Kept}
use Rattle.fku_types.specs.declared.limits.TheConstants.{MAX_INPUT_BYTES}
use Rattle.fku_types.specs.declared.fault.Fault.{Fault}
use Rattle.section_core.specs.declared.parts.Version.TheVariants.{One, Two}
use Rattle.section_core.specs.Parts.{Parts, FileParts, as_file}
use Rattle.section_core.specs.Reading.{HasFile}
use Rattle.section_core.specs.Texts.{IsTextOf, IsTextOfFile}
use Rattle.section_core.proofs.OneObject.{filled-to}
use Rattle.section_pairs.specs.SectionFaults.{ArePairs, IsFound}
use Rattle.surface_core.specs.Objects.{IsFoundIn}
use Rattle.surface_cli.specs.Words.{meaning}
use Rattle.surface_cli.specs.Out.{Answers, IsOut, IsOutOf}
use Rattle.surface_cli.specs.declared.commands.Command.{Command}
use Rattle.surface_cli.specs.declared.commands.Command.TheVariants.{Densify, Reconstruct}
use Rattle.surface_cli.specs.declared.words.Task.{Task}
use Rattle.command_replies.specs.declared.status.Status.{Status}
use Rattle.command_replies.specs.declared.status.Status.TheVariants.{Done}
use Rattle.command_replies.specs.Reply.{told}
use Rattle.command_replies.specs.Stages.{AreSeveral, IsOnly}
use Rattle.surface_commands.specs.Densify.{Densifies, IsDensifiedText, densify, densify_sections}
use Rattle.surface_cli.specs.Run.{IsToDensify}
use Rattle.surface_cli.specs.Headline.{AsksForSurface}
use Rattle.command_replies.proofs.ReplyLemmas.{went}
use Rattle.run_laws.specs.Laws.{IsValidInput, reconstruct_fits}
use Rattle.run_laws.proofs.DoneLaws.{of_objects}
use Rattle.run_laws.proofs.ValidLaws.{valid_done}

-- a reader of both versions reads a text of version 1
read_by_both : (kept : List Kept) (F : FileParts) (tail : List Kept) → HasFile One kept F tail → HasFile Two kept F tail
read_by_both kept F tail h = record
    { front = h.front; split = h.split; match = h.match; is_file = h.is_file; known = refl; lawful = h.lawful }

as_objects : (text : List ℕ) (T : Parts) → IsTextOf text T → IsTextOfFile text (as_file T)
as_objects text T h = (read_by_both (kept_lines text) (as_file T) [] h.0, filled-to T h.1)

-- the fault of one object is that of its sections
only_item : (S : Parts) (before : List Parts) (item : Parts) (after : List Parts) → S ∷ [] ≡ before ++ item ∷ after
    → item ≡ S
only_item S [] item after e = cc
only_item S (b ∷ []) item after e = absurd (cc)
only_item S (b ∷ c ∷ before) item after e = absurd (cc)

found_in_one : (T : Parts) (f : Fault) → IsFoundIn (as_file T) f → IsFound T f
found_in_one T f h = subst (λ (S : Parts). IsFound S f) (only_item T h.before h.item h.after h.split) h.has

-- what `densify` writes for an input
densified_text : (input text : List ℕ) (n : ℕ) → Answers Densify input Done text n → (S : Parts)
    × IsDensifiedText S text
densified_text input text n is =
    let objects = of_objects MAX_INPUT_BYTES densify input is.0 text n is.1 is.2 in
    let only = went (AreSeveral objects.0) (IsOnly objects.0) densify_sections (told text n) objects.2 tt in
    let pairs = went (IsFound only.0) (ArePairs only.0) (Densifies only.0) (told text n) only.2 tt in
    (only.0, pairs.2.0)

-- it is a valid input of `reconstruct`
valid : (S : Parts) (text : List ℕ) → IsDensifiedText S text → IsValidInput Reconstruct text
valid S text h = record {
  within = h.short;
  objects = as_file h.made;
  read = as_objects text h.made h.reads;
  faultless = λ f k. h.faultless f (found_in_one h.made f k);
  fits = reconstruct_fits;
}

text_for : (task : Task) (input text : List ℕ) (n : ℕ) → task.command ≡ Densify → Answers task.command input Done text n
    → (S : Parts) × IsDensifiedText S text
text_for task input text n e is = densified_text input text n
    (subst (λ (c : Command). Answers c input Done text n) e is)

text_of_task : (m : Option Task) (input text : List ℕ) (n : ℕ) → IsToDensify m → IsOutOf m input Done text n
    → (S : Parts) × IsDensifiedText S text
text_of_task None input text n to is = absurd to
text_of_task (Some task) input text n to is = text_for task input text n to is

pub takes_densified : (words other : List (List ℕ)) (input text shown : List ℕ) (status : Status) (m n : ℕ)
    → IsToDensify (meaning words) → IsOut words input Done text m → AsksForSurface other
    → IsOut other text status shown n → status ≡ Done
takes_densified words other input text shown status m n to is asks out =
    let made = text_of_task (meaning words) input text m to is in
    valid_done other text shown Reconstruct status n asks (valid made.0 text made.1) out
