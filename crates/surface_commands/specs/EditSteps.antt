-- What the code of `edit` has done for some lines.
use Rattle.std.specs.Prelude.{ℕ, ◌≡◌, ◌+◌, ◌≤◌, List, ◌++◌, drop, length, sum_by, Option}
use Rattle.fku_types.specs.declared.limits.TheConstants.{MAX_CHECK_BYTES}
use Rattle.text_io.specs.Text.{kept_from, lines}
use Rattle.text_io.specs.WordLists.{Kept, Line}
use Rattle.section_core.specs.Parts.{Parts}
use Rattle.section_edits.specs.declared.edit.Edit.{Edit}
use Rattle.triangle_meshes.specs.Meshes.{Surface}
use Rattle.command_replies.specs.Reply.{counted}
use Rattle.surface_core.specs.declared.surfaces.Built.{Built}
use Rattle.command_replies.specs.Stages.{IsSurfaceOfOne}
use Rattle.surface_commands.specs.declared.editing.Tail.{Tail}
use Rattle.surface_commands.specs.Edit.{LineAnswer, Editing, IsLineAnswer, IsEditing, StandsFor, answer_text, answers_text, edits_text, solved_for}

-- a tail begins inside a text of so many bytes, and no more lines than bytes come before it
pub record IsTailOf (text : List ℕ) (tail : Tail) : Type 0 where
  pub within : tail.at ≤ length text
  pub passed : tail.passed ≤ tail.at
  pub few : length text ≤ MAX_CHECK_BYTES

-- its kept lines
abbrev pub kept_in : List ℕ → Tail → List Kept
kept_in text tail = kept_from (tail.passed + 1) (lines (drop tail.at text))

-- a line was answered, and a solver's count is that after its new pairs
abbrev pub IsApplied : Parts → Line → LineAnswer → Parts → ℕ → ℕ → Type 0
IsApplied S line a T before after =
    (e : Option Edit) × StandsFor line e × IsLineAnswer S e a T × (after ≡ counted (solved_for a) before)

-- and its answer was appended to a text, under its number
pub record HasAnswered (S : Parts) (line : Line) (number : ℕ) (old new : List ℕ) (T : Parts) (before after : ℕ) : Type 0
  where
    pub answer : LineAnswer
    pub applied : IsApplied S line answer T before after
    pub text : new ≡ old ++ answer_text number answer

-- so many lines were answered, and the answers were appended to a text
pub record HasEdited (S : Parts) (lines : List Line) (count : ℕ) (old new : List ℕ) (T : Parts)
    (before after : ℕ) : Type 0 where
  pub editing : Editing
  pub is_editing : IsEditing S lines editing
  pub text : new ≡ old ++ answers_text 1 editing.answers
  pub number : count ≡ length editing.answers
  pub sections : T ≡ editing.sections
  pub raised : after ≡ counted (sum_by solved_for editing.answers) before

-- a text has the answers to lines and the surface of the edited sections in a format
pub record IsTextOfEdits (format : Surface → List ℕ) (S : Parts) (lines : List Line) (new : List ℕ)
    (before after : ℕ) : Type 0 where
  pub editing : Editing
  pub is_editing : IsEditing S lines editing
  pub built : Built
  pub surface : IsSurfaceOfOne editing.sections built
  pub text : new ≡ edits_text format editing.answers built
  pub raised : after ≡ counted (sum_by solved_for editing.answers) before
