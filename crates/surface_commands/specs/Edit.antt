-- `edit`: the answers to a list of edits, and the surface of the edited sections.
use Rattle.std.specs.Prelude.{ℕ, ◌+◌, ◌≡◌, ◌≤◌, List, [], ◌∷◌, ◌++◌, length, drop, sum_by, codes, decimal, Option, None, Some, unwrap_or, Result, Ok, Err}
use Rattle.std.specs.List.{AllZip}
use Rattle.text_io.specs.WordLists.{Line, Kept, lines_of, first_number}
use Rattle.fku_types.specs.declared.limits.TheConstants.{MAX_EDITS}
use Rattle.fku_types.specs.declared.fault.Fault.{Fault}
use Rattle.fku_types.specs.declared.fault.Fault.TheVariants.{Limit}
use Rattle.fku_types.specs.declared.fault.LimitName.TheVariants.{Edits}
use Rattle.section_core.specs.Parts.{Parts, FileParts}
use Rattle.triangle_meshes.specs.Meshes.{Surface, surface_of}
use Rattle.section_pairs.specs.SectionFaults.{ArePairs}
use Rattle.section_pairs.specs.Pairs.{PairParts}
use Rattle.surface_core.specs.declared.surfaces.Built.{Built}
use Rattle.section_edits.specs.declared.edit.Edit.{Edit}
use Rattle.section_edits.specs.declared.edit.EditFault.{EditFault}
use Rattle.section_edits.specs.declared.edit.EditFault.TheVariants.{EditForm}
use Rattle.section_edits.specs.declared.session.Done.{Done}
use Rattle.section_edits.specs.Lines.{ReadsAsEdit, IsNoEdit}
use Rattle.section_edits.specs.Edits.{IsEdited, IsRefused, AreApplied}
use Rattle.section_edits.specs.Sessions.{CountsNew}
use Rattle.section_edits.specs.Words.{edit_fault_words}
use Rattle.command_replies.specs.Reply.{Reply, Then, NoFault, Tells, refusal_text}
use Rattle.command_replies.specs.Stages.{on_only, on_pairs_of, on_surface_of}

-- the fault of too many lines, at the 1,001st kept line; up to 1,000 lines are taken
abbrev pub IsTooMany : List Kept → Fault → Type 0
IsTooMany tail fault = (n : ℕ) × (first_number (drop MAX_EDITS tail) ≡ Some n) × (fault ≡ Limit Edits n)

abbrev pub AreFew : List Kept → List Line → Type 0
AreFew tail lines = (length tail ≤ MAX_EDITS) × (lines ≡ lines_of tail)

-- what a line stands for: an edit, or none
abbrev pub StandsFor : Line → Option Edit → Type 0
StandsFor line (Some e) = ReadsAsEdit line e
StandsFor line None = IsNoEdit line

-- the edits among these
abbrev pub edits_in : List (Option Edit) → List Edit
edits_in [] = []
edits_in (None ∷ more) = edits_in more
edits_in (Some e ∷ more) = e ∷ edits_in more

-- the answer to a line: the edit is applied, with the count of new pairs, or it is refused
abbrev pub LineAnswer : Type 0
LineAnswer = Result Done EditFault

-- how many of the pairs of T are new, since S has none with their points and cost rule, and how many are not
pub record IsPairCount (S T : Parts) (done : Done) : Type 0 where
  pub before : List PairParts
  pub pairs_before : ArePairs S before
  pub after : List PairParts
  pub pairs_after : ArePairs T after
  pub counts : CountsNew before after done

-- the answer for what a line stands for; the sections are S before and T after: an edit is applied, or it is refused
-- and the sections stay
abbrev pub IsLineAnswer : Parts → Option Edit → LineAnswer → Parts → Type 0
IsLineAnswer S (Some e) (Ok done) T = IsEdited S e T × IsPairCount S T done
IsLineAnswer S (Some e) (Err fault) T = IsRefused S e fault × (T ≡ S)
IsLineAnswer S None (Ok done) T = ⊥
IsLineAnswer S None (Err fault) T = (fault ≡ EditForm) × (T ≡ S)

-- each is answered, on the sections after those before it; the last sections are U
abbrev pub AreAnswers : Parts → List (Option Edit) → List LineAnswer → Parts → Type 0
AreAnswers S [] [] U = U ≡ S
AreAnswers S [] (a ∷ answers) U = ⊥
AreAnswers S (e ∷ es) [] U = ⊥
AreAnswers S (e ∷ es) (a ∷ answers) U = (T : Parts) × IsLineAnswer S e a T × AreAnswers T es answers U

-- what the lines stand for, the answers, and the edited sections
pub record Editing : Type 0 where
  pub edits : List (Option Edit)
  pub answers : List LineAnswer
  pub sections : Parts

-- The lines are read and answered one by one. The edited sections are what the whole list of edits makes of S.
pub record IsEditing (S : Parts) (lines : List Line) (x : Editing) : Type 0 where
  pub read : AllZip StandsFor lines x.edits
  pub answered : AreAnswers S x.edits x.answers x.sections
  pub applied : AreApplied S (edits_in x.edits) x.sections

-- the words of an answer, and its line
abbrev pub answer_words : LineAnswer → List ℕ
answer_words (Ok done) =
    codes "DONE solved " ++ (decimal done.solved ++ (codes " reused " ++ (decimal done.reused ++ codes "\n")))
answer_words (Err fault) = refusal_text (unwrap_or (edit_fault_words fault) [])

abbrev pub answer_text : ℕ → LineAnswer → List ℕ
answer_text k a = codes "EDIT " ++ (decimal k ++ (codes " " ++ answer_words a))

-- the lines of all answers, numbered from k on
abbrev pub answers_text : ℕ → List LineAnswer → List ℕ
answers_text k [] = []
answers_text k (a ∷ answers) = answer_text k a ++ answers_text (k + 1) answers

-- the whole text: the answers, how many they are, and the surface in a format
abbrev pub edits_text : (Surface → List ℕ) → List LineAnswer → Built → List ℕ
edits_text format answers b =
    answers_text 1 answers ++ (codes "EDITS "
    ++ (decimal (length answers) ++ (codes "\n" ++ format (surface_of b.mesh))))

-- how many new pairs an answer has
abbrev pub solved_for : LineAnswer → ℕ
solved_for (Ok done) = done.solved
solved_for (Err fault) = 0

-- the reply for a list of edits: the answers and the surface of the edited sections; some pairs were counted before
abbrev pub on_edits : (Surface → List ℕ) → Parts → ℕ → List Line → Reply → Type 0
on_edits format S solved lines =
    Then NoFault (IsEditing S lines)
    (λ x. on_surface_of x.sections (λ b. Tells (edits_text format x.answers b) (solved + sum_by solved_for x.answers)))

-- The reply for the sections of one object and the kept lines after them. All pairs of the sections are counted, and
-- then the new pairs of each edit.
abbrev pub edit_sections : (Surface → List ℕ) → List Kept → Parts → Reply → Type 0
edit_sections format tail S =
    on_pairs_of S (λ pairs. Then (IsTooMany tail) (AreFew tail) (on_edits format S (length pairs)))

-- the reply for objects with a tail: only a single object is edited
abbrev pub edit : (Surface → List ℕ) → FileParts → List Kept → Reply → Type 0
edit format F tail = on_only F (edit_sections format tail)
