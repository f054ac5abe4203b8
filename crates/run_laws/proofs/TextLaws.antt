-- A text has at most one reading as objects, or one fault: each is what the plain reader returns for its kept lines.
use Rattle.std.proofs.Common.{◌≡◌, inl, inr, ℕ, List, [], Option, None, Some, ap, ap₂, sym, ◌∙◌}
use Rattle.std.proofs.lemmas.Option.{none-some}
use Rattle.text_io.specs.Text.{kept_lines}
use Rattle.text_io.specs.WordLists.{Kept, first_number}
use Rattle.fku_types.specs.declared.fault.Fault.{Fault}
use Rattle.fku_types.specs.declared.fault.Fault.TheVariants.{Form, EndMissing, NoContours}
use Rattle.section_core.specs.declared.parts.Version.TheVariants.{Two}
use Rattle.section_core.specs.Parts.{FileParts}
use Rattle.section_core.specs.Reading.{fault_at, HasFileFault}
use Rattle.section_core.specs.Machine.{at_version}
use Rattle.section_core.specs.Reader.{AnswerOf, front_is, no_contours, at_fault, too_soon, read_file, HoldsFile}
use Rattle.section_core.specs.Texts.{IsTextOfFile}
use Rattle.section_core.proofs.SoFar.{some_is}
use Rattle.section_core.proofs.Only.{file_only}
use Rattle.command_replies.specs.Stages.{IsFront, HasTailAt, IsTextFault}

-- the plain reader's result for a text
abbrev answer_of : List ℕ → AnswerOf FileParts
answer_of text = read_file Two at_version (kept_lines text)

-- the fault of a front that a result leaves, whatever follows END
abbrev told : AnswerOf FileParts → Option Fault
told (front_is F tail) = None
told (no_contours F tail) = Some NoContours
told (at_fault breach n) = Some (fault_at breach n)
told too_soon = Some EndMissing

-- a result that holds has its fault
holds_told : (text : List ℕ) (answer : AnswerOf FileParts) → HoldsFile Two (kept_lines text) answer
    → told (answer_of text) ≡ told answer
holds_told text answer h = ap told (file_only Two (kept_lines text) answer h)

-- a fault of a front is that of the result
fault_told : (text : List ℕ) (fault : Fault) → HasFileFault Two (kept_lines text) fault
    → told (answer_of text) ≡ Some fault
fault_told text EndMissing h = holds_told text too_soon h
fault_told text NoContours h = holds_told text (no_contours h.0 h.1) (h.2, h.3)
fault_told text fault h = holds_told text (at_fault h.1 h.0) h.2 ∙ ap Some (sym h.3)

-- a front has one reading with one tail
pub one_front : (text : List ℕ) (f g : FileParts × List Kept) → IsFront text f → IsFront text g → f ≡ g
one_front text f g h k = front_parts f g
    (sym (file_only Two (kept_lines text) (front_is f.0 f.1) h) ∙ file_only Two (kept_lines text) (front_is g.0 g.1) k)
  where
    front_parts : (f g : FileParts × List Kept) → front_is f.0 f.1 ≡ front_is g.0 g.1 → f ≡ g
    front_parts f g e =
        let objects : f.0 ≡ g.0 = cc in
        let tails : f.1 ≡ g.1 = cc in
        ap₂ (λ (F : FileParts) (tail : List Kept). (F, tail)) objects tails

-- or one fault
pub front_or_fault : (text : List ℕ) (f : FileParts × List Kept) (fault : Fault) → IsFront text f
    → HasFileFault Two (kept_lines text) fault → ⊥
front_or_fault text f fault h k = none-some fault (sym (holds_told text (front_is f.0 f.1) h) ∙ fault_told text fault k)

pub one_front_fault : (text : List ℕ) (f g : Fault) → HasFileFault Two (kept_lines text) f
    → HasFileFault Two (kept_lines text) g → f ≡ g
one_front_fault text f g h k = some_is (sym (fault_told text f h) ∙ fault_told text g k)

-- a whole text is a front without a tail
pub one_reading : (text : List ℕ) (F G : FileParts) → IsTextOfFile text F → IsTextOfFile text G → F ≡ G
one_reading text F G h k = ap (λ (f : FileParts × List Kept). f.0) (one_front text (F, []) (G, []) h k)

no_tail : (text : List ℕ) (F : FileParts) (n : ℕ) → IsTextOfFile text F → HasTailAt text n → ⊥
no_tail text F n h k = none-some n
    (ap (λ (f : FileParts × List Kept). first_number f.1) (one_front text (F, []) k.0 h k.1) ∙ k.2)

pub read_or_refused : (text : List ℕ) (F : FileParts) (fault : Fault) → IsTextOfFile text F → IsTextFault text fault → ⊥
read_or_refused text F fault h (inl k) = front_or_fault text (F, []) fault h k
read_or_refused text F fault h (inr k) = no_tail text F k.0 h k.1

one_tail : (text : List ℕ) (m n : ℕ) → HasTailAt text m → HasTailAt text n → m ≡ n
one_tail text m n h k = some_is (sym h.2
    ∙ ap (λ (f : FileParts × List Kept). first_number f.1) (one_front text h.0 k.0 h.1 k.1) ∙ k.2)

pub one_text_fault : (text : List ℕ) (f g : Fault) → IsTextFault text f → IsTextFault text g → f ≡ g
one_text_fault text f g (inl h) (inl k) = one_front_fault text f g h k
one_text_fault text f g (inl h) (inr k) = absurd (front_or_fault text k.1.0 f k.1.1 h)
one_text_fault text f g (inr h) (inl k) = absurd (front_or_fault text h.1.0 g h.1.1 k)
one_text_fault text f g (inr h) (inr k) = h.2 ∙ ap (λ (n : ℕ). Form n) (one_tail text h.0 k.0 h.1 k.1) ∙ sym k.2
