-- The front of a text, and what follows it.
use Rattle.std.proofs.Common.{◌≡◌, inl, inr, ℕ, ◌+◌, List, [], ◌∷◌, drop, Some, refl, ap}
use Rattle.text_io.specs.Text.{lines, kept_from}
use Rattle.text_io.specs.WordLists.{Line, Kept, first_number}
use Rattle.fku_types.specs.declared.fault.Fault.{Fault}
use Rattle.fku_types.specs.declared.fault.Fault.TheVariants.{Form, NoMemory}
use Rattle.section_text.specs.Fronts.{IsObjectsFaultOf, IsObjectsFrontOf}
use Rattle.section_core.specs.Reading.{HasFileFault}
use Rattle.section_core.specs.declared.parts.Version.TheVariants.{Two}
use Rattle.text_io.specs.Text.{kept_lines}
use Rattle.std.proofs.Common.{Result, Vec}
use Rattle.std.specs.Global.{Global}
use Rattle.section_core.specs.Parts.{FileParts}
use Rattle.section_text.specs.declared.front.ObjectsFront.{ObjectsFront}
use Rattle.section_pairs.specs.SectionFaults.{OrNoMemory}
use Rattle.command_replies.specs.Reply.{Reply, Replies}
use Rattle.command_replies.specs.Stages.{IsFront, IsTextFault, on_front}
use Rattle.command_replies.proofs.ReplyLemmas.{went_on}

-- the front of a text reads as objects, and the rule goes on with its tail
pub with_front : (rule : FileParts → List Kept → Reply → Type 0) (bytes : List ℕ) (before after : ℕ)
    (r : Result (Vec ℕ Global) Fault) (f : ObjectsFront) → IsObjectsFrontOf bytes f
    → Replies (rule f.objects (kept_from (f.lines + 1) (lines (drop f.used bytes)))) before after r
    → Replies (on_front rule bytes) before after r
with_front rule bytes before after r f is h =
    went_on (HasFileFault Two (kept_lines bytes)) (IsFront bytes) (λ g. rule g.0 g.1) before after r
    (f.objects, kept_from (f.lines + 1) (lines (drop f.used bytes))) (is.front, is.filled) h

-- a front has its fault, or memory ran out
pub front_fault : (text : List ℕ) (f : Fault) → IsObjectsFaultOf text f
    → OrNoMemory (HasFileFault Two (kept_lines text)) f
front_fault text NoMemory h = inl refl
front_fault text f h = inr h

-- a kept line follows the front
pub has_tail : (text : List ℕ) (f : ObjectsFront) (n : ℕ) → IsObjectsFrontOf text f
    → first_number (kept_from (f.lines + 1) (lines (drop f.used text))) ≡ Some n → IsTextFault text (Form n)
has_tail text f n is first = inr (
  n,
  ((f.objects, kept_from (f.lines + 1) (lines (drop f.used text))), (is.front, is.filled), first),
  refl,
)

-- the first of some kept lines
pub first_of : (ks more : List Kept) (n : ℕ) (line : Line) → ks ≡ (n, line) ∷ more → first_number ks ≡ Some n
first_of ks more n line e = ap first_number e
