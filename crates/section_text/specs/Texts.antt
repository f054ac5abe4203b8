-- What a parser of whole texts returns.
use Rattle.std.specs.Prelude.{ℕ, ◌≡◌, ◌⊎◌, List, [], ◌∷◌, Some, Result, Ok, Err}
use Rattle.text_io.specs.Text.{kept_lines}
use Rattle.fku_types.specs.declared.fault.Fault.{Fault}
use Rattle.fku_types.specs.declared.fault.Fault.TheVariants.{NoMemory, Form, NoContours, EndMissing}
use Rattle.section_core.specs.Parts.{Parts}
use Rattle.section_core.specs.Reading.{fault_at, HasFront, HasContour, HasFault}
use Rattle.text_io.specs.WordLists.{Kept, first_number}
use Rattle.section_core.specs.Reader.{Answer, front_is, no_contours, at_fault, too_soon}

-- The front of the text has no fault, and the first kept line after it has this number.
abbrev pub HasTail : List ℕ → ℕ → Type 0
HasTail text n = (S : Parts) × (tail : List Kept) × HasFront (kept_lines text) S tail × HasContour S
    × (first_number tail ≡ Some n)

-- The text has this fault; `NoMemory` is not a fault of a text.
abbrev pub IsTextFaultOf : List ℕ → Fault → Type 0
IsTextFaultOf text NoMemory = Unit {0}
IsTextFaultOf text (Form n) = HasFault (kept_lines text) (Form n) ⊎ HasTail text n
IsTextFaultOf text fault = HasFault (kept_lines text) fault

-- The parser of whole texts returns this where the definition leaves this result.
abbrev pub ParsesText : Answer → Result Parts Fault → Type 0
ParsesText (front_is S []) (Ok s) = s ≡ S
ParsesText (front_is S (k ∷ more)) (Ok s) = ⊥
ParsesText answer (Err NoMemory) = Unit {0}
ParsesText (front_is S []) (Err fault) = ⊥
ParsesText (front_is S (k ∷ more)) (Err fault) = fault ≡ Form k.0
ParsesText (no_contours S tail) (Ok s) = ⊥
ParsesText (no_contours S tail) (Err fault) = fault ≡ NoContours
ParsesText (at_fault breach n) (Ok s) = ⊥
ParsesText (at_fault breach n) (Err fault) = fault ≡ fault_at breach n
ParsesText too_soon (Ok s) = ⊥
ParsesText too_soon (Err fault) = fault ≡ EndMissing

-- The result has these parts, unless memory runs out.
abbrev pub ReadsBack : {P : Type 0} → P → Result P Fault → Type 0
ReadsBack S (Ok s) = s ≡ S
ReadsBack S (Err fault) = fault ≡ NoMemory
