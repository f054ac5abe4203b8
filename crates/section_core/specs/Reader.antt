-- A plain reader: it takes one kept line after another, and stops at END or at the first fault.
use Rattle.std.specs.Prelude.{ℕ, true, false, List, [], ◌∷◌, Option, None, Some, Result, Ok, Err, ◌≡◌, if◌then◌else◌}
use Rattle.section_core.specs.declared.parts.Version.{Version}
use Rattle.section_core.specs.declared.parts.Version.TheVariants.{One}
use Rattle.section_core.specs.Parts.{Parts, ObjectParts, FileParts, contours_of}
use Rattle.section_core.specs.Laws.{Law, facts}
use Rattle.section_core.specs.Reading.{Breach, form, broken, HasBreach, HasFile, HasFront, HasContour, EndsTooSoon, is_filled}
use Rattle.text_io.specs.WordLists.{Line, Kept}
use Rattle.section_core.specs.Machine.{Item, State, item_of, advance, parts_of, at_version, ended}
use Rattle.section_core.specs.Steps.{first_broken}

-- what comes next, or the breach
abbrev pub checked : {S : Type 0} → Option Law → S → Result S Breach
checked None next = Ok next
checked (Some law) next = Err (broken law)

abbrev pub judged : {S : Type 0} → Option S → Option Law → Result S Breach
judged None law = Err form
judged (Some next) law = checked law next

abbrev pub take_item : Version → State → Option Item → Result State Breach
take_item latest state None = Err form
take_item latest state (Some item) = judged (advance latest state item) (first_broken (facts (parts_of state)) item)

-- the state after a line, or the breach
abbrev pub judge : Version → State → Line → Result State Breach
judge latest state line = take_item latest state (item_of line)

-- what the reader returns: parts and the lines after END, or what is wrong
pub data AnswerOf (P : Type 0) : Type 0 where
  front_is : P → List Kept → AnswerOf P
  no_contours : P → List Kept → AnswerOf P
  at_fault : Breach → ℕ → AnswerOf P
  too_soon : AnswerOf P

abbrev pub at_end : FileParts → List Kept → AnswerOf FileParts
at_end F tail = if is_filled F then front_is F tail else no_contours F tail

abbrev pub goes_on : Result State Breach → ℕ → List Kept → (State → AnswerOf FileParts) → AnswerOf FileParts
goes_on (Err breach) n tail more = at_fault breach n
goes_on (Ok (ended F)) n tail more = at_end F tail
goes_on (Ok next) n tail more = more next

-- what it returns from a state on
abbrev pub read_file : Version → State → List Kept → AnswerOf FileParts
read_file latest state [] = too_soon
read_file latest state (k ∷ kept) = goes_on (judge latest state k.1) k.0 kept (λ next. read_file latest next kept)

-- what the result means for the kept lines
abbrev pub HoldsFile : Version → List Kept → AnswerOf FileParts → Type 0
HoldsFile latest kept (front_is F tail) = HasFile latest kept F tail × (is_filled F ≡ true)
HoldsFile latest kept (no_contours F tail) = HasFile latest kept F tail × (is_filled F ≡ false)
HoldsFile latest kept (at_fault breach n) = HasBreach latest kept n breach
HoldsFile latest kept too_soon = EndsTooSoon latest kept

-- The same where only version 1 is read.
abbrev pub Answer : Type 0
Answer = AnswerOf Parts

-- the parts of the first object
abbrev pub first_object : List ObjectParts → FileParts → Parts
first_object [] F = record { cost = F.cost; rule = F.rule; sections = []; links = [] }
first_object (o ∷ more) F = record { cost = F.cost; rule = F.rule; sections = o.sections; links = o.links }

abbrev pub one_object : AnswerOf FileParts → Answer
one_object (front_is F tail) = front_is (first_object F.objects F) tail
one_object (no_contours F tail) = no_contours (first_object F.objects F) tail
one_object (at_fault breach n) = at_fault breach n
one_object too_soon = too_soon

abbrev pub read_from : State → List Kept → Answer
read_from state kept = one_object (read_file One state kept)

abbrev pub HoldsAnswer : List Kept → Answer → Type 0
HoldsAnswer kept (front_is S tail) = HasFront kept S tail × HasContour S
HoldsAnswer kept (no_contours S tail) = HasFront kept S tail × (contours_of S.sections ≡ [])
HoldsAnswer kept (at_fault breach n) = HasBreach One kept n breach
HoldsAnswer kept too_soon = EndsTooSoon One kept

-- for every list of kept lines, what the reader returns holds
abbrev pub ReaderIsRight : Type 0
ReaderIsRight = (latest : Version) (kept : List Kept) → HoldsFile latest kept (read_file latest at_version kept)

-- and nothing else does
abbrev pub ReaderIsOnly : Type 0
ReaderIsOnly = (latest : Version) (kept : List Kept) (answer : AnswerOf FileParts) → HoldsFile latest kept answer
    → read_file latest at_version kept ≡ answer
