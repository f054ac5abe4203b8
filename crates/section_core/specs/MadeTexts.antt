-- The texts of parts that a caller passes in, and that these texts have the same fault.
use Rattle.std.specs.Prelude.{◌≡◌, List}
use Rattle.std.specs.List.{AllZip}
use Rattle.fku_types.specs.declared.fault.Fault.{Fault}
use Rattle.fku_types.specs.declared.fault.Fault.TheVariants.{NoMemory, Form, Range, NameTwice, NotRising, Limit}
use Rattle.section_core.specs.declared.parts.Section.{Section}
use Rattle.section_core.specs.declared.parts.Link.{Link}
use Rattle.fku_types.specs.declared.rules.PairRule.{PairRule}
use Rattle.section_core.specs.Parts.{CostParts, IsParts, part_lines}
use Rattle.text_io.specs.WordLists.{Matches, Kept, lines_of}
use Rattle.section_core.specs.Reading.{HasFault}
use Rattle.section_core.specs.Flat.{AreFlat}
use Rattle.section_core.specs.Finished.{ended_parts}
use Rattle.section_core.specs.Made.{IsMakeFault}

-- the fault, with line 0 in place of its line
abbrev pub without_line : Fault → Fault
without_line (Form n) = Form 0
without_line (Range n) = Range 0
without_line (NameTwice n) = NameTwice 0
without_line (NotRising n) = NotRising 0
without_line (Limit limit n) = Limit limit 0
without_line fault = fault

-- The kept lines have a fault that is this one except for its line.
pub record HasFaultBut (kept : List Kept) (fault : Fault) : Type 0 where
  pub told : Fault
  pub has : HasFault kept told
  pub same : without_line told ≡ fault

-- For parts that can be written as lines, each point at the height of its section, every text of these lines has the
-- fault of the parts.
abbrev pub TextsTellPartsFault : Type 0
TextsTellPartsFault =
    (cost : CostParts) (rule : PairRule) (sections : List Section) (links : List Link) (fault : Fault)
    (kept : List Kept) →
    IsParts (ended_parts cost rule sections links) → AreFlat sections
    → AllZip Matches (lines_of kept) (part_lines (ended_parts cost rule sections links)) →
    IsMakeFault cost rule sections links fault → (fault ≡ NoMemory → ⊥) → HasFaultBut kept fault
