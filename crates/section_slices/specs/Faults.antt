-- Why sections are not densified.
use Rattle.std.specs.Prelude.{◌≡◌, List, map, Result, Ok, Err}
use Rattle.fku_types.specs.declared.fault.Fault.{Fault}
use Rattle.fku_types.specs.declared.fault.Fault.TheVariants as faults
use Rattle.fku_types.specs.declared.rules.PairRule.{PairRule}
use Rattle.section_core.specs.declared.parts.Section.{Section}
use Rattle.section_core.specs.declared.parts.Link.{Link}
use Rattle.section_core.specs.Parts.{CostParts, Parts}
use Rattle.section_core.specs.Flat.{AreFlat}
use Rattle.section_core.specs.ValidSections.{section_of}
use Rattle.section_core.specs.Finished.{ended_parts}
use Rattle.section_core.specs.Accepted.{IsAccepted}
use Rattle.section_core.specs.Made.{IsMakeFault}
use Rattle.section_pairs.specs.SectionFaults.{AreSound, IsFound}
use Rattle.section_slices.specs.declared.sections.DensifyFault.{DensifyFault}
use Rattle.section_slices.specs.declared.sections.DensifyFault.TheVariants.{Found, Mid, NoMemory}
use Rattle.section_slices.specs.Densified.{IsDensified}

-- parts that a caller passes in, each point at the height of its section, have this fault
pub record HaveMakeFault (T : Parts) (fault : Fault) : Type 0 where
  pub sections : List Section
  pub links : List Link
  pub parts : ended_parts T.cost T.rule sections links ≡ T
  pub flat : AreFlat sections
  pub has : IsMakeFault T.cost T.rule sections links fault

-- the densified sections have this fault: that of their parts; or, if these are accepted, the first that only whole
-- sections have
pub data IsMiddleFault (S : Parts) : Fault → Type 0 where
  in_parts : (T : Parts) (fault : Fault) → IsDensified S T → HaveMakeFault T fault → (fault ≡ faults.NoMemory → ⊥)
      → IsMiddleFault S fault
  in_sections : (T : Parts) (fault : Fault) → IsDensified S T → IsAccepted T → IsFound T fault → IsMiddleFault S fault

-- the reported fault: it is `NoMemory`, or the sections have it, or the densified ones have it
abbrev pub IsDensifyFault : Parts → DensifyFault → Type 0
IsDensifyFault S NoMemory = Unit {0}
IsDensifyFault S (Found fault) = IsFound S fault
IsDensifyFault S (Mid fault) = IsMiddleFault S fault

-- memory runs out only where the given contours and sections have no fault, since their tests take none
abbrev pub IsDensifyMemory : Parts → DensifyFault → Type 0
IsDensifyMemory S fault = fault ≡ NoMemory → AreSound (map section_of S.sections)

-- the fault that is reported for sections is not `NoMemory`
abbrev pub IsToldFault : DensifyFault → Type 0
IsToldFault NoMemory = Unit {0}
IsToldFault (Found fault) = fault ≡ faults.NoMemory → ⊥
IsToldFault (Mid fault) = fault ≡ faults.NoMemory → ⊥

-- it is a fault of the densified sections
abbrev pub IsMid : DensifyFault → Type 0
IsMid (Mid fault) = Unit {0}
IsMid fault = ⊥

-- this fault is the result, unless memory runs out
abbrev pub TellsDensifyFault : DensifyFault → Result Parts DensifyFault → Type 0
TellsDensifyFault NoMemory r = Unit {0}
TellsDensifyFault fault (Ok T) = ⊥
TellsDensifyFault fault (Err NoMemory) = Unit {0}
TellsDensifyFault fault (Err told) = told ≡ fault

-- why the pairs of sections are refused
abbrev pub IsFaultOfPairs : Parts → DensifyFault → Type 0
IsFaultOfPairs S NoMemory = Unit {0}
IsFaultOfPairs S (Found fault) = IsFound S fault
IsFaultOfPairs S (Mid fault) = ⊥

-- a fault of the densified sections, or `NoMemory`, as it is reported
abbrev pub middle_fault : Fault → DensifyFault
middle_fault faults.NoMemory = NoMemory
middle_fault fault = Mid fault

-- why sections that were made are refused
abbrev pub IsTestFault : Parts → DensifyFault → Type 0
IsTestFault T NoMemory = Unit {0}
IsTestFault T (Found fault) = ⊥
IsTestFault T (Mid fault) = IsFound T fault

-- why parts that a caller passes in are refused: their own fault; or, if they are accepted, that of the whole sections
pub data IsMadeFault (cost : CostParts) (rule : PairRule) (sections : List Section) (links : List Link) : Fault
    → Type 0 where
  of_parts : (fault : Fault) → IsMakeFault cost rule sections links fault → (fault ≡ faults.NoMemory → ⊥)
      → IsMadeFault cost rule sections links fault
  of_sections : (fault : Fault) → IsAccepted (ended_parts cost rule sections links)
      → IsFound (ended_parts cost rule sections links) fault → IsMadeFault cost rule sections links fault

abbrev pub IsRemakeFault : CostParts → PairRule → List Section → List Link → DensifyFault → Type 0
IsRemakeFault cost rule sections links NoMemory = Unit {0}
IsRemakeFault cost rule sections links (Found fault) = ⊥
IsRemakeFault cost rule sections links (Mid fault) = IsMadeFault cost rule sections links fault
