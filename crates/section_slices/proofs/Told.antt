-- Faults as they are reported.
use Rattle.std.proofs.Common.{◌≡◌, inl, inr, List, subst, Result, Ok, Err}
use Rattle.std.specs.Prelude.{IfErr}
use Rattle.fku_types.specs.declared.fault.Fault.{Fault}
use Rattle.fku_types.specs.declared.fault.Fault.TheVariants.{NoMemory}
use Rattle.fku_types.specs.declared.rules.PairRule.{PairRule}
use Rattle.section_core.specs.declared.parts.Section.{Section}
use Rattle.section_core.specs.declared.parts.Link.{Link}
use Rattle.section_core.specs.Parts.{CostParts, Parts}
use Rattle.section_core.specs.Accepted.{IsAccepted}
use Rattle.section_core.specs.Finished.{ended_parts}
use Rattle.section_core.specs.Made.{IsMakeFault}
use Rattle.section_pairs.specs.SectionFaults.{IsFound, in_contours, in_links, in_composites, HasSelfCrossing, HasCrossing, HasLongSide}
use Rattle.section_slices.specs.declared.sections.DensifyFault.{DensifyFault}
use Rattle.section_slices.specs.declared.sections.DensifyFault.TheVariants.{Mid}
use Rattle.section_slices.specs.Faults.{middle_fault, IsTestFault, IsRemakeFault, of_parts, of_sections}

-- `NoMemory` is not a fault of sections
pub not_memory : (S : Parts) (fault : Fault) → IsFound S fault → fault ≡ NoMemory → ⊥
not_memory S fault (in_contours f (inl h)) e = subst (HasSelfCrossing h.item) e h.has
not_memory S fault (in_contours f (inr h)) e = subst (HasCrossing h.first.item) e h.first.has
not_memory S fault (in_links below above cause k sound bad) e = absurd (cc)
not_memory S fault (in_composites f linked h) e = subst (HasLongSide h.first.item) e h.first.has

pub of_make : (cost : CostParts) (rule : PairRule) (sections : List Section) (links : List Link) (fault : Fault)
    → IsMakeFault cost rule sections links fault → IsRemakeFault cost rule sections links (middle_fault fault)
of_make cost rule sections links NoMemory k = tt
of_make cost rule sections links fault k = of_parts fault k (λ e. absurd (cc))

pub of_test : (cost : CostParts) (rule : PairRule) (sections : List Section) (links : List Link) (fault : DensifyFault)
    → IsAccepted (ended_parts cost rule sections links) → IsTestFault (ended_parts cost rule sections links) fault
    → IsRemakeFault cost rule sections links fault
of_test cost rule sections links (Mid fault) a k = of_sections fault a k
of_test cost rule sections links fault a k = k

-- the same for a result
pub retold : (made : Parts) (cost : CostParts) (rule : PairRule) (sections : List Section) (links : List Link)
    (r : Result Parts DensifyFault) → made ≡ ended_parts cost rule sections links
    → IsAccepted (ended_parts cost rule sections links) → IfErr r (IsTestFault made)
    → IfErr r (IsRemakeFault cost rule sections links)
retold made cost rule sections links (Ok v) e a k = tt
retold made cost rule sections links (Err fault) e a k =
    of_test cost rule sections links fault a (subst (λ (T : Parts). IsTestFault T fault) e k)
