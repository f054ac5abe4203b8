-- What is refused: a fault of the sections, or else a group that is too long.
use Rattle.std.proofs.Common.{List, inl, inr}
use Rattle.fku_types.specs.declared.fault.Fault.{Fault}
use Rattle.section_core.specs.Parts.{Parts}
use Rattle.section_pairs.specs.Pairs.{PairParts, IsShort}
use Rattle.section_pairs.specs.SectionFaults.{IsFound, IsFirstFault, OrNoMemory, ArePairs}
use Rattle.ring_caps.specs.RingSurfaces.{group_sizes, HasLongGroup, IsRingFound, IsRingFault}

pub found_told : (S : Parts) (fault : Fault) → OrNoMemory (IsFound S) fault → IsRingFault S fault
found_told S fault (inl m) = inl m
found_told S fault (inr h) = inr (IsRingFound.in_sections fault h)

pub groups_told : (S : Parts) (ps : List PairParts) (fault : Fault) → ArePairs S ps
    → OrNoMemory (IsFirstFault IsShort HasLongGroup (group_sizes S ps)) fault → IsRingFault S fault
groups_told S ps fault a (inl m) = inl m
groups_told S ps fault a (inr h) = inr (IsRingFound.in_groups fault ps a h)
