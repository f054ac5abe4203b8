use Rattle.std.proofs.Common.{map, take}
use Rattle.std.specs.List.{AllZip}
use Rattle.surface_core.specs.Objects.{sections_in}
use Rattle.section_slices.specs.Slices.{AreStripsAt}
use Rattle.section_slices.proofs.ObjectSlices.{held}
use Rattle.section_slices.proofs.objects.strips_of_each.Given as goal

abbrev pub invariant-loop-place : goal.invariant-loop-place
invariant-loop-place l = AllZip (AreStripsAt l.z) (sections_in (take l.place l.items)) (map held l.each.items)
