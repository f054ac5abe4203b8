use Rattle.std.proofs.Common.{◌<ℤ◌, All, take}
use Rattle.section_slices.proofs.slices.sections_below.Given as goal

abbrev pub invariant-loop-place : goal.invariant-loop-place
invariant-loop-place l = All (λ s. s.z <ℤ l.z) (take l.place l.sections)
