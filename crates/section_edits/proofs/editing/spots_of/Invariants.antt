use Rattle.std.proofs.Common.{◌≡◌, map, take}
use Rattle.section_core.specs.Views.{spot_of}
use Rattle.section_core.specs.Views.{spot_at}
use Rattle.section_edits.proofs.editing.spots_of.Given as goal

abbrev pub invariant-loop-point : goal.invariant-loop-point
invariant-loop-point l = map spot_at l.spots.items ≡ map spot_of (take l.point-index l.points)
