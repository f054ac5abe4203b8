use Rattle.std.proofs.Common.{◌≡◌, map, take}
use Rattle.section_core.specs.Views.{placed}
use Rattle.section_edits.proofs.changes.all_placed.Given as goal

abbrev pub invariant-loop-spot : goal.invariant-loop-spot
invariant-loop-spot l = l.points.items ≡ map (placed l.section.z) (take l.spot-index l.spots)
