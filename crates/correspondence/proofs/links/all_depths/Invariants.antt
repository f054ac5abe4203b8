use Rattle.std.proofs.Common.{◌≡◌, map, take}
use Rattle.correspondence.specs.Outlines.{held_depths}
use Rattle.correspondence.specs.Named.{lists_of}
use Rattle.correspondence.proofs.links.all_depths.Given as goal

abbrev pub invariant-loop-section : goal.invariant-loop-section
invariant-loop-section l = lists_of l.rows.items ≡ map held_depths (take l.section-index l.sections)
