use Rattle.std.proofs.Common.{◌≡◌}
use Rattle.section_pairs.specs.Rings.{first_vertex}
use Rattle.section_pairs.proofs.rings.first_id.Given as goal

abbrev pub invariant-loop-below : goal.invariant-loop-below
invariant-loop-below l = l.first ≡ first_vertex l.sections l.below
