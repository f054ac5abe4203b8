use Rattle.std.proofs.Common.{map, take}
use Rattle.section_pairs.specs.Pairs.{pair_parts}
use Rattle.surface_core.specs.Surfaces.{strips_in}
use Rattle.pair_pool.specs.Solvers.{referents}
use Rattle.section_edits.specs.Plans.{IsPlanOf}
use Rattle.section_edits.proofs.plans.planned.Given as goal

abbrev pub invariant-loop-pair : goal.invariant-loop-pair
invariant-loop-pair l = IsPlanOf (strips_in (map pair_parts l.kept))
    (strips_in (map pair_parts (take l.pair-index l.pairs))) l.origins.items (referents l.solving.items)
