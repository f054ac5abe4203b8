use Rattle.round_sweeps.specs.Planes.{ArePlanar}
use Rattle.round_sweeps.proofs.lines.line_of.Given as goal

abbrev pub invariant-loop-index : goal.invariant-loop-index
invariant-loop-index l = ArePlanar l.ring l.index l.xs.items l.ys.items
