use Rattle.std.proofs.Common.{◌≡◌, ◌++◌, drop}
use Rattle.pair_pool.specs.Solvers.{referents}
use Rattle.section_slices.specs.Slices.{loops_at}
use Rattle.section_slices.proofs.GapPairs.{points_of}
use Rattle.section_slices.proofs.slices.all_loops.Given as goal

abbrev pub invariant-loop-place : goal.invariant-loop-place
invariant-loop-place l = points_of l.loops.items
    ++ loops_at l.den l.part (drop l.place (referents l.pairs)) (drop l.place l.solved)
    ≡ loops_at l.den l.part (referents l.pairs) l.solved
