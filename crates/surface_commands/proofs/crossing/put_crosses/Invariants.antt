use Rattle.std.proofs.Common.{◌≡◌, ◌+◌, ◌++◌, drop}
use Rattle.surface_commands.specs.Crossings.{cross_lines}
use Rattle.surface_commands.proofs.crossing.put_crosses.Given as goal

abbrev pub invariant-loop-place : goal.invariant-loop-place
invariant-loop-place l = l.out.items ++ cross_lines (l.first + l.place) (drop l.place l.counts) ≡ l.fn.out.items
    ++ cross_lines l.first l.counts
