use Rattle.std.proofs.Common.{◌≡◌, ◌+◌, ◌-◌, ◌*◌}
use Rattle.strip_graph.specs.Strips.{cols}
use Rattle.plain_tables.proofs.tables.table_to.Given as goal

abbrev pub invariant-loop-v : goal.invariant-loop-v
invariant-loop-v g l = l.steps ≡ l.fn.steps + (l.v * cols l.pair + (l.v - 1) * (cols l.pair + 1))
