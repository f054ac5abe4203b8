use Rattle.std.proofs.Common.{◌≡◌, ◌+◌, ◌*◌}
use Rattle.strip_graph.specs.Strips.{rows, cols}
use Rattle.row_paths.specs.Counts.{table_readings}
use Rattle.plain_tables.proofs.tables.solve_plainly.Given as goal

abbrev pub invariant-loop-row : goal.invariant-loop-row
invariant-loop-row g l = l.steps ≡ l.fn.steps + l.row * table_readings (rows l.pair) (cols l.pair)
