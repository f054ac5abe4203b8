use Rattle.std.proofs.Common.{◌≡◌, ◌+◌, ◌-◌, ◌*◌, min}
use Rattle.plain_tables.proofs.tables.table_row.Given as goal

abbrev pub invariant-loop-h : goal.invariant-loop-h
invariant-loop-h g l = l.steps ≡ l.fn.steps + (l.h - 1 + l.h * min l.v 1)
