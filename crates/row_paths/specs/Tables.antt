-- The least size of a search's table.
use Rattle.std.specs.Prelude.{◌≤◌, ◌+◌, ◌*◌, length}
use Rattle.strip_graph.specs.Strips.{Strip, rows, cols}
use Rattle.row_paths.specs.declared.tables.Table.{Table}

-- room for a sum for each column of a strip, a way for each place of its rows 0 to 2m - 1, and two costs for each of
-- these rows
pub record IsTableOf {C : Type 0} (p : Strip) (t : Table C) : Type 0 where
  pub sums : cols p + 1 ≤ length t.sums.items
  pub ways : 2 * rows p * (cols p + 1) ≤ length t.ways.items
  pub starts : 2 * rows p ≤ length t.starts.items
  pub ends : 2 * rows p ≤ length t.ends.items
