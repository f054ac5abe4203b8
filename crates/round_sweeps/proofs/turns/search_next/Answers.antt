use Rattle.std.proofs.Common.{◌≡◌, ℕ, ◌+◌, ◌-◌, ◌*◌, drop, ◌++◌, arith, w64}
use Rattle.std.proofs.lemmas.Int.{to_z-of_z}
use Rattle.round_sweeps.proofs.BackLaws.{back_ways, way_joined}
use Rattle.round_sweeps.proofs.OfColumnLaws.{column_length, column_in_range}
use Rattle.round_sweeps.proofs.turns.search_next.Goals as goal

pub search_column-requires-clause-range : goal.search_column-requires-clause-range
search_column-requires-clause-range g c =
    let m : ℕ = c.args.rows in
    let d : c.args.col * m + m - c.args.col * m ≡ m = omega arith in
    rw (d, to_z-of_z w64 c.args.limit c.ranges.limit, to_z-of_z w64 c.args.round c.ranges.round)
    (column_in_range m c.args.col m c.args.round c.args.table.now c.args.start c.args.limit c.requires.search
    (omega (arith, c.requires.search.start)))

pub returns-clause-column : goal.returns-clause-column
returns-clause-column g c =
    let m : ℕ = c.args.rows in
    let at : ℕ = c.args.col * m in
    let front = c.split_at_mut-rest.result.0.now in
    let column = c.search_column.new.ways in
    let d : at + m - at ≡ m = omega arith in
    let len = column_length m c.args.col c.args.table.now c.requires.search.table_fits.room in
    back_ways m c.args.limit _ _ _ c.args.sums.now c.search_column.new.sums column
    (drop (c.args.col * (m + 1)) (front ++ (column ++ c.split_at_mut-column.result.1.now)))
    (way_joined (c.args.col * (m + 1)) m front column c.split_at_mut-column.result.1.now
    c.split_at_mut-rest.ensures.front_len
    (omega (arith, c.search_column.auto.ways, c.split_at_mut-column.ensures.front_len)))
    (rw (d, len, to_z-of_z w64 c.args.limit c.ranges.limit, to_z-of_z w64 c.args.round c.ranges.round)
    at c.search_column.ensures.column)
