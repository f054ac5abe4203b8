use Rattle.std.proofs.Common.{◌≡◌, ℕ, ◌+◌, ◌-◌, ◌*◌, arith, w64}
use Rattle.std.proofs.lemmas.Int.{to_z-of_z}
use Rattle.round_sweeps.proofs.OfColumnLaws.{column_length, column_in_range}
use Rattle.round_sweeps.proofs.bands.band_next.Goals as goal

pub search_column-requires-clause-range : goal.search_column-requires-clause-range
search_column-requires-clause-range g c =
    let m : ℕ = c.args.rows in
    let d : c.args.col * m + m - c.args.col * m ≡ m = omega arith in
    rw (d, to_z-of_z w64 c.args.limit c.ranges.limit, to_z-of_z w64 c.args.round c.ranges.round)
    (column_in_range m c.args.col (2 * m - 1) c.args.round c.args.table.now c.args.start c.args.limit c.requires.search
    (omega (arith, c.requires.search.start)))

pub returns-clause-column : goal.returns-clause-column
returns-clause-column g c =
    let m : ℕ = c.args.rows in
    let d : c.args.col * m + m - c.args.col * m ≡ m = omega arith in
    rw (
      d,
      column_length m c.args.col c.args.table.now c.requires.search.table_fits.room,
      to_z-of_z w64 c.args.limit c.ranges.limit,
      to_z-of_z w64 c.args.round c.ranges.round,
    )
    at c.search_column.ensures.column
