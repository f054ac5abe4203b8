use Rattle.std.proofs.Common.{◌-◌, ◌*◌, ◌<◌, ◌≤◌, ℕ, length, arith}
use Rattle.std.proofs.lemmas.Int.{ints}
use Rattle.round_sweeps.specs.Columns.{at_row}
use Rattle.round_sweeps.proofs.RoundLaws.{row_low, row_high, row_higher}
use Rattle.round_sweeps.proofs.searches.number_at.Goals as goal

pub returns-then-row-rows-clause-value : goal.returns-then-row-rows-clause-value
returns-then-row-rows-clause-value c =
    let m : ℕ = length c.args.known.now in
    let row : ℕ = c.args.row in
    let lt : row < m = omega (arith, c.if-row-rows.true) in
    omega (
      arith,
      ints,
      row_low m c.args.round (at_row c.args.known.now) row lt,
      c.requires.bounded.least row lt,
      c.requires.bounded.most row lt,
    )

pub returns-then-row-rows-2-clause-value : goal.returns-then-row-rows-2-clause-value
returns-then-row-rows-2-clause-value c =
    let m : ℕ = length c.args.known.now in
    let row : ℕ = c.args.row in
    let ge : m ≤ row = omega (arith, c.if-row-rows.false) in
    let less : row < 2 * m = omega (arith, c.if-row-rows-2.true) in
    let lt : row - m < m = omega (arith, ge, less) in
    omega (
      arith,
      ints,
      row_high m c.args.round (at_row c.args.known.now) row ge less,
      c.requires.bounded.least (row - m) lt,
      c.requires.bounded.most (row - m) lt,
      c.requires.round_least,
      c.requires.round_most,
    )

pub returns-else-row-rows-2-clause-value : goal.returns-else-row-rows-2-clause-value
returns-else-row-rows-2-clause-value c =
    let m : ℕ = length c.args.known.now in
    let row : ℕ = c.args.row in
    let ge : 2 * m ≤ row = omega (arith, c.if-row-rows-2.false) in
    let lt : row - 2 * m < m = omega (arith, ge, c.requires.row) in
    omega (
      arith,
      ints,
      row_higher m c.args.round (at_row c.args.known.now) row ge c.requires.row,
      c.requires.bounded.least (row - 2 * m) lt,
      c.requires.bounded.most (row - 2 * m) lt,
      c.requires.round_least,
      c.requires.round_most,
    )
