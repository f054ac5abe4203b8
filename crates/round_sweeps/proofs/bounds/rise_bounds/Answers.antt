use Rattle.std.proofs.Common.{◌≡◌, ℕ, ◌<◌, ◌^◌, ◌+ℤ◌, ◌-ℤ◌, ◌≤ℤ◌, ℤ, pos, neg_ℤ, unsigned_abs, length, arith, to_z, of_z, w64}
use Rattle.std.proofs.lemmas.Int.{ints}
use Rattle.fku_types.proofs.ListLaws.{set_more}
use Rattle.round_sweeps.specs.Columns.{start_limit, value_limit, at_row, table_at}
use Rattle.round_sweeps.proofs.BoundLaws.{table_bounded}
use Rattle.round_sweeps.proofs.ColumnLaws.{zeroth}
use Rattle.round_sweeps.proofs.bounds.rise_bounds.Goals as goal
use Rattle.round_sweeps.proofs.bounds.rise_bounds.Goals.{In-loop-row}

-- the numbers at the start and at the end of a row's turn
ends : (c : In-loop-row)
    → (neg_ℤ start_limit ≤ℤ at_row c.args.table.now c.loop-row.row)
    × (at_row c.args.table.now c.loop-row.row ≤ℤ value_limit)
    × (neg_ℤ start_limit ≤ℤ table_at c.args.rows c.args.table.now c.loop-row.row c.args.cols)
    × (table_at c.args.rows c.args.table.now c.loop-row.row c.args.cols ≤ℤ value_limit)
ends c =
    let m : ℕ = c.args.rows in
    let row : ℕ = c.loop-row.row in
    let lt : row < m = omega (arith, c.loop-row-test.true) in
    let inside = c.requires.table.inside in
    let last = table_bounded m c.args.cols c.args.table.now inside row c.args.cols lt (omega arith) in
    let first = table_bounded m c.args.cols c.args.table.now inside row 0 lt (omega arith) in
    let e = zeroth m c.args.table.now row in
    (omega (arith, ints, e, first.0), omega (arith, ints, e, first.1), last.0, last.1)

pub overflow_sub-bounds : goal.overflow_sub-bounds
overflow_sub-bounds c = let e = ends (goal.at.overflow_sub-bounds c).In-loop-row in
    omega (arith, ints, e.0, e.1, e.2, e.3)

pub overflow_add-bounds-in-loop-row : goal.overflow_add-bounds-in-loop-row
overflow_add-bounds-in-loop-row c =
    let e = ends (goal.at.overflow_add-bounds-in-loop-row c).In-loop-row in
    omega (arith, ints, e.0, e.1, e.2, e.3, c.requires.table.round_least, c.requires.table.round_most)

pub loop-row-preserved : goal.loop-row-preserved
loop-row-preserved c =
    let m : ℕ = c.args.rows in
    let n : ℕ = c.args.cols in
    let row : ℕ = c.loop-row.row in
    let here : row < length c.loop-row.bounds =
    omega (arith, c.loop-row-test.true, c.loop-row.auto.bounds, c.requires.bounds_rows) in
    let e = ends (goal.at.loop-row-preserved c).In-loop-row in
    let least = c.requires.table.round_least in
    let most = c.requires.table.round_most in
    record {
      are = set_more (λ (k : ℕ) (v : ℤ). v
          ≡ (table_at m c.args.table.now k n -ℤ table_at m c.args.table.now k 0) +ℤ to_z w64 (of_z w64 c.args.round))
          (pos 0) c.loop-row.bounds row _ here c.loop-row.invariant.are
          (omega (arith, ints, e.0, e.1, e.2, e.3, zeroth m c.args.table.now row, least, most));
      fit = set_more (λ (k : ℕ) (v : ℤ). unsigned_abs v < 2 ^ 63) (pos 0) c.loop-row.bounds row _ here
          c.loop-row.invariant.fit (omega (arith, ints, e.0, e.1, e.2, e.3, least, most));
    }
