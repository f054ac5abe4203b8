use Rattle.std.proofs.Common.{◌≡◌, ◌∙◌, ℕ, ◌+◌, ◌-◌, ◌*◌, length, take, drop, replicate, sym, arith, w64}
use Rattle.std.proofs.lemmas.Int.{ints, to_z-of_z}
use Rattle.std.proofs.Math.Seq.{take-append_seam}
use Rattle.round_sweeps.specs.Columns.{AreRowsBounded}
use Rattle.round_sweeps.specs.Searches.{gone}
use Rattle.round_sweeps.proofs.OfColumnLaws.{column_length, bounded_take}
use Rattle.round_sweeps.proofs.BandLaws.{sums_none}
use Rattle.round_sweeps.proofs.bands.narrow_bounds.Given as given
use Rattle.round_sweeps.proofs.bands.narrow_bounds.Goals as goal
use Rattle.round_sweeps.proofs.bands.narrow_bounds.Goals.{Start}

-- the last column of the table is in range
bounded : (g : given.Over) (c : Start g)
    → AreRowsBounded
    (length (take (c.args.cols * c.args.rows + c.args.rows - c.args.cols * c.args.rows)
    (drop (c.args.cols * c.args.rows) c.args.table.now)))
    (take (c.args.cols * c.args.rows + c.args.rows - c.args.cols * c.args.rows)
    (drop (c.args.cols * c.args.rows) c.args.table.now))
bounded g c =
    let m : ℕ = c.args.rows in
    let n : ℕ = c.args.cols in
    let d : n * m + m - n * m ≡ m = omega arith in
    rw (d, column_length m n c.args.table.now c.requires.table.room)
    (bounded_take m (drop (n * m) c.args.table.now) (c.requires.table.inside n (omega arith)))

pub number_at-end-requires-clause-bounded : goal.number_at-end-requires-clause-bounded
number_at-end-requires-clause-bounded g c = bounded g (goal.at.number_at-end-requires-clause-bounded g c).Start

pub fill_ends-requires-clause-bounded : goal.fill_ends-requires-clause-bounded
fill_ends-requires-clause-bounded g c = bounded g (goal.at.fill_ends-requires-clause-bounded g c).Start

pub raise_bounds-requires-clause-search : goal.raise_bounds-requires-clause-search
raise_bounds-requires-clause-search g c =
    let b = c.in-Some.ensures in
    let q = c.requires in
    record {
      table_fits = rw (to_z-of_z w64 c.args.round c.ranges.round) q.table;
      start = c.ring_row-start.ensures.range;
      limit_least = omega (arith, ints, b.least, b.most, q.slack_least, q.slack_most);
      limit_most = omega (arith, ints, b.least, b.most, q.slack_least, q.slack_most);
    }

pub fill_ends-requires-clause-ends : goal.fill_ends-requires-clause-ends
fill_ends-requires-clause-ends g c =
    let m : ℕ = c.args.rows in
    let n : ℕ = c.args.cols in
    let d : n * m + m - n * m ≡ m = omega arith in
    let is : c.deref_mut.result.now ≡ replicate (2 * m) gone = c.deref_mut.ensures.value
    ∙ c.in_ok-ends.ensures.items_if_clones_equal (λ y e. e) in
    rw (d, column_length m n c.args.table.now c.requires.table.room, is)
    (sums_none (2 * m - 1) (2 * m) (omega (arith, c.requires.row)))

pub raise_bounds-requires-clause-ends : goal.raise_bounds-requires-clause-ends
raise_bounds-requires-clause-ends g c =
    let m : ℕ = c.args.rows in
    let n : ℕ = c.args.cols in
    let d : n * m + m - n * m ≡ m = omega arith in
    let len : c.in_ok-ends.ends.len ≡ length c.fill_ends.new.ends =
    sym (c.fill_ends.auto.ends ∙ c.deref_mut.ensures.len) in
    rw (c.deref.ensures.value, len, take-append_seam)
    (rw (d, column_length m n c.args.table.now c.requires.table.room) at c.fill_ends.ensures.ends)
