use Rattle.std.proofs.Common.{ℕ, ◌+◌, ◌-◌, ◌*◌, ◌<◌, length, arith}
use Rattle.std.proofs.lemmas.Int.{ints}
use Rattle.round_sweeps.proofs.BackLaws.{sums_more}
use Rattle.round_sweeps.proofs.bands.fill_ends.Goals as goal

pub loop-row-preserved : goal.loop-row-preserved
loop-row-preserved c =
    let m : ℕ = length c.args.last.now in
    let row : ℕ = c.loop-row.row in
    let lt : row < m = omega (arith, c.loop-row-test.true) in
    record {
      ends = sums_more (2 * m - 1) c.loop-row.ends (m + row) _ c.loop-row.invariant.ends (omega (arith, lt))
          (omega (arith, ints, c.lack_of.ensures.least, c.lack_of.ensures.most))
          (omega (arith, ints, c.lack_of.ensures.least, c.lack_of.ensures.most));
    }
