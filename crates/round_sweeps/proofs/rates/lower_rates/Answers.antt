use Rattle.std.proofs.Common.{arith, ℕ, ◌<◌, length}
use Rattle.std.proofs.lemmas.Int.{ints}
use Rattle.round_sweeps.proofs.RateLaws.{lowered_more}
use Rattle.round_sweeps.proofs.rates.lower_rates.Goals as goal
use Rattle.round_sweeps.proofs.rates.lower_rates.Goals.{then-cost-rates, else-cost-rates}

pub loop-row-preserved : goal.loop-row-preserved
loop-row-preserved g c =
    let row : ℕ = c.loop-row.row in
    let h = c.loop-row.invariant.lowered in
    let lt : row < length c.args.rates.now = omega (arith, c.loop-row-test.true, c.loop-row.auto.rates) in
    let low = h.rates.least row (omega (arith, lt, h.count)) in
    let high = h.rates.most row (omega (arith, lt, h.count)) in
    record {
      lowered = elim c.if-cost-rates.branch [
        | then-cost-rates w ↦ rw w.rates-is
            (lowered_more c.args.rates.now c.loop-row.rates row _ h lt
            (omega (arith, ints, c.down-cost.ensures.value, c.down-cost.ensures.least, c.down-cost.ensures.most))
            (grind (
              arith,
              ints,
              low,
              high,
              c.down-cost.ensures.value,
              c.down-cost.ensures.least,
              c.down-cost.ensures.most,
              w.if-cost-rates.true,
            )))
        | else-cost-rates w ↦ rw w.rates-is h
      ];
    }
