use Rattle.std.proofs.Common.{arith, ℕ, ◌<◌, length}
use Rattle.std.proofs.lemmas.Int.{ints}
use Rattle.round_sweeps.proofs.RateLaws.{first_none, first_more, first_all}
use Rattle.round_sweeps.proofs.rates.first_rates.Goals as goal

pub loop-row-init : goal.loop-row-init
loop-row-init g c = record { first = first_none (g.C.ColumnCosts.downs c.args.column.now) c.args.rates.now }

pub loop-row-preserved : goal.loop-row-preserved
loop-row-preserved g c =
    let row : ℕ = c.loop-row.row in
    let lt : row < length c.loop-row.rates = omega (arith, c.loop-row-test.true, c.loop-row.auto.rates) in
    record {
      first = first_more row (g.C.ColumnCosts.downs c.args.column.now) c.loop-row.rates _ c.loop-row.invariant.first lt
          (omega (arith, ints, c.down.ensures.value, c.down.ensures.least, c.down.ensures.most))
          (omega (arith, ints, c.down.ensures.value, c.down.ensures.least, c.down.ensures.most))
          (omega (arith, ints, c.down.ensures.value, c.down.ensures.least, c.down.ensures.most));
    }

pub returns-clause-rates : goal.returns-clause-rates
returns-clause-rates g c = first_all c.loop-row.row (g.C.ColumnCosts.downs c.args.column.now) c.loop-row.rates
    c.loop-row.invariant.first (omega (arith, c.loop-row-test.false, c.loop-row.auto.rates))

pub returns-clause-are : goal.returns-clause-are
returns-clause-are g c = λ r lt. c.loop-row.invariant.first.are r (omega (arith, lt, c.loop-row-test.false))
