use Rattle.std.proofs.Common.{arith}
use Rattle.std.proofs.lemmas.List.{length-map}
use Rattle.pair_pool.proofs.jobs.jobs_in_order.Goals as goal

pub returns : goal.returns
returns c = record {
  count = omega (
    arith,
    c.loop-place.invariant.count,
    c.loop-place-test.false,
    c.loop-place.auto.place-end,
    length-map c.args.pairs.now (λ p. p.now),
  );
  each = c.loop-place.invariant.each;
}
