use Rattle.std.proofs.Common.{arith, ap, ◌≡◌}
use Rattle.row_paths.proofs.Counting.{digits-half, digits-le, digits-none}
use Rattle.row_paths.specs.Counts.{digits}
use Rattle.row_paths.proofs.divisions.digit_count.Goals as goal

pub overflow_add-count : goal.overflow_add-count
overflow_add-count c = omega (
  arith,
  c.loop-rest.invariant,
  digits-half c.loop-rest.rest c.loop-rest-test.true,
  digits-le c.args.number,
)

pub loop-rest-preserved : goal.loop-rest-preserved
loop-rest-preserved c = omega (arith, c.loop-rest.invariant, digits-half c.loop-rest.rest c.loop-rest-test.true)

pub returns : goal.returns
returns c = let none : c.loop-rest.rest ≡ 0 = omega (arith, c.loop-rest-test.false) in
    omega (arith, c.loop-rest.invariant, ap digits none, digits-none)
