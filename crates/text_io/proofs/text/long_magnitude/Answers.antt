use Rattle.std.proofs.Common.{◌+◌, ◌-◌, ◌*◌, ◌<◌, drop, get_or, arith}
use Rattle.std.proofs.lemmas.Bool.Decides.{nat_tests}
use Rattle.fku_types.specs.declared.limits.TheConstants.{MAX_NUMBER}
use Rattle.text_io.specs.Text.{value_after}
use Rattle.text_io.proofs.NumberLemmas.{value_after-ge, value_after-more}
use Rattle.text_io.proofs.text.long_magnitude.Goals as goal

pub returns-then-value-gt-MAX_NUMBER : goal.returns-then-value-gt-MAX_NUMBER
returns-then-value-gt-MAX_NUMBER c =
    let ds = c.args.digits.now in
    let next = 10 * c.loop-b.value + (get_or ds c.loop-b.b-index 0 - 48) in
    let large : MAX_NUMBER < value_after 0 ds =
    omega (
      arith,
      c.loop-b.invariant.same,
      value_after-more c.loop-b.value ds c.loop-b.b-index c.loop-b-test.true,
      value_after-ge next (drop (c.loop-b.b-index + 1) ds),
    ) in
    grind (arith, nat_tests)
