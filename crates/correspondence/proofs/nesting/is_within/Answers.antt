use Rattle.correspondence.proofs.Beside.{beneath_all, above_all, told_outside}
use Rattle.correspondence.proofs.nesting.is_within.Goals as goal

pub returns-then-all_above-clause-inside : goal.returns-then-all_above-clause-inside
returns-then-all_above-clause-inside c =
    (told_outside c.args.p c.args.ring.now
    (beneath_all c.args.p c.args.ring.now (c.all_above.ensures c.if-all_above.true))).0

pub returns-then-all_above-clause-test : goal.returns-then-all_above-clause-test
returns-then-all_above-clause-test c =
    (told_outside c.args.p c.args.ring.now
    (beneath_all c.args.p c.args.ring.now (c.all_above.ensures c.if-all_above.true))).1

pub returns-then-none_above-clause-inside : goal.returns-then-none_above-clause-inside
returns-then-none_above-clause-inside c =
    (told_outside c.args.p c.args.ring.now
    (above_all c.args.p c.args.ring.now (c.none_above.ensures c.if-none_above.true))).0

pub returns-then-none_above-clause-test : goal.returns-then-none_above-clause-test
returns-then-none_above-clause-test c =
    (told_outside c.args.p c.args.ring.now
    (above_all c.args.p c.args.ring.now (c.none_above.ensures c.if-none_above.true))).1
