use Rattle.std.proofs.Common.{refl, ap, length, arith}
use Rattle.std.proofs.lemmas.Int.{ints}
use Rattle.round_sweeps.proofs.PairLaws.{spans_read, rows_read, cols_read}
use Rattle.round_sweeps.proofs.spans.choose_level.Goals as goal

pub of-there-requires : goal.of-there-requires
of-there-requires c =
    let r = c.requires.rings in
    let s = c.strip_of-ahead.result in
    let e = c.strip_of-ahead.ensures in
    let lower = c.in_ok-lower.lower in
    let upper = c.in_ok-upper.upper in
    spans_read c.args.pair.now c.args.low.now c.args.high.now (length c.args.low.now) (length c.args.high.now) s.xs.now
    s.ys.now s.us.now s.vs.now lower.xs.items lower.ys.items upper.xs.items upper.ys.items s.rise
    c.rise_of-rise.result r.strip c.requires.rule r.low_level r.high_level r.low r.high refl refl
    c.in_ok-lower.ensures c.in_ok-upper.ensures e.xs e.ys e.us e.vs c.rise_of-rise.ensures.value
    (omega (arith, ints, e.rise, c.rise_of-rise.ensures.most, c.rise_of-rise.ensures.value))

pub choose_tiling-requires-clause-periodic : goal.choose_tiling-requires-clause-periodic
choose_tiling-requires-clause-periodic c =
    rows_read c.args.pair.now c.of-there.result.pair.now (length c.args.low.now) c.of-there.ensures.pair
    (ap length c.requires.rings.low)

pub choose_tiling-requires-clause-periodic_cols : goal.choose_tiling-requires-clause-periodic_cols
choose_tiling-requires-clause-periodic_cols c =
    cols_read c.args.pair.now c.of-there.result.pair.now (length c.args.high.now) c.of-there.ensures.pair
    (ap length c.requires.rings.high)
