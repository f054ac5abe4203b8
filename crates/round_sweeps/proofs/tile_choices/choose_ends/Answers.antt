use Rattle.std.proofs.Common.{length}
use Rattle.round_sweeps.specs.Tiles.{tile_arcs}
use Rattle.round_sweeps.proofs.CountedLaws.{choice_of}
use Rattle.round_sweeps.proofs.TileEndLaws.{ends_fit, ends_counted, tile_rows, tile_cols}
use Rattle.round_sweeps.proofs.tile_choices.choose_ends.Goals as goal

pub invariant_of-strip : goal.invariant_of-strip
invariant_of-strip g c = record {
  tiles =
      ends_fit c.args.pair.now c.args.lows.now c.args.highs.now c.args.rise _ c.requires.ends c.requires.rise
      c.requires.fit;
}

pub choose_tiling-requires-clause-periodic : goal.choose_tiling-requires-clause-periodic
choose_tiling-requires-clause-periodic g c = tile_rows c.args.lows.now c.args.highs.now c.args.rise _

pub choose_tiling-requires-clause-periodic_cols : goal.choose_tiling-requires-clause-periodic_cols
choose_tiling-requires-clause-periodic_cols g c = tile_cols c.args.lows.now c.args.highs.now c.args.rise _

pub returns-in-Some : goal.returns-in-Some
returns-in-Some g c =
    let p = c.args.pair.now in
    let e = c.requires.ends in
    let t = c.in-Some.choice in
    let chosen = rw c.in-Some.is at c.in_ok-choice.ensures.chosen in
    let cost = rw c.in-Some.is at c.in_ok-choice.ensures.cost in
    choice_of p (tile_arcs c.args.lows.now c.args.highs.now c.args.rise (g.W.Weighing.weights c.args.weights))
    (length c.args.lows.now) (length c.args.highs.now) t.row t.word.items t.cost
    (ends_counted p c.args.lows.now c.args.highs.now c.args.rise _ e) e.low.count e.high.count chosen cost
