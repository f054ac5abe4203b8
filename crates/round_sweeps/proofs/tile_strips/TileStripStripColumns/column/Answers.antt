use Rattle.std.proofs.Common.{◌%◌, length, pos, refl, subst, sym}
use Rattle.round_sweeps.specs.declared.tiles.TileEnd.{TileEnd}
use Rattle.round_sweeps.specs.Columns.{AreColumnCosts}
use Rattle.round_sweeps.specs.Tiles.{tile_arcs, down_cost, right_cost}
use Rattle.round_sweeps.proofs.TileEndLaws.{tile_columns}
use Rattle.round_sweeps.proofs.tile_strips.TileStripStripColumns.column.Goals as goal

pub returns-clause-costs : goal.returns-clause-costs
returns-clause-costs g c =
    let s = c.args.self.now in
    let w = g.W.Weighing.weights s.weights in
    subst (λ (e : TileEnd). AreColumnCosts (tile_arcs s.lows.now s.highs.now s.rise w) (length s.lows.now) c.args.col
    (λ r. pos (down_cost s.lows.now e s.rise w r)) (λ r. pos (right_cost s.lows.now e s.rise w r)))
    (sym c.end_around.ensures.value)
    (tile_columns s.lows.now s.highs.now s.rise w c.args.col (c.args.col % length s.highs.now) s.tiles.some_rows refl)
