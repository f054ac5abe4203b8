use Rattle.std.proofs.Common.{◌≡◌, arith, to_z, of_z, w64}
use Rattle.std.proofs.lemmas.Int.{ints}
use Rattle.plane_geom.proofs.Signed.{passed_i64}
use Rattle.round_sweeps.proofs.TileLaws.{area_read, counted_most}
use Rattle.round_sweeps.proofs.tiles.tile_area.Goals as goal

pub overflow_sub-cross : goal.overflow_sub-cross
overflow_sub-cross c =
    let k : to_z w64 (of_z w64 c.cross.result) ≡ c.cross.result = passed_i64 c.cross.result c.cross.ensures.range in
    let t : to_z w64 (of_z w64 c.args.edge.now.turn) ≡ c.args.edge.now.turn =
    passed_i64 c.args.edge.now.turn c.requires.edge.turn in
    rw (k, t) (omega (arith, ints, c.cross.ensures.range, c.requires.edge.turn))

pub side_of-side-requires : goal.side_of-side-requires
side_of-side-requires c = omega (arith, ints, c.cross.ensures.range, c.requires.edge.turn)

pub returns-clause-value : goal.returns-clause-value
returns-clause-value c = area_read c.args.edge.now c.args.end.now c.cross.result c.side_of-side.result c.requires.edge
    c.requires.x c.requires.y c.cross.ensures.range c.cross.ensures.value c.side_of-side.ensures.value

pub returns-clause-most : goal.returns-clause-most
returns-clause-most c = counted_most c.args.edge.now.upright c.side_of-side.result c.requires.edge.upright
    c.side_of-side.ensures.most

pub overflow_add-result : goal.overflow_add-result
overflow_add-result c = omega (
  arith,
  counted_most c.args.edge.now.upright c.side_of-side.result c.requires.edge.upright c.side_of-side.ensures.most,
)
