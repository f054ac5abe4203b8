use Rattle.std.proofs.Common.{arith, ◌∙◌, ap, unsigned_abs}
use Rattle.plane_geom.proofs.Signed.{passed_i32, passed_i64}
use Rattle.strip_graph.proofs.EdgeLaws.{passed_difference, passed_coordinate, same_cross, same_across, edge_is}
use Rattle.strip_graph.proofs.areas.Edge.of.Goals as goal

pub returns : goal.returns
returns c =
    let a = c.args.a in
    let b = c.args.b in
    let x = passed_difference b.x a.x c.difference-x.result c.requires.b.x c.requires.a.x c.difference-x.ensures.value
    c.difference-x.ensures.range in
    let y = passed_difference b.y a.y c.difference-y.result c.requires.b.y c.requires.a.y c.difference-y.ensures.value
    c.difference-y.ensures.range in
    let turn = passed_i64 c.cross.result c.cross.ensures.range ∙ c.cross.ensures.value
    ∙ same_cross _ _ _ _ _ _ _ _ x y (passed_coordinate a.x c.from.result c.requires.a.x c.from.ensures)
    (passed_coordinate a.y c.from-2.result c.requires.a.y c.from-2.ensures) in
    let upright = c.area_square.ensures.value
    ∙ same_across a b _ _ _ a.x a.y c.args.height (passed_i32 a.x c.requires.a.x) (passed_i32 a.y c.requires.a.y)
    (passed_i32 c.args.height c.requires.height) in
    record {
      x = omega (
        arith,
        ap unsigned_abs (passed_i64 c.difference-x.result
            (omega (arith, c.difference-x.ensures.range))),
        c.difference-x.ensures.range,
      );
      y = omega (
        arith,
        ap unsigned_abs (passed_i64 c.difference-y.result
            (omega (arith, c.difference-y.ensures.range))),
        c.difference-y.ensures.range,
      );
      turn = omega (arith, ap unsigned_abs (passed_i64 c.cross.result c.cross.ensures.range), c.cross.ensures.range);
      upright = c.area_square.ensures.range;
      area = λ q f. edge_is a b q c.args.height _ _ _ _ c.requires.level x y turn upright f;
    }
