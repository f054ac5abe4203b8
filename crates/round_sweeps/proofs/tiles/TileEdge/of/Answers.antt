use Rattle.std.proofs.Common.{◌≡◌, ℤ, subst, arith, to_z, of_z, w32}
use Rattle.std.proofs.lemmas.Int.{ints}
use Rattle.plane_geom.proofs.Signed.{passed_i32, passed_i64}
use Rattle.strip_graph.specs.Edges.{IsEdge}
use Rattle.round_sweeps.proofs.TileLaws.{edge_counted}
use Rattle.round_sweeps.proofs.tiles.TileEdge.of.Goals as goal

pub returns : goal.returns
returns c =
    let e = c.of-edge.result in
    let z : to_z w32 (of_z w32 c.args.height) ≡ c.args.height = passed_i32 c.args.height c.requires.height in
    let h = subst (λ (k : ℤ). IsEdge e c.args.a c.args.b k) z c.of-edge.ensures in
    edge_counted e _ c.args.a c.args.b c.args.height h (omega (arith, ints, h.x)) (omega (arith, ints, h.y))
    (passed_i64 e.turn h.turn) c.counted_upright-upright.ensures.less c.counted_upright-upright.ensures.most
