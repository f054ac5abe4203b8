use Rattle.std.proofs.Common.{arith, ap, ℤ, ◌-ℤ◌}
use Rattle.fku_types.specs.Points.{square}
use Rattle.plane_geom.specs.Lengths.{distance_square}
use Rattle.plane_geom.proofs.Signed.{passed_i32}
use Rattle.ring_polygons.proofs.extents.Extent.square_from.Goals as goal

pub returns : goal.returns
unfolding distance_square
returns c q h =
    let x = ap (λ (v : ℤ). square (v -ℤ q.x)) (passed_i32 c.args.p.x c.requires.point.x) in
    let y = ap (λ (v : ℤ). square (v -ℤ q.y)) (passed_i32 c.args.p.y c.requires.point.y) in
    omega (arith, x, y, c.gap_square.ensures.no_more q.x h.x, c.gap_square-2.ensures.no_more q.y h.y)
