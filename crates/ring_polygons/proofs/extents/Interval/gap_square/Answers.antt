use Rattle.std.proofs.Common.{arith, ap, ◌≤◌, ℤ, ◌-ℤ◌, unsigned_abs, mul-le-mul}
use Rattle.fku_types.specs.Points.{square}
use Rattle.plane_geom.proofs.Signed.{passed_i32, squared_i64, square_fits}
use Rattle.ring_polygons.proofs.extents.Interval.gap_square.Goals as goal

pub returns-clause-no_more : goal.returns-clause-no_more
unfolding square
returns-clause-no_more c w h =
    let passed = ap (λ (x : ℤ). unsigned_abs (x -ℤ w)) (passed_i32 c.args.v c.requires.coordinate) in
    let no_more : unsigned_abs c.gap-gap.result ≤ unsigned_abs (c.args.v -ℤ w) =
    omega (arith, passed, c.gap-gap.ensures.no_more w h) in
    omega (arith, squared_i64 c.gap-gap.result c.gap-gap.ensures.range, mul-le-mul no_more no_more)

pub returns-clause-range : goal.returns-clause-range
returns-clause-range c =
    let r = c.gap-gap.ensures.range in
    omega (arith, squared_i64 c.gap-gap.result r, mul-le-mul r r)

pub overflow_cast-result : goal.overflow_cast-result
overflow_cast-result c = square_fits c.gap-gap.result c.gap-gap.ensures.range
