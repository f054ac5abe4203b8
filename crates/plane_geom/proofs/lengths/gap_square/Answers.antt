use Rattle.std.proofs.Common.{arith, ◌≡◌, ◌∙◌, ap, ◌-ℤ◌, mul-le-mul, to_z-of_z}
use Rattle.fku_types.specs.Points.{square}
use Rattle.plane_geom.proofs.Signed.{squared_i64, square_fits}
use Rattle.plane_geom.proofs.lengths.gap_square.Goals as goal

pub returns-clause-value : goal.returns-clause-value
unfolding square
returns-clause-value c =
    let fa = c.ranges.a in let fb = c.ranges.b in
    let e : c.difference-gap.result ≡ c.args.a -ℤ c.args.b = simp to_z-of_z at c.difference-gap.ensures.value in
    squared_i64 c.difference-gap.result c.difference-gap.ensures.range ∙ ap square e

pub returns-clause-range : goal.returns-clause-range
returns-clause-range c =
    let r = c.difference-gap.ensures.range in
    omega (arith, squared_i64 c.difference-gap.result r, mul-le-mul r r)

pub overflow_cast-result : goal.overflow_cast-result
overflow_cast-result c = square_fits c.difference-gap.result c.difference-gap.ensures.range
