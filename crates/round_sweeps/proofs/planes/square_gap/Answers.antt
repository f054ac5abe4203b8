use Rattle.std.proofs.Common.{arith, ◌≡◌, ◌∙◌, ap, pos, ◌-ℤ◌, ℤ, mul-le-mul, to_z-of_z}
use Rattle.std.proofs.lemmas.Int.{ints}
use Rattle.fku_types.specs.Points.{square}
use Rattle.round_sweeps.proofs.Squares.{small_squared}
use Rattle.round_sweeps.proofs.planes.square_gap.Goals as goal

pub returns-clause-value : goal.returns-clause-value
unfolding square
returns-clause-value c =
    let fa = c.ranges.a in let fb = c.ranges.b in
    let e : c.gap-gap.result ≡ c.args.a -ℤ c.args.b = simp to_z-of_z at c.gap-gap.ensures.value in
    small_squared c.gap-gap.result c.gap-gap.ensures.range ∙ ap (λ (x : ℤ). pos (square x)) e

pub returns-clause-most : goal.returns-clause-most
returns-clause-most c =
    let r = c.gap-gap.ensures.range in
    omega (arith, ints, small_squared c.gap-gap.result r, mul-le-mul r r)
