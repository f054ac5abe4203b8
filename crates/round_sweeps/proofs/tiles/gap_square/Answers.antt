use Rattle.std.proofs.Common.{◌≡◌, ℕ, ◌*◌, ◌≤◌, ◌-ℤ◌, unsigned_abs, ap, arith, mul-le-mul}
use Rattle.std.proofs.lemmas.Int.{ints}
use Rattle.fku_types.specs.Points.{square}
use Rattle.round_sweeps.proofs.tiles.gap_square.Goals as goal

pub returns-clause-value : goal.returns-clause-value
unfolding square
returns-clause-value c =
    let e : c.unsigned_abs-size.result ≡ unsigned_abs (c.args.one -ℤ c.args.other) =
    omega (arith, ints, c.unsigned_abs-size.ensures.value, c.requires.one, c.requires.other) in
    ap (λ (n : ℕ). n * n) e

pub returns-clause-most : goal.returns-clause-most
returns-clause-most c =
    let h : c.unsigned_abs-size.result ≤ 1999998 =
    omega (arith, ints, c.unsigned_abs-size.ensures.value, c.requires.one, c.requires.other) in
    omega (arith, mul-le-mul h h)
