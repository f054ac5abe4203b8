use Rattle.std.proofs.Common.{arith, ◌≡◌, ◌≤◌, ap₂, ◌-ℤ◌, ℤ, unsigned_abs, to_z, of_z, w64}
use Rattle.std.proofs.lemmas.Int.{ints}
use Rattle.fku_types.specs.Points.{square}
use Rattle.plane_geom.proofs.Signed.{passed_i64}
use Rattle.round_sweeps.specs.Columns.{at_row}
use Rattle.round_sweeps.proofs.planes.SpanColumn.cost.Goals as goal

same : (x y : ℤ) → unsigned_abs x ≤ 999999 → unsigned_abs y ≤ 999999
    → square (to_z w64 (of_z w64 x) -ℤ to_z w64 (of_z w64 y)) ≡ square (x -ℤ y)
same x y h k = ap₂ (λ (a b : ℤ). square (a -ℤ b)) (passed_i64 x (omega (arith, h))) (passed_i64 y (omega (arith, k)))

pub returns-clause-value : goal.returns-clause-value
returns-clause-value c =
    let s = c.args.self.now in
    let x = same (at_row s.xs.now c.args.row) s.x (s.xs_fit c.args.row (omega (arith, c.requires))) s.x_fits in
    let y = same (at_row s.ys.now c.args.row) s.y (s.ys_fit c.args.row (omega (arith, c.requires, s.same))) s.y_fits in
    omega (
      arith,
      ints,
      c.square_gap.ensures.value,
      c.square_gap-2.ensures.value,
      c.square_gap.ensures.most,
      c.square_gap-2.ensures.most,
      x,
      y,
      s.rises,
      s.low,
    )
