use Rattle.std.proofs.Common.{arith, ap₂, ◌≡◌, ℤ, ◌-ℤ◌, ◌≤◌, unsigned_abs, to_z, of_z, w32}
use Rattle.fku_types.specs.Points.{square}
use Rattle.plane_geom.specs.Lengths.{distance_square}
use Rattle.plane_geom.proofs.Signed.{passed_i32}
use Rattle.plane_geom.proofs.lengths.distance_square.Goals as goal

same : (x y : ℤ) → unsigned_abs x ≤ 999999 → unsigned_abs y ≤ 999999
    → square (to_z w32 (of_z w32 x) -ℤ to_z w32 (of_z w32 y)) ≡ square (x -ℤ y)
same x y h k = ap₂ (λ (a b : ℤ). square (a -ℤ b)) (passed_i32 x h) (passed_i32 y k)

pub returns-clause-value : goal.returns-clause-value
unfolding distance_square
returns-clause-value c =
    let a = c.requires.a in
    let b = c.requires.b in
    omega (
      arith,
      c.gap_square.ensures.value,
      c.gap_square-2.ensures.value,
      c.gap_square-3.ensures.value,
      same c.args.a.x c.args.b.x a.x b.x,
      same c.args.a.y c.args.b.y a.y b.y,
      same c.args.a.z c.args.b.z a.z b.z,
    )
