use Rattle.std.proofs.Common.{◌≡◌, ◌-ℤ◌, pos, ap₂, arith, to_z, of_z, w32}
use Rattle.std.proofs.lemmas.Int.{ints}
use Rattle.fku_types.specs.Points.{square}
use Rattle.fku_types.specs.declared.points.Point.{Point}
use Rattle.plane_geom.proofs.Signed.{passed_i32}
use Rattle.round_sweeps.proofs.spans.rise_of.Goals as goal

pub returns-clause-value : goal.returns-clause-value
returns-clause-value c =
    let p = c.point_at-below.result in
    let q = c.point_at-above.result in
    let ep : to_z w32 (of_z w32 p.z) ≡ p.z = passed_i32 p.z c.point_at-below.ensures.range.z in
    let eq : to_z w32 (of_z w32 q.z) ≡ q.z = passed_i32 q.z c.point_at-above.ensures.range.z in
    let s : c.gap_square.result ≡ square (p.z -ℤ q.z) = rw (ep, eq) at c.gap_square.ensures.value in
    let d = ap₂ (λ (x y : Point). pos (square (x.z -ℤ y.z))) c.point_at-below.ensures.value
    c.point_at-above.ensures.value in
    omega (arith, ints, s, c.gap_square.ensures.range, d)
