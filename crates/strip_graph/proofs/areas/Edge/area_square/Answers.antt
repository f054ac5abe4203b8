use Rattle.std.proofs.Common.{arith, ℕ, ℤ, ◌+◌, ◌-ℤ◌, ap, ◌∙◌, w64, to_z-of_z, SFits}
use Rattle.std.proofs.lemmas.Int.{ints}
use Rattle.fku_types.specs.Points.{square}
use Rattle.plane_geom.proofs.Signed.{passed_i64}
use Rattle.strip_graph.proofs.EdgeLaws.{passed_coordinate, same_cross}
use Rattle.strip_graph.proofs.areas.Edge.area_square.Goals as goal

pub returns-clause-value : goal.returns-clause-value
returns-clause-value c =
    let e = c.args.self in
    let q = c.args.across in
    let x = passed_i64 e.x (omega (arith, c.requires.x)) in
    let y = passed_i64 e.y (omega (arith, c.requires.y)) in
    let turn = passed_i64 e.turn c.requires.turn in
    let side = c.cross.ensures.value ∙ same_cross _ _ _ _ _ _ _ _ x y
    (passed_coordinate q.x c.from.result c.requires.across.x c.from.ensures)
    (passed_coordinate q.y c.from-2.result c.requires.across.y c.from-2.ensures) in
    let fits : SFits w64 (c.cross.result -ℤ e.turn) = omega (arith, ints, c.cross.ensures.range, c.requires.turn) in
    let small : SFits w64 c.cross.result = omega (arith, ints, c.cross.ensures.range) in
    let turns : SFits w64 e.turn = omega (arith, ints, c.requires.turn) in
    let is = simp to_z-of_z at c.square.ensures.value in
    ap (λ (s : ℕ). e.upright + s) (is ∙ ap (λ (s : ℤ). square (s -ℤ e.turn)) side)
