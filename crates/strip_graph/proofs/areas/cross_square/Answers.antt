use Rattle.std.proofs.Common.{arith, ap, ◌∙◌, to_z-of_z}
use Rattle.fku_types.specs.Points.{square}
use Rattle.plane_geom.proofs.Signed.{passed_i64}
use Rattle.strip_graph.proofs.Bounds.{square-le}
use Rattle.strip_graph.proofs.areas.cross_square.Goals as goal

pub returns-clause-value : goal.returns-clause-value
returns-clause-value c =
    let fa = c.ranges.a in let fb = c.ranges.b in let fc = c.ranges.c in let fd = c.ranges.d in
    let v = simp to_z-of_z at c.cross.ensures.value in
    c.square.ensures.value ∙ ap square (passed_i64 c.cross.result c.cross.ensures.range ∙ v)

pub returns-clause-range : goal.returns-clause-range
returns-clause-range c =
    omega (
      arith,
      c.square.ensures.value,
      ap square (passed_i64 c.cross.result c.cross.ensures.range),
      square-le c.cross.result 8000000000000 c.cross.ensures.range,
    )
