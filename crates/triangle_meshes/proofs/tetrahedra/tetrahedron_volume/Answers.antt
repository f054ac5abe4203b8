use Rattle.std.proofs.Common.{◌∙◌, ap, arith}
use Rattle.fku_types.specs.declared.points.Point.{Point}
use Rattle.triangle_meshes.specs.Volumes.{seen_from, determinant}
use Rattle.triangle_meshes.specs.Vectors.{point_of}
use Rattle.triangle_meshes.proofs.Sizes.{passed}
use Rattle.triangle_meshes.proofs.tetrahedra.tetrahedron_volume.Goals as goal

pub returns-clause-value : goal.returns-clause-value
returns-clause-value c =
    let a = c.args.a in
    passed c.determinant.result (omega (arith, c.determinant.ensures.range))
    ∙ c.determinant.ensures.value
    ∙ ap (λ (p : Point). determinant p (point_of c.seen_from-2.result) (point_of c.seen_from-3.result))
    c.seen_from.ensures.value
    ∙ ap (λ (p : Point). determinant (seen_from a c.args.b) p (point_of c.seen_from-3.result))
    c.seen_from-2.ensures.value
    ∙ ap (λ (p : Point). determinant (seen_from a c.args.b) (seen_from a c.args.c) p) c.seen_from-3.ensures.value
