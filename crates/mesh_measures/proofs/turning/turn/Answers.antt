use Rattle.std.proofs.Common.{◌∙◌, arith}
use Rattle.triangle_meshes.proofs.Sizes.{passed}
use Rattle.mesh_measures.specs.Turns.{turn}
use Rattle.mesh_measures.proofs.turning.turn.Goals as goal

pub returns-clause-value : goal.returns-clause-value
unfolding turn
returns-clause-value c = passed c.tetrahedron_volume.result (omega (arith, c.tetrahedron_volume.ensures.range))
    ∙ c.tetrahedron_volume.ensures.value
