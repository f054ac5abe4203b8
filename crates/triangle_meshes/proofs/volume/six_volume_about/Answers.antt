use Rattle.std.proofs.Common.{rules, List, All, SFits, to_z-of_z, sym, ap₂, ◌∙◌, subst}
use mir.Syntax.{w128}
use Rattle.fku_types.specs.declared.points.Point.{Point}
use Rattle.plane_geom.specs.Rings.{IsClosed}
use Rattle.plane_geom.specs.Planes.{signed_sum}
use Rattle.triangle_meshes.specs.Meshes.{triangle_lists}
use Rattle.triangle_meshes.proofs.Parts.{Part}
use Rattle.triangle_meshes.specs.Volumes.{part_volume}
use Rattle.triangle_meshes.proofs.volume.six_volume_about.Goals as goal

pub returns-clause-anywhere : goal.returns-clause-anywhere
returns-clause-anywhere c =
    let vertices = c.deref.ensures.value in
    let parts = c.deref-2.ensures.value in
    let fits : SFits w128 c.mesh_volume.result = search rules in
    λ closed o.
    ap₂ (λ (vs : List Point) (ps : List Part). signed_sum (part_volume vs o) (triangle_lists ps)) (sym vertices)
    (sym parts)
    ∙ c.mesh_volume.ensures.anywhere (subst (λ (ps : List Part). All IsClosed (triangle_lists ps)) (sym parts) closed) o
    ∙ sym (to_z-of_z fits)
