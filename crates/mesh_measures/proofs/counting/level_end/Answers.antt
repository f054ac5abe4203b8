use Rattle.std.proofs.Common.{rules, arith}
use Rattle.std.specs.Prelude.{int_le}
use Rattle.std.proofs.lemmas.List.Sorted.{IsPartitionPoint-from_clause}
use Rattle.mesh_measures.specs.declared.triangle_boxes.Boxed.{Boxed}
use Rattle.mesh_measures.specs.TriangleBoxes.{z_of}
use Rattle.mesh_measures.proofs.Layers.{parted_le}
use Rattle.fku_types.proofs.TruthLaws.{int_le_is}
use Rattle.mesh_measures.proofs.counting.level_end.Goals as goal

pub returns-clause-level : goal.returns-clause-level
returns-clause-level c =
    let xs = c.args.behind.now in
    let point = IsPartitionPoint-from_clause (λ (b : Boxed). int_le b.least.z c.args.z) xs c.partition_point.result
    c.partition_point.ensures.partitioned (parted_le z_of xs c.args.z c.requires) (λ a r q k. search rules) in
    λ k d l. int_le_is _ _ (point.0 k d (omega arith) l)
