use Rattle.std.proofs.Common.{rules, int_lt}
use Rattle.std.proofs.lemmas.List.Sorted.{IsPartitionPoint-from_clause}
use Rattle.mesh_measures.specs.declared.triangle_boxes.Boxed.{Boxed}
use Rattle.mesh_measures.specs.TriangleBoxes.{z_of}
use Rattle.mesh_measures.proofs.Layers.{parted_lt}
use Rattle.fku_types.proofs.TruthLaws.{int_lt_not}
use Rattle.mesh_measures.proofs.counting.low_end.Goals as goal

pub returns-clause-past : goal.returns-clause-past
returns-clause-past c =
    let xs = c.args.higher.now in
    let point = IsPartitionPoint-from_clause (λ (b : Boxed). int_lt b.least.z c.args.z) xs c.partition_point.result
    c.partition_point.ensures.partitioned (parted_lt z_of xs c.args.z c.requires) (λ a r q k. search rules) in
    λ k d from below. int_lt_not _ _ (point.1 k d from below)
