use Rattle.std.proofs.Common.{◌≡◌, true, false, ltb, ltb-true, ltb-false, arith, rules}
use Rattle.std.specs.List.Sorted.{IsPartitionPoint}
use Rattle.std.proofs.lemmas.List.Sorted.{IsPartitionPoint-from_clause, IsPartitionedBy-ltb}
use Rattle.section_pairs.specs.declared.gap_pairs.GapPair.{GapPair}
use Rattle.surface_core.proofs.near_pairs.pairs_below.Goals as goal

found : (c : goal.After-partition_point)
    → IsPartitionPoint (λ (p : GapPair). ltb p.gap c.args.gap ≡ true) (λ (p : GapPair). ltb p.gap c.args.gap ≡ false)
    c.args.pairs.now c.partition_point.result
found c =
    IsPartitionPoint-from_clause (λ (p : GapPair). ltb p.gap c.args.gap) c.args.pairs.now c.partition_point.result
    c.partition_point.ensures.partitioned
    (IsPartitionedBy-ltb (λ (p : GapPair). p.gap) c.args.pairs.now c.args.gap c.requires.sorted)
    (λ a r q k. search rules)

pub returns-clause-below : goal.returns-clause-below
returns-clause-below c k d l = ltb-true _ _ ((found c).0 k d (omega arith) l)

pub returns-clause-others : goal.returns-clause-others
returns-clause-others c k d m l = ltb-false _ _ ((found c).1 k d m l)
