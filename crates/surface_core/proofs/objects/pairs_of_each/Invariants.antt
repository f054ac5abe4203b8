use Rattle.std.proofs.Common.{take, All}
use Rattle.std.specs.List.{AllZip}
use Rattle.strip_graph.specs.Strips.{IsStrip}
use Rattle.section_pairs.specs.SectionFaults.{ArePairs}
use Rattle.surface_core.specs.Objects.{sections_in, pair_lists, LieInGaps}
use Rattle.surface_core.proofs.objects.pairs_of_each.Given as goal

abbrev pub invariant-loop-object : goal.invariant-loop-object
invariant-loop-object g l = record {
  pairs : AllZip ArePairs (sections_in (take l.object-index l.items)) (pair_lists l.lists.items);
  strips : All (λ ps. All (λ p. IsStrip p.pair) ps.items) l.lists.items;
  gaps : AllZip LieInGaps (sections_in (take l.object-index l.items)) (pair_lists l.lists.items);
}
