use Rattle.std.proofs.Common.{◌≡◌, map, take, All}
use Rattle.strip_graph.specs.Strips.{IsStrip}
use Rattle.section_pairs.specs.Pairs.{pair_parts}
use Rattle.section_pairs.specs.Unchanged.{moved_pair}
use Rattle.section_pairs.proofs.moved_pairs.moved_pairs.Given as goal

abbrev pub invariant-loop-pair : goal.invariant-loop-pair
invariant-loop-pair l = record {
  pairs : map pair_parts l.moved.items ≡ map (moved_pair l.low l.high) (map pair_parts (take l.pair-index l.pairs));
  strips : All (λ p. IsStrip p.pair) l.moved.items;
}
