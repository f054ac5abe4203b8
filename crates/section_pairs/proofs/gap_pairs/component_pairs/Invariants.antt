use Rattle.std.proofs.Common.{◌≡◌, map, take, All}
use Rattle.std.specs.List.{flat_map}
use Rattle.plane_geom.specs.RingViews.{ring_views}
use Rattle.strip_graph.specs.Strips.{IsStrip}
use Rattle.correspondence.specs.Gaps.{members_of}
use Rattle.section_pairs.specs.Pairs.{pair_parts, pair_between, sides_between, IsShort}
use Rattle.section_pairs.proofs.gap_pairs.component_pairs.Given as goal

abbrev pub invariant-loop-component : goal.invariant-loop-component
invariant-loop-component l = record {
  pairs : map pair_parts l.pairs.items
      ≡ map (pair_between l.cost (ring_views l.low) (ring_views l.high) l.gap)
      (map members_of (take l.component-index l.components));
  strips : All (λ p. IsStrip p.pair) l.pairs.items;
  short : All IsShort (flat_map (sides_between (ring_views l.low) (ring_views l.high) l.gap)
      (map members_of (take l.component-index l.components)));
}
