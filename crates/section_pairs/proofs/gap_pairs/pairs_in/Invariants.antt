use Rattle.std.proofs.Common.{◌≡◌}
use Rattle.plane_geom.specs.RingViews.{ring_views}
use Rattle.section_pairs.specs.Rings.{first_vertex, rings_at, AreSectionRings}
use Rattle.section_pairs.specs.Ranges.{IsGapResult}
use Rattle.section_pairs.proofs.gap_pairs.pairs_in.Given as goal

abbrev pub invariant-loop-gap : goal.invariant-loop-gap
invariant-loop-gap l = record {
  first : l.first ≡ first_vertex l.sections l.gap;
  rings : ring_views l.low.items ≡ rings_at l.sections l.gap;
  limits : AreSectionRings l.low.items;
  found : IsGapResult l.sections l.begin l.gap l.found;
}
