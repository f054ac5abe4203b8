use Rattle.std.proofs.Common.{◌≡◌, ◌≤◌, length, map}
use Rattle.section_pairs.specs.Rings.{first_vertex}
use Rattle.section_pairs.specs.Pairs.{pair_parts}
use Rattle.section_pairs.specs.Ranges.{IsGapResult}
use Rattle.section_pairs.specs.Unchanged.{BeginAt}
use Rattle.section_pairs.proofs.kept_pairs.all_gap_pairs.Given as goal

abbrev pub invariant-loop-gap : goal.invariant-loop-gap
invariant-loop-gap l = record {
  begin : l.begin ≤ length l.old_pairs;
  known : BeginAt l.old (map pair_parts l.old_pairs) l.gap l.begin;
  from : l.low.from ≡ first_vertex l.old l.gap;
  to : l.low.to ≡ first_vertex l.sections l.gap;
  found : IsGapResult l.sections 0 l.gap l.found;
}
