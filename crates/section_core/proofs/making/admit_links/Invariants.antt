use Rattle.std.proofs.Common.{take, drop, map}
use Rattle.std.specs.List.{AllByRecursion}
use Rattle.section_core.specs.Made.{link_piece, IsLinkNamed}
use Rattle.section_core.proofs.Walking.{Goes}
use Rattle.section_core.proofs.making.admit_links.Given as goal

abbrev pub invariant-loop-link : goal.invariant-loop-link
invariant-loop-link l = record {
  goes : Goes l.fn.tally (map link_piece l.links) l.tally (map link_piece (drop l.link-index l.links));
  named : AllByRecursion IsLinkNamed (take l.link-index l.links);
}
