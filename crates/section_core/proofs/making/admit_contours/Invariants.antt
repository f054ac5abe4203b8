use Rattle.std.proofs.Common.{take, drop}
use Rattle.std.specs.List.{flat_map, AllByRecursion}
use Rattle.section_core.specs.Made.{contour_pieces, IsNamed}
use Rattle.section_core.proofs.Walking.{Goes}
use Rattle.section_core.proofs.making.admit_contours.Given as goal

abbrev pub invariant-loop-contour : goal.invariant-loop-contour
invariant-loop-contour l = record {
  goes : Goes l.fn.tally (flat_map (contour_pieces l.section.z) l.section.contours.items) l.tally
      (flat_map (contour_pieces l.section.z) (drop l.contour-index l.section.contours.items));
  named : AllByRecursion IsNamed (take l.contour-index l.section.contours.items);
}
