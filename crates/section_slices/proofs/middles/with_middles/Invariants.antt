use Rattle.std.proofs.Common.{◌≡◌, map, flat_map, All}
use Rattle.std.specs.List.{range_with_len}
use Rattle.section_core.specs.Flat.{IsLevelSection}
use Rattle.section_core.specs.Views.{section_parts}
use Rattle.section_pairs.specs.Pairs.{pair_parts}
use Rattle.section_slices.specs.Densified.{section_and_middle}
use Rattle.section_slices.specs.Marks.{outlines_of}
use Rattle.section_slices.proofs.middles.with_middles.Given as goal

abbrev pub invariant-loop-gap : goal.invariant-loop-gap
invariant-loop-gap l = record {
  parts : map section_parts l.made.items
      ≡ flat_map (section_and_middle l.sections (map pair_parts l.pairs) (outlines_of l.outlines))
      (range_with_len 0 l.gap);
  level : All IsLevelSection l.made.items;
}
