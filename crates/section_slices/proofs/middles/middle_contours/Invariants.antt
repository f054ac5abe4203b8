use Rattle.std.proofs.Common.{◌≡◌, map, filter, All}
use Rattle.std.specs.List.{range_with_len}
use Rattle.section_core.specs.Flat.{IsAtHeight}
use Rattle.section_core.specs.Views.{contour_parts}
use Rattle.section_pairs.specs.Pairs.{pair_parts}
use Rattle.section_slices.specs.Densified.{middle_contour, is_in, pair_at}
use Rattle.section_slices.specs.Marks.{outlines_of}
use Rattle.section_slices.proofs.middles.middle_contours.Given as goal

abbrev pub invariant-loop-place : goal.invariant-loop-place
invariant-loop-place l = record {
  parts : map contour_parts l.contours.items
      ≡ map (middle_contour (outlines_of l.outlines))
      (filter (λ k. is_in l.gap (pair_at (map pair_parts l.pairs) k)) (range_with_len 0 l.place));
  level : All (IsAtHeight l.z) l.contours.items;
}
