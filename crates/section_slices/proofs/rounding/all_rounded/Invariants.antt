use Rattle.std.proofs.Common.{◌≡◌, All, map, take}
use Rattle.section_slices.specs.Roundings.{rounded_spot, IsRoundedInRange}
use Rattle.section_slices.proofs.rounding.all_rounded.Given as goal

abbrev pub invariant-loop-point : goal.invariant-loop-point
invariant-loop-point l = record {
  value : l.spots.items ≡ map (rounded_spot l.den) (take l.point-index l.points);
  range : All IsRoundedInRange l.spots.items;
}
