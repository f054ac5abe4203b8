use Rattle.std.proofs.Common.{◌≡◌, ◌+◌, length, sum_by, flat_map, take, drop}
use Rattle.std.specs.List.{AllZip}
use Rattle.pair_pool.specs.Solvers.{SolvesEach}
use Rattle.surface_core.specs.Objects.{sections_in}
use Rattle.section_slices.specs.Slices.{IsCut, loop_count}
use Rattle.section_slices.proofs.ObjectSlices.{held}
use Rattle.section_slices.proofs.objects.cuts_of_each.Given as goal

abbrev pub invariant-loop-place : goal.invariant-loop-place
invariant-loop-place l = record {
  cuts : AllZip (IsCut l.z) (sections_in (take l.place l.items)) l.cuts.items;
  solved : SolvesEach (flat_map held (drop l.place l.each)) l.rest;
  count : sum_by loop_count l.cuts.items + length l.rest ≡ length l.solved;
}
