use Rattle.std.proofs.Common.{◌≡◌, ◌≤◌, take, length}
use Rattle.section_slices.specs.Roundings.{opened_loop}
use Rattle.section_slices.proofs.rounding.opened_count.Given as goal

abbrev pub invariant-loop-count : goal.invariant-loop-count
invariant-loop-count l = record {
  few : l.count ≤ length l.spots;
  same : opened_loop (take l.count l.spots) ≡ opened_loop l.spots;
}

abbrev pub decreases-loop-count : goal.decreases-loop-count
decreases-loop-count l = l.count
