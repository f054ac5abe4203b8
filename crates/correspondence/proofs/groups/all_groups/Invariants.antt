use Rattle.std.proofs.Common.{◌≡◌, ℕ, ◌-◌, ◌*◌, ◌<◌, length, map, slice_index_or}
use Rattle.std.specs.Prelude.{min}
use Rattle.correspondence.specs.declared.groups.Group.{Group}
use Rattle.correspondence.specs.declared.groups.TheConstants.{GROUP}
use Rattle.correspondence.specs.Contours.{points_of}
use Rattle.correspondence.specs.Groups.{IsBoundedGroup}
use Rattle.correspondence.proofs.groups.all_groups.Given as goal

abbrev pub invariant-loop-begin : goal.invariant-loop-begin
invariant-loop-begin l = record {
  each : (k : ℕ) (d : Group) → k < length l.groups.items
      → IsBoundedGroup (map points_of l.contours) (slice_index_or l.groups.items k d);
  begin : (k : ℕ) (d : Group) → k < length l.groups.items → (slice_index_or l.groups.items k d).begin ≡ k * GROUP;
  reached : l.begin ≡ min (length l.contours) (length l.groups.items * GROUP);
}

abbrev pub decreases-loop-begin : goal.decreases-loop-begin
decreases-loop-begin l = length l.contours - l.begin
