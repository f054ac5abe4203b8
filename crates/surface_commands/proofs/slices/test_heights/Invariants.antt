use Rattle.std.proofs.Common.{◌≡◌, true, false, take}
use Rattle.surface_core.specs.Objects.{sections_in}
use Rattle.surface_commands.proofs.SliceLemmas.{OnNone, OutsideAll}
use Rattle.surface_commands.proofs.slices.test_heights.Given as goal

abbrev pub invariant-loop-object : goal.invariant-loop-object
invariant-loop-object l = record {
  on_none : OnNone l.fn.z (sections_in (take l.object-index l.object-items));
  cut : l.is_cut ≡ true → OutsideAll l.fn.z (sections_in l.object-items) → ⊥;
  none : l.is_cut ≡ false → OutsideAll l.fn.z (sections_in (take l.object-index l.object-items));
}
