use Rattle.std.proofs.Common.{take}
use Rattle.surface_core.specs.Surfaces.{by_contour}
use Rattle.surface_core.specs.Objects.{sections_in, pair_lists}
use Rattle.surface_core.specs.Caps.{AreCapLists}
use Rattle.surface_core.proofs.objects.caps_of_each.Given as goal

abbrev pub invariant-loop-place : goal.invariant-loop-place
invariant-loop-place l = AreCapLists by_contour (sections_in (take l.place l.items)) (pair_lists (take l.place l.lists))
    l.each.items
