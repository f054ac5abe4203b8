use Rattle.std.proofs.Common.{◌≡◌, ◌++◌, map, take}
use Rattle.std.specs.List.{flat_map}
use Rattle.section_core.specs.Views.{contour_parts}
use Rattle.pair_commands.specs.Tilings.{blank_and_name}
use Rattle.pair_commands.proofs.listing.put_names.Given as goal

abbrev pub invariant-loop-place : goal.invariant-loop-place
invariant-loop-place l = l.out.items ≡ l.fn.out.items
    ++ flat_map (blank_and_name (map contour_parts l.contours)) (take l.place-index l.places)
