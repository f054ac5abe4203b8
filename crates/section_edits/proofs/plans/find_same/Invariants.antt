use Rattle.std.proofs.Common.{◌≡◌, false, map, take}
use Rattle.std.specs.List.{list_any}
use Rattle.section_pairs.specs.Pairs.{pair_parts}
use Rattle.surface_core.specs.Surfaces.{strips_in}
use Rattle.section_edits.specs.Fresh.{is_same_strip}
use Rattle.section_edits.proofs.plans.find_same.Given as goal

abbrev pub invariant-loop-place : goal.invariant-loop-place
invariant-loop-place l = list_any (is_same_strip l.pair) (strips_in (map pair_parts (take l.place l.kept))) ≡ false
