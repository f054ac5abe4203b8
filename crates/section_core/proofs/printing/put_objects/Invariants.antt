use Rattle.std.proofs.Common.{◌≡◌, ◌++◌, map, drop}
use Rattle.std.specs.List.{flat_map}
use Rattle.section_core.specs.Parts.{CostParts}
use Rattle.fku_types.specs.declared.rules.PairRule.{PairRule}
use Rattle.section_core.specs.Canonical.{object_text}
use Rattle.section_core.specs.Objects.{object_parts, AreUnder}
use Rattle.section_core.proofs.printing.put_objects.Given as goal

abbrev pub invariant-loop-object : goal.invariant-loop-object
invariant-loop-object l = (cost : CostParts) (rule : PairRule) → AreUnder cost rule l.objects
    → l.out.items ++ flat_map (object_text l.version rule) (map object_parts (drop l.object-index l.objects))
    ≡ l.fn.out.items ++ flat_map (object_text l.version rule) (map object_parts l.objects)
