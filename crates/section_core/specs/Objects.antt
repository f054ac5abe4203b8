-- What the type Objects holds: accepted parts, all under the rules of the text.
use Rattle.std.specs.Prelude.{◌≡◌, List, map}
use Rattle.std.specs.List.{AllByRecursion}
use Rattle.section_core.specs.Costs.{cost_parts}
use Rattle.fku_types.specs.declared.rules.PairRule.{PairRule}
use Rattle.section_core.specs.declared.objects.Object.{Object}
use Rattle.section_core.specs.declared.objects.Objects.TheInside.{Inside}
use Rattle.section_core.specs.Parts.{CostParts, ObjectParts, FileParts}
use Rattle.section_core.specs.Accepted.{IsAcceptedFile}

abbrev pub object_parts : Object → ObjectParts
object_parts o = record { name = o.name; sections = o.sections.sections; links = o.sections.links }

-- each object's sections are under these rules
abbrev pub AreUnder : CostParts → PairRule → List Object → Type 0
AreUnder cost rule objects =
    AllByRecursion (λ (o : Object). (o.sections.cost ≡ cost) × (o.sections.rule ≡ rule)) objects

abbrev pub file_of : Inside → FileParts
file_of s = record {
  version = s.version;
  cost = cost_parts s.head.cost;
  rule = s.head.rule;
  objects = map object_parts s.items.items;
}

abbrev pub AreAcceptedObjects : Inside → Type 0
AreAcceptedObjects s = IsAcceptedFile (file_of s) × AreUnder (cost_parts s.head.cost) s.head.rule s.items.items
