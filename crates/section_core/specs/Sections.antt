-- What the type Sections holds: accepted parts, each point at the height of its section.
use Rattle.std.specs.Prelude.{map}
use Rattle.section_core.specs.Costs.{cost_parts}
use Rattle.section_core.specs.declared.sections.Sections.TheInside.{Inside}
use Rattle.section_core.specs.Parts.{Parts}
use Rattle.section_core.specs.Views.{section_parts, link_parts}
use Rattle.section_core.specs.Flat.{AreFlat}
use Rattle.section_core.specs.Accepted.{IsAccepted}

abbrev pub held_parts : Inside → Parts
held_parts s = record {
  cost = cost_parts s.cost;
  rule = s.rule;
  sections = map section_parts s.sections.items;
  links = map link_parts s.links.items;
}

abbrev pub AreAcceptedSections : Inside → Type 0
AreAcceptedSections s = IsAccepted (held_parts s) × AreFlat s.sections.items
