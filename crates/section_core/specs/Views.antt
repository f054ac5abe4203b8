-- What the code holds, as parts.
use Rattle.std.specs.Prelude.{ℤ, List, map, length, pos}
use Rattle.fku_types.specs.declared.points.Point.{Point}
use Rattle.fku_types.specs.declared.points.Spot.{Spot as Place}
use Rattle.section_core.specs.declared.parts.Contour.{Contour}
use Rattle.section_core.specs.declared.parts.Section.{Section}
use Rattle.section_core.specs.declared.parts.Link.{Link}
use Rattle.section_core.specs.declared.parts.Version.{Version}
use Rattle.section_core.specs.declared.parts.Head.{Head}
use Rattle.section_core.specs.declared.parts.Draft.{Draft}
use Rattle.section_core.specs.Parts.{Spot, ContourParts, SectionParts, LinkParts, ObjectParts, FileParts}
use Rattle.section_core.specs.Costs.{cost_parts}

abbrev pub spot_of : Point → Spot
spot_of p = (p.x, p.y)

abbrev pub spot_at : Place → Spot
spot_at p = (p.x, p.y)

-- the point at a place of a height
abbrev pub placed : ℤ → Place → Point
placed z p = record { x = p.x; y = p.y; z = z }

abbrev pub contour_parts : Contour → ContourParts
contour_parts c = record { name = c.name; count = pos (length c.points.items); points = map spot_of c.points.items }

abbrev pub section_parts : Section → SectionParts
section_parts s = record { z = s.z; contours = map contour_parts s.contours.items }

abbrev pub link_parts : Link → LinkParts
link_parts l = record { below = l.below; above = l.above }

abbrev pub draft_parts : Draft → ObjectParts
draft_parts d = record {
  name = d.name;
  sections = map section_parts d.sections.items;
  links = map link_parts d.links.items;
}

-- the parts that the code holds
abbrev pub held_file : Version → Head → List Draft → FileParts
held_file v h objects = record {
  version = v;
  cost = cost_parts h.cost;
  rule = h.rule;
  objects = map draft_parts objects;
}
