-- The parts at the end of a text, and the result that they give.
use Rattle.std.specs.Prelude.{◌≡◌, Bool, true, false, ◌&&◌, nat_lt, List, [], length, map, Result, Ok, Err}
use Rattle.std.specs.List.{list_any, list_all, AllByRecursion}
use Rattle.fku_types.specs.declared.fault.Fault.{Fault}
use Rattle.fku_types.specs.declared.fault.Fault.TheVariants.{NoContours, NoMemory}
use Rattle.section_core.specs.declared.parts.Section.{Section}
use Rattle.section_core.specs.declared.parts.Link.{Link}
use Rattle.section_core.specs.declared.parts.Head.{Head}
use Rattle.fku_types.specs.declared.rules.PairRule.{PairRule}
use Rattle.section_core.specs.Costs.{cost_parts}
use Rattle.section_core.specs.Parts.{CostParts, Parts, FileParts, contours_of}
use Rattle.section_core.specs.Reading.{HasContour, is_filled}
use Rattle.section_core.specs.Accepted.{IsAccepted}
use Rattle.section_core.specs.Flat.{AreFlat}
use Rattle.section_core.specs.declared.parts.Draft.{Draft}
use Rattle.section_core.specs.Views.{section_parts, link_parts}

abbrev pub ended_parts : CostParts → PairRule → List Section → List Link → Parts
ended_parts cost rule sections links =
    record { cost = cost; rule = rule; sections = map section_parts sections; links = map link_parts links }

abbrev pub has_any : Section → Bool
has_any s = nat_lt 0 (length s.contours.items)

-- parts with a contour are returned
abbrev pub Finishes : Parts → Result Parts Fault → Type 0
Finishes S (Ok s) = (s ≡ S) × HasContour S
Finishes S (Err fault) = (fault ≡ NoContours) × (contours_of S.sections ≡ [])

-- an object that was read has a contour
abbrev pub has_section : Draft → Bool
has_section d = list_any has_any d.sections.items

abbrev pub are_filled : List Draft → Bool
are_filled drafts = nat_lt 0 (length drafts) && list_all has_section drafts

-- what an object that was read has to be, to be kept
abbrev pub IsReady : Head → Draft → Type 0
IsReady h d = IsAccepted (ended_parts (cost_parts h.cost) h.rule d.sections.items d.links.items)
    × AreFlat d.sections.items

abbrev pub AreReady : Head → List Draft → Type 0
AreReady h drafts = AllByRecursion (IsReady h) drafts

-- the parts of a text are returned if each object has a contour; only there memory may run out
abbrev pub FinishesObjects : FileParts → Result FileParts Fault → Type 0
FinishesObjects F (Ok s) = (s ≡ F) × (is_filled F ≡ true)
FinishesObjects F (Err NoMemory) = is_filled F ≡ true
FinishesObjects F (Err fault) = (fault ≡ NoContours) × (is_filled F ≡ false)
