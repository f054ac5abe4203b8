-- The parts that the code makes.
use Rattle.std.proofs.Common.{◌≡◌, List, map, length, ap₂}
use Rattle.std.specs.List.{flat_map, range_with_len}
use Rattle.fku_types.specs.declared.points.Spot.{Spot}
use Rattle.fku_types.specs.declared.rules.PairRule.TheVariants.{Links}
use Rattle.section_core.specs.declared.parts.Section.{Section}
use Rattle.section_core.specs.declared.parts.Link.{Link}
use Rattle.section_core.specs.Parts.{Parts, SectionParts, LinkParts}
use Rattle.section_core.specs.Views.{section_parts, link_parts}
use Rattle.section_core.specs.Finished.{ended_parts}
use Rattle.section_pairs.specs.Pairs.{PairParts}
use Rattle.section_pairs.specs.SectionFaults.{ArePairs}
use Rattle.section_slices.specs.Densified.{AreMiddleOutlines, section_and_middle, IsDensified}
use Rattle.section_slices.specs.Marks.{AreAllLinks}

abbrev with_parts : Parts → List SectionParts → List LinkParts → Parts
with_parts S sections links = record { cost = S.cost; rule = Links; sections = sections; links = links }

pub is_made : (S : Parts) (ps : List PairParts) (outlines : List (List Spot)) (sections : List Section)
    (links : List Link) → ArePairs S ps → AreMiddleOutlines S ps outlines
    → map section_parts sections ≡ flat_map (section_and_middle S ps outlines) (range_with_len 0 (length S.sections))
    → AreAllLinks S ps (map link_parts links)
    → IsDensified S (ended_parts S.cost Links sections links)
is_made S ps outlines sections links h o e l = record {
  pairs = ps;
  are_pairs = h;
  outlines = outlines;
  are_outlines = o;
  links = l.gaps;
  are_links = l.are;
  parts = ap₂ (with_parts S) e l.all;
}
