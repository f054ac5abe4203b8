-- The canonical text of parts.
use Rattle.std.specs.Prelude.{ℕ, List, [], ◌∷◌, ◌++◌, pos, length, codes}
use Rattle.std.specs.List.{flat_map}
use Rattle.section_core.specs.Parts.{CostParts, Parts, ObjectParts, FileParts, as_file, object_lines, file_lines, name_lines, point_line, link_line, head_lines}
use Rattle.text_io.specs.WordLists.{text, number, line_text}
use Rattle.fku_types.specs.declared.points.Point.{Point}
use Rattle.fku_types.specs.declared.rules.PairRule.{PairRule}
use Rattle.section_core.specs.declared.parts.Version.{Version}
use Rattle.section_core.specs.declared.parts.Contour.{Contour}
use Rattle.section_core.specs.declared.parts.Section.{Section}
use Rattle.section_core.specs.declared.parts.Link.{Link}
use Rattle.section_core.specs.Views.{spot_of, link_parts}

abbrev pub text_of_file : FileParts → List ℕ
text_of_file F = flat_map line_text (file_lines F)

-- the same for one object, in version 1
abbrev pub text_of : Parts → List ℕ
text_of S = text_of_file (as_file S)

-- the texts of what the code holds
abbrev pub point_text : Point → List ℕ
point_text p = line_text (point_line (spot_of p))

abbrev pub contour_text : Contour → List ℕ
contour_text c = line_text (text (codes "CONTOUR") ∷ text c.name ∷ number (pos (length c.points.items)) ∷ [])
    ++ flat_map point_text c.points.items

abbrev pub text_of_section : Section → List ℕ
text_of_section s = line_text (text (codes "SECTION") ∷ number s.z ∷ []) ++ flat_map contour_text s.contours.items

abbrev pub link_text : Link → List ℕ
link_text l = line_text (link_line (link_parts l))

abbrev pub name_text : Version → List ℕ → List ℕ
name_text v name = flat_map line_text (name_lines v name)

abbrev pub object_text : Version → PairRule → ObjectParts → List ℕ
object_text v rule o = flat_map line_text (object_lines v rule o)

abbrev pub head_text : Version → CostParts → PairRule → List ℕ
head_text v cost rule = flat_map line_text (head_lines v cost rule)
