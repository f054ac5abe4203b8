-- The words of faults.
use Rattle.std.specs.Prelude.{ℕ, List, ◌++◌, Option, None, Some, codes, decimal}
use Rattle.std.specs.Fmt.{signed_decimal}
use Rattle.fku_types.specs.declared.fault.Fault.{Fault}
use Rattle.fku_types.specs.declared.fault.Fault.TheVariants.{Form, Range, NameTwice, NotRising, Limit, EndMissing, NoContours, SelfCrossing, Crossing, Link, Composite, CertForm, Outside, OnSection, NoPair, OneObject, MarkForm, NoSpan, MarkRepeated, MarksCross, CapLimit, ByuForm, NoMemory}
use Rattle.fku_types.specs.declared.fault.LimitName.{LimitName}
use Rattle.fku_types.specs.declared.fault.LimitName.TheVariants.{Bytes, Sections, Contours, Vertices, SectionVertices, ContourVertices, Links, Edits, Objects}
use Rattle.fku_types.specs.declared.fault.LinkCause.{LinkCause}
use Rattle.fku_types.specs.declared.fault.LinkCause.TheVariants.{Unknown, NotNeighbours, DepthDiffers, Repeated}

-- the name of a limit
abbrev pub limit_word : LimitName → List ℕ
limit_word Bytes = codes "bytes"
limit_word Sections = codes "sections"
limit_word Contours = codes "contours"
limit_word Vertices = codes "vertices"
limit_word SectionVertices = codes "section_vertices"
limit_word ContourVertices = codes "contour_vertices"
limit_word Links = codes "links"
limit_word Edits = codes "edits"
limit_word Objects = codes "objects"

-- why a link is not good
abbrev pub cause_words : LinkCause → List ℕ
cause_words Unknown = codes "UNKNOWN"
cause_words NotNeighbours = codes "NOT NEIGHBOURS"
cause_words DepthDiffers = codes "DEPTH DIFFERS"
cause_words Repeated = codes "REPEATED"

-- the pair, the row and the column of a mark
abbrev pub mark_words : ℕ → ℕ → ℕ → List ℕ
mark_words pair row col = decimal pair ++ codes " " ++ decimal row ++ codes " " ++ decimal col

-- the words of a fault; `NoMemory` has none
abbrev pub fault_words : Fault → Option (List ℕ)
fault_words (Form n) = Some (codes "1 FORM line " ++ decimal n)
fault_words (Range n) = Some (codes "2 RANGE line " ++ decimal n)
fault_words (NameTwice n) = Some (codes "3 NAME TWICE line " ++ decimal n)
fault_words (NotRising n) = Some (codes "4 HEIGHT NOT RISING line " ++ decimal n)
fault_words (Limit limit n) = Some (codes "5 LIMIT " ++ limit_word limit ++ codes " line " ++ decimal n)
fault_words EndMissing = Some (codes "6 END MISSING")
fault_words NoContours = Some (codes "7 NO CONTOURS")
fault_words (SelfCrossing name e f) =
    Some (codes "8 SELF CROSSING " ++ name ++ codes " " ++ decimal e ++ codes " " ++ decimal f)
fault_words (Crossing a b) = Some (codes "9 CROSSING " ++ a ++ codes " " ++ b)
fault_words (Link a b cause) = Some (codes "10 LINK " ++ a ++ codes " " ++ b ++ codes " " ++ cause_words cause)
fault_words (Composite section count) =
    Some (codes "11 COMPOSITE LIMIT section " ++ decimal section ++ codes " count " ++ decimal count)
fault_words (CertForm n) = Some (codes "12 CERT FORM line " ++ decimal n)
fault_words (Outside z) = Some (codes "17 HEIGHT OUTSIDE " ++ signed_decimal z)
fault_words (OnSection z) = Some (codes "18 HEIGHT ON SECTION " ++ signed_decimal z)
fault_words (NoPair k) = Some (codes "20 NO PAIR " ++ decimal k)
fault_words (OneObject n) = Some (codes "21 ONE OBJECT " ++ decimal n)
fault_words (MarkForm n) = Some (codes "22 MARK FORM line " ++ decimal n)
fault_words (NoSpan k row col) = Some (codes "23 NO SPAN " ++ mark_words k row col)
fault_words (MarkRepeated k row col) = Some (codes "24 MARK REPEATED " ++ mark_words k row col)
fault_words (MarksCross k row col) = Some (codes "25 MARKS CROSS " ++ mark_words k row col)
fault_words (CapLimit section count) =
    Some (codes "26 CAP LIMIT section " ++ decimal section ++ codes " count " ++ decimal count)
fault_words (ByuForm n) = Some (codes "27 BYU FORM line " ++ decimal n)
fault_words NoMemory = None
