-- The definitions of this crate at worked examples, by computation.
use Rattle.std.proofs.Common.{◌≡◌, pos, negsuc, true, false, Some, None, refl}
use Rattle.std.specs.Prelude.{codes}
use Rattle.std.specs.Fmt.{digits}
use Rattle.fku_types.specs.Names.{is_name}
use Rattle.fku_types.specs.declared.fault.Fault.TheVariants.{Form, Range, NameTwice, NotRising, Limit, EndMissing, NoContours, SelfCrossing, Crossing, Link, Composite, CertForm, Outside, OnSection, NoPair, OneObject, MarkForm, NoSpan, MarkRepeated, MarksCross, CapLimit, ByuForm, NoMemory}
use Rattle.fku_types.specs.declared.fault.LimitName.TheVariants.{Bytes, Sections, Contours, Vertices, SectionVertices, ContourVertices, Links, Edits, Objects}
use Rattle.fku_types.specs.declared.fault.LinkCause.TheVariants.{Unknown, NotNeighbours, DepthDiffers, Repeated}
use Rattle.fku_types.specs.Fault.{fault_words, limit_word, cause_words}

names : (is_name (codes "a") ≡ true) × (is_name (codes "AZ_az_0123456789") ≡ true)
    × (is_name (codes "left-hippocampus.2") ≡ true) × (is_name (codes "-.") ≡ true)
    × (is_name (codes "left-hippocampus.2_0123456789012345678901234567890123456789ABCde") ≡ true)
names = (refl, refl, refl, refl, refl)

no_names : (is_name (codes "") ≡ false)
    × (is_name (codes "left-hippocampus.2_0123456789012345678901234567890123456789ABCde_") ≡ false)
    × (is_name (codes "left+") ≡ false) × (is_name (codes "a,b") ≡ false) × (is_name (codes "a/b") ≡ false)
    × (is_name (codes "a b") ≡ false)
no_names = (refl, refl, refl, refl, refl, refl)

limits : (limit_word Bytes ≡ codes "bytes") × (limit_word Sections ≡ codes "sections")
    × (limit_word Contours ≡ codes "contours") × (limit_word Vertices ≡ codes "vertices")
    × (limit_word SectionVertices ≡ codes "section_vertices") × (limit_word ContourVertices ≡ codes "contour_vertices")
    × (limit_word Links ≡ codes "links") × (limit_word Edits ≡ codes "edits") × (limit_word Objects ≡ codes "objects")
limits = (refl, refl, refl, refl, refl, refl, refl, refl, refl)

causes : (cause_words Unknown ≡ codes "UNKNOWN") × (cause_words NotNeighbours ≡ codes "NOT NEIGHBOURS")
    × (cause_words DepthDiffers ≡ codes "DEPTH DIFFERS") × (cause_words Repeated ≡ codes "REPEATED")
causes = (refl, refl, refl, refl)

faults_of_lines : (fault_words (Form 3) ≡ Some (codes "1 FORM line 3"))
    × (fault_words (Range 7) ≡ Some (codes "2 RANGE line 7"))
    × (fault_words (NameTwice 11) ≡ Some (codes "3 NAME TWICE line 11"))
    × (fault_words (NotRising 10) ≡ Some (codes "4 HEIGHT NOT RISING line 10"))
    × (fault_words (Limit ContourVertices 5) ≡ Some (codes "5 LIMIT contour_vertices line 5"))
unfolding digits
faults_of_lines = (refl, refl, refl, refl, refl)

faults_of_parts : (fault_words EndMissing ≡ Some (codes "6 END MISSING"))
    × (fault_words NoContours ≡ Some (codes "7 NO CONTOURS"))
    × (fault_words (SelfCrossing (codes "c") 1 4) ≡ Some (codes "8 SELF CROSSING c 1 4"))
    × (fault_words (Crossing (codes "a") (codes "b")) ≡ Some (codes "9 CROSSING a b"))
    × (fault_words (Link (codes "a") (codes "z") Unknown) ≡ Some (codes "10 LINK a z UNKNOWN"))
    × (fault_words (Composite 2 4097) ≡ Some (codes "11 COMPOSITE LIMIT section 2 count 4097"))
unfolding digits
faults_of_parts = (refl, refl, refl, refl, refl, refl)

faults_of_commands : (fault_words (CertForm 17) ≡ Some (codes "12 CERT FORM line 17"))
    × (fault_words (Outside (negsuc 0)) ≡ Some (codes "17 HEIGHT OUTSIDE -1"))
    × (fault_words (OnSection (pos 10)) ≡ Some (codes "18 HEIGHT ON SECTION 10"))
    × (fault_words (NoPair 2) ≡ Some (codes "20 NO PAIR 2"))
    × (fault_words (OneObject 2) ≡ Some (codes "21 ONE OBJECT 2"))
    × (fault_words (MarkForm 17) ≡ Some (codes "22 MARK FORM line 17"))
    × (fault_words (NoSpan 1 0 4) ≡ Some (codes "23 NO SPAN 1 0 4"))
    × (fault_words (MarkRepeated 1 0 2) ≡ Some (codes "24 MARK REPEATED 1 0 2"))
    × (fault_words (MarksCross 1 2 1) ≡ Some (codes "25 MARKS CROSS 1 2 1"))
    × (fault_words (CapLimit 2 4097) ≡ Some (codes "26 CAP LIMIT section 2 count 4097"))
    × (fault_words (ByuForm 3) ≡ Some (codes "27 BYU FORM line 3")) × (fault_words NoMemory ≡ None)
unfolding digits
faults_of_commands = (refl, refl, refl, refl, refl, refl, refl, refl, refl, refl, refl, refl)
