-- Texts of triangles, at worked examples: their parts, a line after END, the fault of texts that have one, and what the
-- laws ask of parts.
use Rattle.std.proofs.Common.{◌≡◌, ℕ, List, [], ◌∷◌, ◌++◌, length, pos, negsuc, true, false, refl}
use Rattle.std.specs.Prelude.{codes}
use Rattle.text_io.specs.Text.{kept_lines}
use Rattle.text_io.specs.WordLists.{Kept}
use Rattle.fku_types.specs.declared.fault.Fault.TheVariants.{Form, Range, NotRising, EndMissing, NoContours}
use Rattle.fku_types.specs.declared.rules.PairRule.TheVariants.{Overlap}
use Rattle.section_core.specs.declared.parts.Version.TheVariants.{One, Two}
use Rattle.section_core.specs.Parts.{Parts, FileParts, span, mix, as_file, asked, contours_of, all_sections, version_number, is_read}
use Rattle.section_core.specs.Laws.{in_range, rising, facts, section_vertices}
use Rattle.section_core.specs.Reading.{form, broken, HasFileFault, HasFront, HasFault}
use Rattle.section_core.specs.Texts.{IsTextOfFile}
use Rattle.section_core.proofs.Answers.{file_holds}
use Rattle.section_call_tests.proofs.WorkedHeld.{spots, triangle_parts, section_with, linked}

-- one triangle
abbrev one_triangle : Parts
one_triangle = record {
  cost = span;
  rule = Overlap;
  sections =
      section_with (negsuc 4) (triangle_parts (codes "a") ∷ []) ∷ [];
  links = [];
}

-- the same as a file, and two objects of which one is named as the contour
abbrev two_triangles : FileParts
two_triangles = record {
  version = Two;
  cost = span;
  rule = Overlap;
  objects =
      record { name = codes "a"; sections = one_triangle.sections; links = [] }
      ∷ record {
        name = codes "q";
        sections = section_with (negsuc 4) (triangle_parts (codes "b") ∷ []) ∷ [];
        links =
            [];
      }
      ∷ [];
}

-- a kept line after END is the tail
abbrev tail_text : List ℕ
tail_text = codes "SECTIONS 1\nCOST span\nPAIR overlap\nSECTION -5\nCONTOUR a 3\n0 0\n9 -1\n4 7\nEND\nMOVE a 0 1 1\n"

with_tail : HasFront (kept_lines tail_text) one_triangle
    ((10, codes "MOVE" ∷ codes "a" ∷ codes "0" ∷ codes "1" ∷ codes "1" ∷ []) ∷ [])
with_tail = (file_holds One (kept_lines tail_text)).0

-- two objects
abbrev two_text : List ℕ
two_text =
    codes
    "SECTIONS 2\nCOST span\nPAIR overlap\nOBJECT a\nSECTION -5\nCONTOUR a 3\n0 0\n9 -1\n4 7\nOBJECT q\nSECTION -5\nCONTOUR b 3\n0 0\n9 -1\n4 7\nEND\n"

is_two_text : IsTextOfFile two_text two_triangles
is_two_text = ((file_holds Two (kept_lines two_text)).0, refl)

-- ---- texts with a fault

abbrev of : List ℕ → List Kept
of more = kept_lines (codes "SECTIONS 1\nCOST span\nPAIR links\n" ++ more)

-- END is missing; or it ends well, and there is no contour
ends_badly : HasFileFault One (of []) EndMissing × HasFileFault One (of (codes "SECTION 4\nEND\n")) NoContours
ends_badly = (file_holds One (of []), (_, _, (file_holds One (of (codes "SECTION 4\nEND\n"))).0, refl))

-- a line that has no place there, and a height that does not rise
faults : HasFileFault One (of (codes "SECTION 4\nSECTIONS 1\n")) (Form 5)
    × HasFileFault One (of (codes "SECTION 4\nSECTION 4\n")) (NotRising 5)
faults = (
  (5, form, file_holds One (of (codes "SECTION 4\nSECTIONS 1\n")), refl),
  (5, broken rising, file_holds One (of (codes "SECTION 4\nSECTION 4\n")), refl),
)

-- the same by the parts of one object
one_object_faults : HasFault (of (codes "SECTION 1000000\n")) (Range 4)
one_object_faults = (4, broken in_range, file_holds One (of (codes "SECTION 1000000\n")), refl)

-- ---- what the laws ask of parts

-- version 1 states no name of an object
told_facts : (facts (as_file (record one_triangle
    { cost = mix (pos 2) (pos 5); links = linked (codes "a") (codes "b") ∷ [] }))
    ≡ record {
      objects = [];
      heights = (negsuc 4 ∷ []) ∷ [];
      names = codes "a" ∷ [];
      counts = pos 3 ∷ [];
      points =
          spots;
      weights = (pos 2, pos 5) ∷ [];
      sums = 3 ∷ [];
      links = 1;
    })
    × (facts two_triangles ≡ record {
      objects = codes "a" ∷ codes "q" ∷ [];
      heights =
          (negsuc 4 ∷ []) ∷ (negsuc 4 ∷ []) ∷ [];
      names = codes "a" ∷ codes "b" ∷ [];
      counts = pos 3 ∷ pos 3 ∷ [];
      points =
          spots ++ spots;
      weights = [];
      sums = 3 ∷ 3 ∷ [];
      links = 0;
    })
told_facts = (refl, refl)

-- a negative count asks for no points
sizes : (asked (pos 3) ≡ 3) × (asked (negsuc 2) ≡ 0)
    × (section_vertices (section_with (pos 1) (triangle_parts (codes "a") ∷ triangle_parts (codes "c") ∷ [])) ≡ 6)
    × (length (contours_of (all_sections two_triangles.objects)) ≡ 2)
sizes = (refl, refl, refl, refl)

-- which versions are read
versions : (version_number Two ≡ 2) × (is_read One Two ≡ false) × (is_read Two One ≡ true)
    × (as_file one_triangle ≡ record {
      version = One;
      cost = span;
      rule = Overlap;
      objects =
          record { name = codes "object"; sections = one_triangle.sections; links = [] } ∷ [];
    })
versions = (refl, refl, refl, refl)
