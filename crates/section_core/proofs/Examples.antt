-- Worked files, computed.
use Rattle.std.proofs.Common.{◌≡◌, ℕ, Bool, true, false, List, [], ◌∷◌, refl}
use Rattle.std.specs.Prelude.{codes}
use Rattle.text_io.specs.Text.{kept_lines}
use Rattle.section_core.specs.declared.parts.Version.TheVariants.{Two}
use Rattle.section_core.specs.Parts.{FileParts}
use Rattle.section_core.specs.Laws.{in_range, name_once}
use Rattle.section_core.specs.Reading.{form, broken}
use Rattle.section_core.specs.Machine.{at_version}
use Rattle.section_core.specs.Reader.{AnswerOf, Answer, front_is, no_contours, at_fault, too_soon, read_file, read_from}

abbrev answer : List ℕ → Answer
answer text = read_from at_version (kept_lines text)

abbrev has_no_contours : Answer → Bool
has_no_contours (front_is S tail) = false
has_no_contours (no_contours S tail) = true
has_no_contours (at_fault b n) = false
has_no_contours too_soon = false

-- a front that no kept line follows
abbrev is_front : Answer → Bool
is_front (front_is S []) = true
is_front (front_is S (k ∷ tail)) = false
is_front (no_contours S tail) = false
is_front (at_fault b n) = false
is_front too_soon = false

file_a_reads : is_front (answer (codes
    "SECTIONS 1\nCOST span\nPAIR overlap\nSECTION 0\nCONTOUR a 4\n0 0\n10 0\n10 10\n0 10\nSECTION 10\nCONTOUR b 4\n0 0\n10 0\n10 10\n0 10\nEND\n")) ≡ true
file_a_reads = refl

out_of_range : answer
    (codes
    "SECTIONS 1\nCOST span\nPAIR overlap\nSECTION 0\nCONTOUR a 4\n0 0\n1000000 0\n10 10\n0 10\nSECTION 10\nCONTOUR b 4\n0 0\n10 0\n10 10\n0 10\nEND\n") ≡ at_fault (broken in_range) 7
out_of_range = refl

end_missing : answer
    (codes
    "SECTIONS 1\nCOST span\nPAIR overlap\nSECTION 0\nCONTOUR a 4\n0 0\n10 0\n10 10\n0 10\nSECTION 10\nCONTOUR b 4\n0 0\n10 0\n10 10\n0 10\n") ≡ too_soon
end_missing = refl

form_before_range : answer
    (codes
    "SECTIONS 1\nCOST span\nPAIR overlap\nSECTION 0\nCONTOUR a 4\n0 0\n1000000 x\n10 10\n0 10\nSECTION 10\nCONTOUR b 4\n0 0\n10 0\n10 10\n0 10\nEND\n") ≡ at_fault form 7
form_before_range = refl

no_contours_at_end : has_no_contours (answer (codes "SECTIONS 1\nCOST span\nPAIR overlap\nEND\n")) ≡ true
no_contours_at_end = refl

-- several objects
abbrev answer_two : List ℕ → AnswerOf FileParts
answer_two text = read_file Two at_version (kept_lines text)

abbrev is_whole_file : AnswerOf FileParts → Bool
is_whole_file (front_is F []) = true
is_whole_file (front_is F (k ∷ tail)) = false
is_whole_file (no_contours F tail) = false
is_whole_file (at_fault b n) = false
is_whole_file too_soon = false

two_objects : is_whole_file (answer_two
    (codes
    "SECTIONS 2\nCOST span\nPAIR overlap\nOBJECT p\nSECTION 0\nCONTOUR a 4\n0 0\n10 0\n10 10\n0 10\nSECTION 10\nCONTOUR b 4\n0 0\n10 0\n10 10\n0 10\nOBJECT q\nSECTION 0\nCONTOUR c 4\n5 5\n15 5\n15 15\n5 15\nEND\n")) ≡ true
two_objects = refl

contour_twice : answer_two
    (codes
    "SECTIONS 2\nCOST span\nPAIR overlap\nOBJECT p\nSECTION 0\nCONTOUR a 4\n0 0\n10 0\n10 10\n0 10\nSECTION 10\nCONTOUR b 4\n0 0\n10 0\n10 10\n0 10\nOBJECT q\nSECTION 0\nCONTOUR a 4\n5 5\n15 5\n15 15\n5 15\nEND\n") ≡ at_fault (broken name_once) 19
contour_twice = refl

object_in_version_1 : answer_two (codes "SECTIONS 1\nCOST span\nPAIR overlap\nOBJECT p\n") ≡ at_fault form 4
object_in_version_1 = refl
