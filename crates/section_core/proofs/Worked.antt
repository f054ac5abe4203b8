-- The definitions at worked examples: the lines and the text of parts, each law at its limit and one past it, and
-- results that do not hold.
use Rattle.std.proofs.Common.{◌≡◌, ℕ, ℤ, ◌+◌, ◌≤◌, true, false, List, [], ◌∷◌, length, pos, negsuc, None, Some, Ok, Err, refl, arith}
use Rattle.std.specs.Prelude.{codes, ◌≤ℤ◌, ◌<ℤ◌}
use Rattle.std.specs.List.{sum_by}
use Rattle.std.specs.Fmt.{digits}
use Rattle.std.proofs.lemmas.Int.{ints}
use Rattle.text_io.specs.Text.{kept_lines}
use Rattle.fku_types.specs.declared.fault.Fault.TheVariants.{Form, Range, Limit, NoContours}
use Rattle.fku_types.specs.declared.fault.LimitName.TheVariants.{Sections, Contours, Vertices, SectionVertices, ContourVertices, Links, Objects}
use Rattle.fku_types.specs.declared.rules.PairRule.TheVariants.{Overlap, Links as ByLinks}
use Rattle.section_core.specs.declared.parts.Version.TheVariants.{One, Two}
use Rattle.section_core.specs.Parts.{span, area, mix, Spot, ContourParts, SectionParts, LinkParts, FileParts, Parts, as_file, asked}
use Rattle.text_io.specs.WordLists.{text, number, MatchesWord}
use Rattle.section_core.specs.Laws.{Facts, facts, Keeps, KeepsLimit, in_range, name_once, rising, within}
use Rattle.section_core.specs.Canonical.{text_of, text_of_file}
use Rattle.section_core.specs.Reading.{HasBreach, EndsTooSoon, form, broken, is_filled}
use Rattle.section_core.specs.Machine.{cost_is, object, section, contour, point, link}
use Rattle.section_core.specs.Steps.{first_broken, after}
use Rattle.section_core.specs.Made.{nothing, Refuses, Accepts}
use Rattle.section_core.specs.MadeTexts.{without_line}
use Rattle.section_core.proofs.Answers.{file_holds}

abbrev spot : ℕ → ℕ → Spot
spot x y = (pos x, pos y)

abbrev square_named : List ℕ → ContourParts
square_named name = record { name = name; count = pos 4; points = spot 0 0 ∷ spot 10 0 ∷ spot 10 10 ∷ spot 0 10 ∷ [] }

abbrev section_of : ℤ → List ContourParts → SectionParts
section_of z contours = record { z = z; contours = contours }

abbrev squares : Parts
squares = record {
  cost = span;
  rule = Overlap;
  sections =
      section_of (pos 0) (square_named (codes "a") ∷ []) ∷ section_of (pos 10) (square_named (codes "b") ∷ []) ∷ [];
  links = [];
}

abbrev linked : Parts
linked = record {
  cost = area;
  rule = ByLinks;
  sections = section_of (negsuc 4) [] ∷ [];
  links =
      record { below = codes "a"; above = codes "b_2" } ∷ [];
}

squares_text : text_of squares ≡ codes
    "SECTIONS 1\nCOST span\nPAIR overlap\nSECTION 0\nCONTOUR a 4\n0 0\n10 0\n10 10\n0 10\nSECTION 10\nCONTOUR b 4\n0 0\n10 0\n10 10\n0 10\nEND\n"
unfolding digits
squares_text = refl

linked_text : text_of linked ≡ codes "SECTIONS 1\nCOST area\nPAIR links\nSECTION -5\nLINK a b_2\nEND\n"
unfolding digits
linked_text = refl

-- words that match, whatever zeros they have
matched : MatchesWord (codes "-007") (number (negsuc 6)) × MatchesWord (codes "-0") (number (pos 0))
    × MatchesWord (codes "END") (text (codes "END"))
matched = (refl, refl, refl)

unmatched : MatchesWord (codes "+7") (number (pos 7)) → ⊥
unmatched e = absurd (cc)

-- a text with a fault, by the relation of whole lists of lines
out_of_range : HasBreach One (kept_lines (codes "SECTIONS 1\nCOST span\nPAIR overlap\n\nSECTION 1000000\n")) 5
    (broken in_range)
out_of_range = file_holds One (kept_lines (codes "SECTIONS 1\nCOST span\nPAIR overlap\n\nSECTION 1000000\n"))

-- version 2 is at fault in its first line where only version 1 is read
no_form : HasBreach One (kept_lines (codes "SECTIONS 2\n")) 1 form
no_form = file_holds One (kept_lines (codes "SECTIONS 2\n"))

two_read : EndsTooSoon Two (kept_lines (codes "SECTIONS 2\n"))
two_read = file_holds Two (kept_lines (codes "SECTIONS 2\n"))

too_soon : EndsTooSoon One (kept_lines (codes "SECTIONS 1\nCOST area\n"))
too_soon = file_holds One (kept_lines (codes "SECTIONS 1\nCOST area\n"))

-- parts of these sections and links
abbrev parts_of : List SectionParts → List LinkParts → Parts
parts_of sections links = record { cost = span; rule = ByLinks; sections = sections; links = links }

-- two objects, of which the second has one section
abbrev two_objects : FileParts
two_objects = record {
  version = Two;
  cost = span;
  rule = Overlap;
  objects =
      record { name = codes "p"; sections = squares.sections; links = [] }
      ∷ record { name = codes "q"; sections = section_of (pos 0) (square_named (codes "c") ∷ []) ∷ []; links = [] }
      ∷ [];
}

two_objects_text : text_of_file two_objects
    ≡ codes
    "SECTIONS 2\nCOST span\nPAIR overlap\nOBJECT p\nSECTION 0\nCONTOUR a 4\n0 0\n10 0\n10 10\n0 10\nSECTION 10\nCONTOUR b 4\n0 0\n10 0\n10 10\n0 10\nOBJECT q\nSECTION 0\nCONTOUR c 4\n0 0\n10 0\n10 10\n0 10\nEND\n"
unfolding digits
two_objects_text = refl

two_objects_filled : (is_filled two_objects ≡ true) × (is_filled (record two_objects { objects = [] }) ≡ false)
    × (is_filled (record two_objects { objects = record { name = codes "p"; sections = []; links = [] } ∷ [] }) ≡ false)
two_objects_filled = (refl, refl, refl)

-- the weights of a mix, at their limits and one past them
mixed_text : text_of (record { cost = mix (pos 1000) (pos 0); rule = ByLinks; sections = []; links = [] })
    ≡ codes "SECTIONS 1\nCOST mix 1000 0\nPAIR links\nEND\n"
unfolding digits
mixed_text = refl

next_cost : (first_broken nothing (cost_is (mix (pos 1000) (pos 0))) ≡ None)
    × (first_broken nothing (cost_is (mix (pos 0) (pos 1000))) ≡ None)
    × (first_broken nothing (cost_is (mix (pos 0) (pos 0))) ≡ Some in_range)
    × (first_broken nothing (cost_is (mix (pos 1001) (pos 1))) ≡ Some in_range)
    × (first_broken nothing (cost_is (mix (pos 1) (pos 1001))) ≡ Some in_range)
    × (first_broken nothing (cost_is (mix (negsuc 0) (pos 1))) ≡ Some in_range)
next_cost = (refl, refl, refl, refl, refl, refl)

-- the limits, at each and one past it; sections are counted over all objects
full_links : KeepsLimit Links (record nothing { links = 131072 })
    × (KeepsLimit Links (record nothing { links = 131073 }) → ⊥)
full_links = (omega arith, λ h. omega (arith, h))

full_sections : (hs gs : List ℤ) → length hs + length gs ≡ 16384
    → KeepsLimit Sections (record nothing { heights = hs ∷ gs ∷ [] })
full_sections hs gs e = omega (arith, e)

past_sections : (hs gs : List ℤ) → length hs + length gs ≡ 16385
    → KeepsLimit Sections (record nothing { heights = hs ∷ gs ∷ [] }) → ⊥
past_sections hs gs e k = omega (arith, e, k)

full_contours : (ns : List (List ℕ)) → length ns ≡ 65536 → KeepsLimit Contours (record nothing { names = ns })
full_contours ns e = omega (arith, e)

past_contours : (ns : List (List ℕ)) → length ns ≡ 65537 → KeepsLimit Contours (record nothing { names = ns }) → ⊥
past_contours ns e k = omega (arith, e, k)

full_objects : (ns : List (List ℕ)) → length ns ≡ 1024 → KeepsLimit Objects (record nothing { objects = ns })
full_objects ns e = omega (arith, e)

past_objects : (ns : List (List ℕ)) → length ns ≡ 1025 → KeepsLimit Objects (record nothing { objects = ns }) → ⊥
past_objects ns e k = omega (arith, e, k)

full_vertices : (ks : List ℤ) → sum_by asked ks ≡ 2097152 → KeepsLimit Vertices (record nothing { counts = ks })
full_vertices ks e = omega (arith, e)

past_vertices : (ks : List ℤ) → sum_by asked ks ≡ 2097153 → KeepsLimit Vertices (record nothing { counts = ks }) → ⊥
past_vertices ks e k = omega (arith, e, k)

full_section : KeepsLimit SectionVertices (record nothing { sums = 16384 ∷ [] })
    × (KeepsLimit SectionVertices (record nothing { sums = 16385 ∷ [] }) → ⊥)
full_section = ((omega arith, tt), λ h. omega (arith, h.0))

few_and_many : KeepsLimit ContourVertices (record nothing { counts = pos 3 ∷ pos 4096 ∷ [] })
few_and_many = ((omega (arith, ints), omega (arith, ints)), ((omega (arith, ints), omega (arith, ints)), tt))

too_few : KeepsLimit ContourVertices (record nothing { counts = pos 2 ∷ [] }) → ⊥
too_few k = let h : pos 3 ≤ℤ pos 2 = k.0.0 in omega (arith, ints)

too_many : KeepsLimit ContourVertices (record nothing { counts = pos 4097 ∷ [] }) → ⊥
too_many k = let h : pos 4097 ≤ℤ pos 4096 = k.0.1 in omega (arith, ints)

-- heights, from one end of the range to the other; they rise within each object separately
rising_heights : Keeps rising (record nothing { heights = (negsuc 999998 ∷ pos 999999 ∷ []) ∷ (pos 0 ∷ []) ∷ [] })
    × Keeps in_range (record nothing { heights = (negsuc 999998 ∷ pos 999999 ∷ []) ∷ (pos 0 ∷ []) ∷ [] })
rising_heights = (
  ((omega (arith, ints), tt), (tt, tt)),
  (((omega arith, (omega arith, tt)), ((omega arith, tt), tt)), tt, tt),
)

equal_heights : Keeps rising (record nothing { heights = (pos 7 ∷ pos 7 ∷ []) ∷ [] }) → ⊥
equal_heights k = let h : pos 7 <ℤ pos 7 = k.0.0 in omega (arith, ints)

too_high : Keeps in_range (record nothing { heights = (pos 1000000 ∷ []) ∷ [] }) → ⊥
too_high k = let h : 1000000 ≤ 999999 = k.0.0.0 in omega arith

-- an object and a contour may share a name, two objects may not
shared_name : Keeps name_once (record nothing { names = codes "a" ∷ []; objects = codes "a" ∷ [] })
shared_name = ((tt, tt), (tt, tt))

named_twice : Keeps name_once (facts
    (as_file (parts_of (section_of (pos 0) (square_named (codes "a") ∷ [])
    ∷ section_of (pos 1) (square_named (codes "a") ∷ []) ∷ []) []))) → ⊥
named_twice k = k.0.0.0 refl

object_twice : Keeps name_once (record nothing { objects = codes "p" ∷ codes "p" ∷ [] }) → ⊥
object_twice k = k.1.0.0 refl

-- one more item, at each limit and one past it
abbrev with_links : ℕ → Facts
with_links n = record nothing { links = n }

abbrev a_link : LinkParts
a_link = record { below = codes "a"; above = codes "b" }

next_link : (first_broken (with_links 131071) (link a_link) ≡ None)
    × (first_broken (with_links 131072) (link a_link) ≡ Some (within Links))
next_link = (refl, refl)

next_point : (first_broken nothing (point (negsuc 999998, pos 999999)) ≡ None)
    × (first_broken nothing (point (negsuc 999999, pos 0)) ≡ Some in_range)
    × (first_broken nothing (point (pos 0, pos 1000000)) ≡ Some in_range)
next_point = (refl, refl, refl)

-- the facts before and after one contour of so many vertices
abbrev a_contour : ℕ → Facts
a_contour n = after (after nothing (section (pos 5))) (contour (codes "a") (pos n))

next_contour : (first_broken (a_contour 12288) (contour (codes "b") (pos 4096)) ≡ None)
    × (first_broken (a_contour 12289) (contour (codes "b") (pos 4096)) ≡ Some (within SectionVertices))
    × (first_broken (a_contour 3) (contour (codes "a") (pos 2)) ≡ Some name_once)
    × (first_broken (a_contour 3) (contour (codes "b") (pos 2)) ≡ Some (within ContourVertices))
    × (first_broken (after (a_contour 2093056) (section (pos 6))) (contour (codes "b") (pos 4096)) ≡ None)
    × (first_broken (after (a_contour 2093057) (section (pos 6))) (contour (codes "b") (pos 4096))
    ≡ Some (within Vertices))
next_contour = (refl, refl, refl, refl, refl, refl)

next_section : (first_broken (a_contour 3) (section (pos 6)) ≡ None)
    × (first_broken (a_contour 3) (section (pos 5)) ≡ Some rising)
    × (first_broken (a_contour 3) (section (negsuc 999999)) ≡ Some in_range)
next_section = (refl, refl, refl)

-- after the next object begins, a lower section may come, and the name of a contour is still taken
abbrev second_object : Facts
second_object = after (a_contour 3) (object (codes "a"))

next_object : (first_broken (a_contour 3) (object (codes "a")) ≡ None)
    × (first_broken second_object (object (codes "a")) ≡ Some name_once)
    × (first_broken second_object (section (pos 5)) ≡ None)
    × (first_broken second_object (contour (codes "a") (pos 3)) ≡ Some name_once)
next_object = (refl, refl, refl, refl)

-- parts with a fault are not made; parts without one are refused only if memory runs out
not_made : Refuses {T = Parts} NoContours (Ok squares) → ⊥
not_made h = h

not_another : Refuses {T = Parts} (Range 0) (Err (Form 0)) → ⊥
not_another e = absurd (cc)

not_refused : Accepts {T = Parts} (Err NoContours) → ⊥
not_refused e = absurd (cc)

line_0 : (without_line (Range 7) ≡ Range 0) × (without_line (Limit Links 9) ≡ Limit Links 0)
    × (without_line NoContours ≡ NoContours)
line_0 = (refl, refl, refl)
