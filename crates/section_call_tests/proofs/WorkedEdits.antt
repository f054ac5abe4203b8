-- Edits at worked examples: links that are removed, each limit on the edited parts, and the words of refusals.
use Rattle.std.proofs.Common.{◌≡◌, ℕ, ℤ, Option, List, [], ◌∷◌, pos, None, Some, replicate, refl, ◌≤ℤ◌, arith}
use Rattle.std.specs.Prelude.{codes}
use Rattle.std.specs.Fmt.{digits}
use Rattle.std.proofs.lemmas.Int.{ints}
use Rattle.fku_types.specs.declared.points.Spot.{Spot as Place}
use Rattle.fku_types.specs.declared.fault.Fault.TheVariants.{NoContours}
use Rattle.fku_types.specs.declared.fault.LimitName.TheVariants.{ContourVertices, SectionVertices, Vertices, Contours}
use Rattle.fku_types.specs.declared.rules.PairRule.TheVariants.{Links}
use Rattle.section_core.specs.Parts.{span, Spot, ContourParts, SectionParts, LinkParts, Parts, as_file}
use Rattle.section_core.specs.Laws.{within, facts, IsLawful}
use Rattle.section_core.proofs.FirstBreach.{breaks_none}
use Rattle.section_core.proofs.OneObject.{lawful-to}
use Rattle.section_edits.specs.declared.edit.Edit.TheVariants.{Move, Remove, AddContour, RemoveContour}
use Rattle.section_edits.specs.declared.edit.EditFault.{EditFault}
use Rattle.section_edits.specs.declared.edit.EditFault.TheVariants.{NameTwice, Limit, Found, NoMemory}
use Rattle.section_edits.specs.Words.{edit_fault_words}
use Rattle.section_edits.specs.Changes.{contour_with, without, changed}
use Rattle.section_edits.specs.Refusals.{first_of, IsLateRefusal}
use Rattle.section_edits.specs.LateTests.{late_tests}

-- ---- links

abbrev place : ℕ → ℕ → Place
place x y = record { x = pos x; y = pos y }

abbrev ends : List Place
ends = place 0 0 ∷ place 5 0 ∷ []

abbrev spot : ℕ → ℕ → Spot
spot x y = (pos x, pos y)

abbrev triangle : List ℕ → ContourParts
triangle name = contour_with name (spot 0 0 ∷ spot 9 0 ∷ spot 0 9 ∷ [])

abbrev section : ℤ → List ContourParts → SectionParts
section z contours = record { z = z; contours = contours }

abbrev joins : List ℕ → List ℕ → LinkParts
joins below above = record { below = below; above = above }

-- a below b and c, each linked to it, and to d, which is none of them
abbrev three : List LinkParts → Parts
three links = record {
  cost = span;
  rule = Links;
  sections =
      section (pos 0) (triangle (codes "a") ∷ []) ∷ section (pos 5) (triangle (codes "b") ∷ triangle (codes "c") ∷ [])
      ∷ [];
  links = links;
}

abbrev links : List LinkParts
links = joins (codes "a") (codes "b") ∷ joins (codes "a") (codes "c") ∷ joins (codes "b") (codes "d")
    ∷ joins (codes "bb") (codes "c") ∷ []

-- the contour that is removed takes each link to it along, below or above
dropped : (without (codes "b") (three links)
    ≡ record {
      cost = span;
      rule = Links;
      sections =
          section (pos 0) (triangle (codes "a") ∷ []) ∷ section (pos 5) (triangle (codes "c") ∷ []) ∷ [];
      links =
          joins (codes "a") (codes "c") ∷ joins (codes "bb") (codes "c") ∷ [];
    })
    × (changed (three links) (RemoveContour (codes "b")) ≡ without (codes "b") (three links))
    × (without (codes "q") (three links) ≡ three links)
dropped = (refl, refl, refl)

-- every other edit keeps the links
kept_links : ((changed (three links) (Move (codes "b") 0 (pos 1) (pos 1))).links ≡ links)
    × ((changed (three links) (Remove (codes "b") 0)).links ≡ links)
    × ((changed (three links) (AddContour (pos 0) (codes "d") ends)).links ≡ links)
kept_links = (refl, refl, refl)

-- ---- the limits on the edited parts: at each and one past it, and no contour

abbrev counting : ℕ → ContourParts
counting n = record { name = codes "a"; count = pos n; points = [] }

abbrev late : List SectionParts → Option EditFault
late sections = first_of (late_tests sections)

abbrev counted_once : SectionParts
counted_once = section (pos 0) (counting 1 ∷ [])

-- four contours of 4,090 vertices, and one
abbrev filled : ℕ → SectionParts
filled n = section (pos 0) (counting n ∷ replicate 4 (counting 4090))

late_contour : (late (section (pos 0) [] ∷ section (pos 1) (counting 4096 ∷ []) ∷ []) ≡ None)
    × (late (section (pos 0) [] ∷ section (pos 1) (counting 4097 ∷ []) ∷ []) ≡ Some (Limit ContourVertices))
late_contour = (refl, refl)

late_section : (late (filled 24 ∷ []) ≡ None) × (late (counted_once ∷ filled 25 ∷ []) ≡ Some (Limit SectionVertices))
    × (late (filled 4097 ∷ []) ≡ Some (Limit ContourVertices))
late_section = (refl, refl, refl)

late_vertices : (late (replicate 128 (filled 24)) ≡ None)
    × (late (counted_once ∷ replicate 128 (filled 24)) ≡ Some (Limit Vertices))
    × (late (filled 25 ∷ replicate 128 (filled 24)) ≡ Some (Limit SectionVertices))
late_vertices = (refl, refl, refl)

-- 65,536 contours and one more
abbrev crowded : List SectionParts
crowded = replicate 4 (section (pos 0) (replicate 16384 (counting 1)))

late_contours : (late crowded ≡ None) × (late (counted_once ∷ crowded) ≡ Some (Limit Contours))
late_contours = (refl, refl)

late_nothing : (late [] ≡ Some (Found NoContours))
    × (late (section (pos 0) [] ∷ section (pos 1) [] ∷ []) ≡ Some (Found NoContours))
late_nothing = (refl, refl)

-- the same in the words of laws, for parts that keep the laws before them
abbrev one_contour : ℕ → Parts
one_contour n = record (three []) { sections = section (pos 0) (counting n ∷ []) ∷ [] }

past : IsLateRefusal (one_contour 4097) (Some (Limit ContourVertices))
    × (IsLateRefusal (one_contour 4096) (Some (Limit ContourVertices)) → ⊥)
    × (IsLateRefusal (one_contour 4097) None → ⊥)
past = (
  (
    3,
    refl,
    ((((omega arith, tt), tt), tt, tt), (((tt, tt), tt), ((tt, tt), tt))),
    λ h. let l : pos 4097 ≤ℤ pos 4096 =
        h.0.1 in omega (arith, ints),
  ),
  (λ h. breaks_none (within ContourVertices) (facts (as_file (one_contour 4096)))
      (lawful-to (one_contour 4096) lawful_full) h),
  λ h. let l : pos 4097 ≤ℤ pos 4096 = h.0.counted.0.1 in omega (arith, ints),
)
  where
    lawful_full : IsLawful (one_contour 4096)
    lawful_full = record {
      in_range = (omega arith, tt);
      spots = tt;
      weighted = tt;
      apart = (tt, tt);
      rising = tt;
      counted = ((omega (arith, ints), omega (arith, ints)), tt);
      small = (omega arith, tt);
      few_vertices = omega arith;
      few_contours = omega arith;
      few_sections = omega arith;
      few_links = omega arith;
    }

-- ---- the words of refusals that a text can also have, here without a line; `NoMemory` has none
refused_sections : (edit_fault_words (NameTwice (codes "a")) ≡ Some (codes "3 NAME TWICE a"))
    × (edit_fault_words (Limit SectionVertices) ≡ Some (codes "5 LIMIT section_vertices"))
    × (edit_fault_words (Found NoContours) ≡ Some (codes "7 NO CONTOURS")) × (edit_fault_words NoMemory ≡ None)
unfolding digits
refused_sections = (refl, refl, refl, refl)
