-- Sections as the code holds them, at worked examples: their parts, the pieces that stand for them, and which are
-- level.
use Rattle.std.proofs.Common.{◌≡◌, ℕ, ℤ, List, [], ◌∷◌, pos, negsuc, Vec, refl}
use Rattle.std.specs.Prelude.{codes}
use Rattle.std.specs.declared.alloc.Global.{Global}
use Rattle.fku_types.specs.declared.points.Point.{Point}
use Rattle.fku_types.specs.declared.rules.CostRule.TheVariants.{Mix}
use Rattle.fku_types.specs.declared.rules.PairRule.TheVariants.{Links}
use Rattle.strip_graph.proofs.ComputedTests.{list_at}
use Rattle.section_core.specs.declared.parts.Contour.{Contour}
use Rattle.section_core.specs.declared.parts.Section.{Section}
use Rattle.section_core.specs.declared.parts.Link.{Link}
use Rattle.section_core.specs.Parts.{Spot, ContourParts, SectionParts, LinkParts, area, mix}
use Rattle.section_core.specs.Costs.{cost_parts, cost_rule}
use Rattle.section_core.specs.Views.{spot_of, contour_parts, section_parts, link_parts}
use Rattle.section_core.specs.Flat.{IsAtHeight, IsFlat, AreFlat}
use Rattle.section_core.specs.Finished.{ended_parts}
use Rattle.section_core.specs.Machine.{cost_is, section, contour, point, link}
use Rattle.section_core.specs.Made.{whole, askew, point_piece, pieces_of, nothing, facts_after}

abbrev pub at : ℤ → ℤ → ℤ → Point
at x y z = record { x = x; y = y; z = z }

-- a triangle, a section without contours, one with a contour, and a link, wherever their lists lie
abbrev pub triangle : Vec ℕ Global → List ℕ → ℤ → Contour
triangle v name z = record {
  name = name;
  points =
      list_at v (at (pos 0) (pos 0) z ∷ at (pos 9) (negsuc 0) z ∷ at (pos 4) (pos 7) z ∷ []) tt;
}

abbrev pub empty : Vec ℕ Global → ℤ → Section
empty v z = record { z = z; contours = list_at {X = Contour} v [] tt }

abbrev pub holds : Vec ℕ Global → ℤ → Contour → Section
holds v z c = record { z = z; contours = list_at v (c ∷ []) tt }

abbrev pub joins : List ℕ → List ℕ → Link
joins below above = record { below = below; above = above }

-- the parts that they have
abbrev pub spots : List Spot
spots = (pos 0, pos 0) ∷ (pos 9, negsuc 0) ∷ (pos 4, pos 7) ∷ []

abbrev pub triangle_parts : List ℕ → ContourParts
triangle_parts name = record { name = name; count = pos 3; points = spots }

abbrev pub section_with : ℤ → List ContourParts → SectionParts
section_with z contours = record { z = z; contours = contours }

abbrev pub linked : List ℕ → List ℕ → LinkParts
linked below above = record { below = below; above = above }

views : (v : Vec ℕ Global) → (spot_of (at (pos 3) (negsuc 4) (pos 7)) ≡ (pos 3, negsuc 4))
    × (contour_parts (triangle v (codes "a") (pos 5)) ≡ triangle_parts (codes "a"))
    × (section_parts (holds v (pos 5) (triangle v (codes "a") (pos 5)))
    ≡ section_with (pos 5) (triangle_parts (codes "a") ∷ []))
    × (section_parts (empty v (negsuc 2)) ≡ section_with (negsuc 2) [])
    × (link_parts (joins (codes "a") (codes "b")) ≡ linked (codes "a") (codes "b"))
views v = (refl, refl, refl, refl, refl)

-- a cost rule as it is written, and back
costs : (cost_parts (Mix 2 5) ≡ mix (pos 2) (pos 5)) × (cost_rule (mix (pos 2) (pos 5)) ≡ Mix 2 5)
costs = (refl, refl)

ended : (v : Vec ℕ Global) → ended_parts area Links
    (holds v (pos 5) (triangle v (codes "a") (pos 5)) ∷ empty v (pos 6) ∷ []) (joins (codes "a") (codes "b") ∷ [])
    ≡ record {
      cost = area;
      rule = Links;
      sections =
          section_with (pos 5) (triangle_parts (codes "a") ∷ []) ∷ section_with (pos 6) [] ∷ [];
      links =
          linked (codes "a") (codes "b") ∷ [];
    }
ended v = refl

-- each point at the height
level : (v : Vec ℕ Global) → IsAtHeight (pos 5) (triangle v (codes "a") (pos 5))
level v = (refl, (refl, (refl, tt)))

flat : (v : Vec ℕ Global) → IsFlat (holds v (pos 5) (triangle v (codes "a") (pos 5)))
flat v = ((refl, (refl, (refl, tt))), tt)

all_flat : (v : Vec ℕ Global) → AreFlat (holds v (pos 5) (triangle v (codes "a") (pos 5)) ∷ empty v (pos 6) ∷ [])
all_flat v = (((refl, (refl, (refl, tt))), tt), (tt, tt))

-- a point at the height of its section is a whole piece, and one at another height is not
points_pieces : (point_piece (pos 5) (at (pos 3) (negsuc 4) (pos 5)) ≡ whole (point (pos 3, negsuc 4)))
    × (point_piece (pos 5) (at (pos 3) (negsuc 4) (pos 6)) ≡ askew)
points_pieces = (refl, refl)

-- the cost, then the sections, then the links, which come last under either rule
all_pieces : (v : Vec ℕ Global) → pieces_of area
    (empty v (pos 4) ∷ holds v (pos 5) (triangle v (codes "a") (pos 5)) ∷ []) (joins (codes "a") (codes "b") ∷ [])
    ≡ whole (cost_is area) ∷ whole (section (pos 4)) ∷ whole (section (pos 5)) ∷ whole (contour (codes "a") (pos 3))
    ∷ whole (point (pos 0, pos 0)) ∷ whole (point (pos 9, negsuc 0)) ∷ whole (point (pos 4, pos 7))
    ∷ whole (link (linked (codes "a") (codes "b"))) ∷ []
all_pieces v = refl

-- what items add to the facts: weights, heights, names, counts, points, vertices of each section, and links
facts_of_items : facts_after nothing
    (cost_is (mix (pos 2) (pos 5)) ∷ section (pos 4) ∷ section (pos 5) ∷ contour (codes "a") (pos 3)
    ∷ point (pos 0, pos 0) ∷ point (pos 9, negsuc 0) ∷ contour (codes "b") (pos 4)
    ∷ link (linked (codes "a") (codes "b")) ∷ [])
    ≡ record {
      objects = [];
      heights = (pos 4 ∷ pos 5 ∷ []) ∷ [];
      names = codes "a" ∷ codes "b" ∷ [];
      counts =
          pos 3 ∷ pos 4 ∷ [];
      points = (pos 0, pos 0) ∷ (pos 9, negsuc 0) ∷ [];
      weights = (pos 2, pos 5) ∷ [];
      sums =
          0 ∷ 7 ∷ [];
      links = 1;
    }
facts_of_items = refl
