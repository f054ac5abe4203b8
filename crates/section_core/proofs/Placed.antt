-- Points put at a height: their spots, and that contours and sections of them are flat.
use Rattle.std.proofs.Common.{◌≡◌, ℕ, ℤ, pos, List, [], ◌∷◌, length, map, refl, sym, ap, ap₂, ◌∙◌, subst, All}
use Rattle.std.specs.List.{AllByRecursion}
use Rattle.std.proofs.lemmas.List.{length-map}
use Rattle.std.proofs.lemmas.List.Elements.{recursion_from_All}
use Rattle.fku_types.specs.declared.points.Point.{Point}
use Rattle.fku_types.specs.declared.points.Spot.{Spot as Place}
use Rattle.fku_types.proofs.ListLaws.{all_weaker}
use Rattle.section_core.specs.declared.parts.Contour.{Contour}
use Rattle.section_core.specs.declared.parts.Section.{Section}
use Rattle.section_core.specs.Parts.{Spot, ContourParts}
use Rattle.section_core.specs.Flat.{IsAtHeight, IsFlat, AreFlat, IsLevelSection}
use Rattle.section_core.specs.Views.{spot_of, contour_parts}

-- a place as a spot of the parts, and as a point of a height
abbrev pub spot_at : Place → Spot
spot_at p = (p.x, p.y)

abbrev pub point_at : ℤ → Place → Point
point_at z p = record { x = p.x; y = p.y; z = z }

spots_placed : (z : ℤ) (ps : List Place) → map spot_of (map (point_at z) ps) ≡ map spot_at ps
spots_placed z [] = refl
spots_placed z (p ∷ ps) = ap (λ (qs : List Spot). spot_at p ∷ qs) (spots_placed z ps)

-- the parts of a contour of such points, and its level
abbrev pub of_spots : List ℕ → ℕ → List Spot → ContourParts
of_spots name n spots = record { name = name; count = pos n; points = spots }

pub placed_parts : (c : Contour) (name : List ℕ) (z : ℤ) (ps : List Place) → c.name ≡ name
    → c.points.items ≡ map (point_at z) ps → contour_parts c ≡ of_spots name (length ps) (map spot_at ps)
placed_parts c name z ps n e =
    ap (λ (m : List ℕ). of_spots m (length c.points.items) (map spot_of c.points.items)) n
    ∙ ap₂ (of_spots name) (ap length e ∙ length-map ps (point_at z)) (ap (map spot_of) e ∙ spots_placed z ps)

all_level : (z : ℤ) (ps : List Place) → AllByRecursion (λ (p : Point). p.z ≡ z) (map (point_at z) ps)
all_level z [] = tt
all_level z (p ∷ ps) = (refl, all_level z ps)

pub placed_level : (c : Contour) (z : ℤ) (ps : List Place) → c.points.items ≡ map (point_at z) ps → IsAtHeight z c
placed_level c z ps e = subst (AllByRecursion (λ (p : Point). p.z ≡ z)) (sym e) (all_level z ps)

pub flat_of : (ss : List Section) → All IsLevelSection ss → AreFlat ss
flat_of ss h = all_weaker IsLevelSection IsFlat ss (λ s k. recursion_from_All (IsAtHeight s.z) s.contours.items k)
    (recursion_from_All IsLevelSection ss h)
