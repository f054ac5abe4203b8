-- Contours of a slice, by their places.
use Rattle.std.proofs.Common.{◌≡◌, ℕ, ◌<◌, List, [], length, map, get_or, sym, ap, subst, arith, ◌∙◌}
use Rattle.std.proofs.lemmas.List.{get_or-map, get_or_default}
use Rattle.fku_types.specs.declared.points.Point.{Point}
use Rattle.plane_geom.specs.Rings.{origin}
use Rattle.section_core.specs.declared.parts.Contour.{Contour}
use Rattle.correspondence.specs.Contours.{points_of, contour_at, first_point, IsOutline, AreOutlines}

pub contour_read : (contours : List Contour) (i : ℕ) (c : Contour) → i < length contours → c ≡ get_or contours i c
    → points_of c ≡ contour_at (map points_of contours) i
contour_read contours i c h e = ap points_of e ∙ sym (get_or-map points_of contours i c [] h)

pub name_read : (contours : List Contour) (i : ℕ) (c : Contour) → i < length contours → c ≡ get_or contours i c
    → c.name ≡ get_or (map (λ (d : Contour). d.name) contours) i []
name_read contours i c h e = ap (λ (d : Contour). d.name) e
    ∙ sym (get_or-map (λ (d : Contour). d.name) contours i c [] h)

pub outline_read : (cs items : List Contour) (i : ℕ) (points : List Point) (d : Contour) → cs ≡ items
    → AreOutlines items → i < length cs → points ≡ points_of (get_or cs i d) → IsOutline points
outline_read cs items i points d e h l p =
    subst IsOutline (sym (p ∙ ap (λ (x : List Contour). points_of (get_or x i d)) e))
    (h.each i d (omega (arith, ap length e)))

-- vertex 0 of a contour, as it is read
pub first_read : (contours : List Contour) (i : ℕ) (c : Contour) (p d : Point) → AreOutlines contours
    → i < length contours → p ≡ get_or (points_of (get_or contours i c)) 0 d
    → p ≡ first_point (contour_at (map points_of contours) i)
first_read contours i c p d h l e =
    e ∙ get_or_default (points_of (get_or contours i c)) 0 d origin (omega (arith, (h.each i c l).enough))
    ∙ ap (λ (ring : List Point). get_or ring 0 origin) (sym (get_or-map points_of contours i c [] l))
