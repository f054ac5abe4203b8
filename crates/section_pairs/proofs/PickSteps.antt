-- The state of a loop that picks rings, with one more place.
use Rattle.std.proofs.Common.{◌≡◌, ◌+◌, ◌<◌, ◌++◌, List, [], ◌∷◌, ℕ, take, length, get_or, arith, subst, sym, All}
use Rattle.std.proofs.lemmas.Grind.{common_steps}
use Rattle.plane_geom.specs.declared.ring.Ring.{Ring}
use Rattle.plane_geom.specs.RingViews.{ring_view, ring_views, IsContour}
use Rattle.section_pairs.specs.Rings.{pick}
use Rattle.fku_types.proofs.ListLaws.{all_pushed}

pub picked_next : (rings : List Ring) (places : List ℕ) (i : ℕ) (old now : List Ring) (r copy : Ring)
    → i < length places → get_or places i 0 < length rings → r ≡ get_or rings (get_or places i 0) r
    → ring_views old ≡ pick (ring_views rings) (take i places) → ring_view copy ≡ ring_view r → now ≡ old ++ copy ∷ []
    → ring_views now ≡ pick (ring_views rings) (take (i + 1) places)
picked_next rings places i old now r copy lt there is so same more = grind (arith, common_steps)

pub contour_like : (a b : Ring) → ring_view a ≡ ring_view b → IsContour b → IsContour a
contour_like a b e k = grind (arith, common_steps)

pub contours_next : (rings old now : List Ring) (p : ℕ) (r copy : Ring) → p < length rings → r ≡ get_or rings p r
    → All IsContour rings → All IsContour old → ring_view copy ≡ ring_view r → now ≡ old ++ copy ∷ []
    → All IsContour now
contours_next rings old now p r copy there is all before same more =
    all_pushed IsContour old now copy more before (contour_like copy r same (subst IsContour (sym is) (all p r there)))
