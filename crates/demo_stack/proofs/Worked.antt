-- Worked values, by computation.
use Rattle.std.proofs.Common.{◌≡◌, ◌∷◌, [], pos, negsuc, refl}
use Rattle.std.specs.Prelude.{codes}
use Rattle.std.specs.Fmt.{digits}
use Rattle.section_core.specs.Parts.{span}
use Rattle.fku_types.specs.declared.rules.PairRule.TheVariants.{Overlap}
use Rattle.demo_stack.specs.Demo.{state_after, radius, place, name, direction, demo_vertex, demo}

states : (state_after 7 1 ≡ 1282168116) × (state_after 7 2 ≡ 642666333) × (state_after 7 3 ≡ 712265938)
unfolding state_after
states = (refl, refl, refl)

-- the corners of the square, and the last place of each side
directions : (direction 0 ≡ (pos 1000, negsuc 999)) × (direction 1999 ≡ (pos 1000, pos 999))
    × (direction 2000 ≡ (pos 1000, pos 1000)) × (direction 3999 ≡ (negsuc 998, pos 1000))
    × (direction 4000 ≡ (negsuc 999, pos 1000)) × (direction 5999 ≡ (negsuc 999, negsuc 998))
    × (direction 6000 ≡ (negsuc 999, negsuc 999)) × (direction 7999 ≡ (pos 999, negsuc 999))
directions = (refl, refl, refl, refl, refl, refl, refl, refl)

-- the first vertex of seed 7
vertex : demo_vertex 7 100 0 0 ≡ (pos 164000, negsuc 163999)
unfolding state_after
vertex = refl

-- a whole stack of one triangle
triangle : demo 7 1 3 ≡ record {
  cost = span;
  rule = Overlap;
  sections = record {
    z = pos 0;
    contours =
        record {
          name = codes "c0";
          count = pos 3;
          points =
              (pos 164000, negsuc 163999) ∷ (pos 35404, pos 106000) ∷ (negsuc 167999, negsuc 55943) ∷ [];
        } ∷ [];
  } ∷ [];
  links = [];
}
unfolding demo state_after digits
triangle = refl

-- names have no leading zeros
names : (name 0 ≡ codes "c0") × (name 9 ≡ codes "c9") × (name 10 ≡ codes "c10") × (name 63 ≡ codes "c63")
unfolding digits
names = (refl, refl, refl, refl)

-- the least and the greatest radius
radii : (radius 1282168116 ≡ 164) × (radius 0 ≡ 100) × (radius 65535 ≡ 100) × (radius 65536 ≡ 101)
    × (radius 6553599 ≡ 199) × (radius 6553600 ≡ 100)
radii = (refl, refl, refl, refl, refl, refl)

-- places are rounded down
places : (place 0 7 ≡ 0) × (place 1 7 ≡ 1142) × (place 6 7 ≡ 6857) × (place 999 1000 ≡ 7992)
places = (refl, refl, refl, refl)
