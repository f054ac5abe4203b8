-- Two equal squares, one above the other, as a whole: they have no fault and one pair.
use Rattle.std.proofs.Common.{◌≡◌, ℕ, zero, suc, List, [], ◌∷◌, map, pos, refl, sym, ◌∙◌, inl, inr, arith, subst}
use Rattle.std.specs.Prelude.{All}
use Rattle.std.proofs.lemmas.Int.{ints}
use Rattle.fku_types.specs.Points.{square}
use Rattle.fku_types.specs.declared.points.Point.{Point}
use Rattle.fku_types.specs.declared.rules.CostRule.TheVariants.{Span}
use Rattle.fku_types.specs.declared.rules.PairRule.TheVariants.{Links}
use Rattle.plane_geom.specs.Rings.{around}
use Rattle.plane_geom.specs.Planes.{side}
use Rattle.plane_geom.specs.Segments.{SharePoint, ShareMore}
use Rattle.plane_geom.specs.Lengths.{distance_square}
use Rattle.plane_geom.specs.Nesting.{is_inside}
use Rattle.plane_geom.proofs.Neighbours.{steps_back}
use Rattle.plane_geom.proofs.SharedSigns.{opposite_sides}
use Rattle.section_core.specs.Parts.{span, LinkParts, Parts}
use Rattle.section_core.specs.ValidSections.{section_of}
use Rattle.correspondence.specs.Simple.{IsSimple}
use Rattle.correspondence.specs.Simple.AgainstRule.{following, closing, distant}
use Rattle.correspondence.specs.Nesting.{depth, ring_from, oriented}
use Rattle.ring_polygons.specs.Composites.{least_bridge}
use Rattle.correspondence.specs.Correspondences.{Correspond}
use Rattle.section_pairs.specs.Pairs.{PairParts, AreGaps, pairs_from, sides_from, IsShort}
use Rattle.section_pairs.specs.SectionFaults.{AreSound, AreWellLinked, ArePairs}
use Rattle.section_pairs.proofs.Worked.{squares, straight}
use Rattle.section_pairs.proofs.OneContours.{two_sound, two_short, one_gap}

-- ---- a square is simple

abbrev pub corner : ℕ → ℕ → ℕ → Point
corner x y z = record { x = pos x; y = pos y; z = pos z }

abbrev square_at : ℕ → List Point
square_at z = corner 0 0 z ∷ corner 10 0 z ∷ corner 10 10 z ∷ corner 0 10 z ∷ []

turns : (a b d : Point) → side a b d ≡ pos 100 → ShareMore a b d → ⊥
turns a b d e m = let z : pos 100 ≡ pos 0 = sym e ∙ (steps_back a b d m).line in absurd (cc)

beyond : (a b c d : Point) → side a b c ≡ pos 100 → side a b d ≡ pos 100 → SharePoint a b c d → ⊥
beyond a b c d e f m = elim (opposite_sides a b c d m).0
    [ inl h ↦ omega (arith, ints, e, h.0) | inr h ↦ omega (arith, ints, f, h.0) ]

square_simple : (z : ℕ) → IsSimple (square_at z)
unfolding around
square_simple z zero (suc zero) l k (following e m) = turns _ _ _ refl m
square_simple z zero (suc zero) l k (closing c m) = omega (arith, c.1)
square_simple z zero (suc zero) l k (distant n c m) = n refl
square_simple z zero (suc (suc zero)) l k (following e m) = omega (arith, e)
square_simple z zero (suc (suc zero)) l k (closing c m) = omega (arith, c.1)
square_simple z zero (suc (suc zero)) l k (distant n c m) = beyond _ _ _ _ refl refl m
square_simple z zero (suc (suc (suc zero))) l k (following e m) = omega (arith, e)
square_simple z zero (suc (suc (suc zero))) l k (closing c m) = turns _ _ _ refl m
square_simple z zero (suc (suc (suc zero))) l k (distant n c m) = c (refl, refl)
square_simple z (suc zero) (suc (suc zero)) l k (following e m) = turns _ _ _ refl m
square_simple z (suc zero) (suc (suc zero)) l k (closing c m) = omega (arith, c.0)
square_simple z (suc zero) (suc (suc zero)) l k (distant n c m) = n refl
square_simple z (suc zero) (suc (suc (suc zero))) l k (following e m) = omega (arith, e)
square_simple z (suc zero) (suc (suc (suc zero))) l k (closing c m) = omega (arith, c.0)
square_simple z (suc zero) (suc (suc (suc zero))) l k (distant n c m) = beyond _ _ _ _ refl refl m
square_simple z (suc (suc zero)) (suc (suc (suc zero))) l k (following e m) = turns _ _ _ refl m
square_simple z (suc (suc zero)) (suc (suc (suc zero))) l k (closing c m) = omega (arith, c.0)
square_simple z (suc (suc zero)) (suc (suc (suc zero))) l k (distant n c m) = n refl
square_simple z e zero l k t = omega (arith, l)
square_simple z (suc e) (suc zero) l k t = omega (arith, l)
square_simple z (suc (suc e)) (suc (suc zero)) l k t = omega (arith, l)
square_simple z (suc (suc (suc e))) (suc (suc (suc zero))) l k t = omega (arith, l)
square_simple z e (suc (suc (suc (suc f)))) l k t = omega (arith, k)

-- ---- squares have no fault beyond their text

abbrev pub linked : List LinkParts → Parts
linked links = record { cost = span; rule = Links; sections = squares.sections; links = links }

pub sound : AreSound (map section_of squares.sections)
sound = two_sound (97 ∷ []) (98 ∷ []) (pos 0) (pos 10) (square_at 0) (square_at 10) (square_simple 0) (square_simple 10)

squares_linked : AreWellLinked squares
squares_linked = record { sound = sound; links = λ k l. absurd (omega (arith, l)) }

-- ---- their one component

overlap : Correspond squares 0 0 0
unfolding depth is_inside around
overlap = record {
  below = omega arith;
  above = omega arith;
  agree = (
    refl,
    inl (record {
      e = 0;
      within = omega arith;
      edge =
          record {
            f = 0;
            within = omega arith;
            meet =
                record {
                  s = 0;
                  t = 0;
                  e = 1;
                  at =
                      record {
                        positive = omega arith;
                        on_first = omega arith;
                        on_second = omega arith;
                        x = refl;
                        y =
                            refl;
                      };
                };
          };
    }),
  );
}

gaps : AreGaps squares straight
gaps = one_gap squares refl refl refl overlap

-- ---- their one pair

abbrev pub pair : PairParts
pair = record {
  strip = record {
    low = square_at 0;
    low_ids = 0 ∷ 1 ∷ 2 ∷ 3 ∷ [];
    high = square_at 10;
    high_ids = 4 ∷ 5 ∷ 6 ∷ 7 ∷ [];
    cost = Span;
  };
  gap = 0;
  below = 0 ∷ [];
  above = 0 ∷ [];
}

its_pair : pairs_from squares 0 straight ≡ pair ∷ []
unfolding oriented ring_from depth is_inside least_bridge distance_square square
its_pair = refl

its_sides : sides_from squares 0 straight ≡ (1, 4) ∷ (2, 4) ∷ []
unfolding oriented ring_from depth is_inside least_bridge distance_square square
its_sides = refl

short : All IsShort (sides_from squares 0 straight)
short = subst (All IsShort) (sym its_sides) (two_short 4 4 (omega arith) (omega arith))

pub squares_paired : ArePairs squares (pair ∷ [])
squares_paired = record {
  linked = squares_linked;
  gaps = straight;
  are_gaps = gaps;
  short = short;
  pairs =
      sym its_pair;
}
