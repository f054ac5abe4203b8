-- Sections with a first fault: a link that names an unknown contour, and a contour that turns back.
use Rattle.std.proofs.Common.{ℕ, List, [], ◌∷◌, pos, refl, inl, inr, arith}
use Rattle.std.proofs.lemmas.List.Elements.{All-nil}
use Rattle.fku_types.specs.declared.points.Point.{Point}
use Rattle.fku_types.specs.declared.rules.PairRule.TheVariants.{Links}
use Rattle.fku_types.specs.declared.fault.LinkCause.TheVariants.{Unknown}
use Rattle.fku_types.specs.declared.fault.Fault.TheVariants.{SelfCrossing, Link}
use Rattle.plane_geom.specs.Rings.{around}
use Rattle.plane_geom.specs.Nesting.{is_inside}
use Rattle.section_core.specs.Parts.{span, ContourParts, LinkParts, Parts}
use Rattle.correspondence.specs.Simple.AgainstRule.{following}
use Rattle.correspondence.specs.Nesting.{depth}
use Rattle.correspondence.specs.Links.{cause_of, IsFirstBad}
use Rattle.section_pairs.specs.SectionFaults.{IsSimpleContour, HasSelfCrossing, IsFound}
use Rattle.section_pairs.proofs.Worked.{at, contour}
use Rattle.section_pairs.proofs.WorkedSquares.{corner, linked, sound}

link : ℕ → ℕ → LinkParts
link below above = record { below = below ∷ []; above = above ∷ [] }

-- squares whose one link names an unknown contour
unknown : IsFirstBad (linked (link 97 122 ∷ [])) 0 (97 ∷ []) (122 ∷ []) Unknown
unfolding cause_of depth is_inside link
unknown = record {
  there = omega arith;
  good_before = λ k l. absurd (omega (arith, l));
  cause = refl;
  below = refl;
  above = refl;
}

bad_link : IsFound (linked (link 97 122 ∷ [])) (Link (97 ∷ []) (122 ∷ []) Unknown)
bad_link = IsFound.in_links (97 ∷ []) (122 ∷ []) Unknown 0 sound unknown

-- a contour that turns back along its first edge, over the same links: its fault comes first
abbrev back : ContourParts
back = contour 97 ((pos 0, pos 0) ∷ (pos 9, pos 0) ∷ (pos 4, pos 0) ∷ (pos 0, pos 7) ∷ [])

abbrev turned_back : Parts
turned_back = record { cost = span; rule = Links; sections = at 0 (back ∷ []) ∷ []; links = link 97 122 ∷ [] }

abbrev back_at : List Point
back_at = corner 0 0 0 ∷ corner 9 0 0 ∷ corner 4 0 0 ∷ corner 0 7 0 ∷ []

edges_0_and_1 : HasSelfCrossing (97 ∷ [], back_at) (SelfCrossing (97 ∷ []) 0 1)
unfolding around
edges_0_and_1 = (
  refl,
  record {
    ordered = omega arith;
    within = omega arith;
    related = following refl (record {
      s = 4;
      t = 9;
      e = 9;
      at =
          record { positive = omega arith; on_first = omega arith; on_second = omega arith; x = refl; y = refl };
      more =
          λ f. absurd (omega (arith, f));
    });
    first = λ g h l k b r. elim b [ inl lt ↦ omega (arith, lt) | inr same ↦ omega (arith, l, same.0, same.1) ];
  },
)

bad_contour : IsFound turned_back (SelfCrossing (97 ∷ []) 0 1)
bad_contour = IsFound.in_contours (SelfCrossing (97 ∷ []) 0 1)
    (inl (record {
      before = [];
      item = (97 ∷ [], back_at);
      after = [];
      split = refl;
      good_before =
          All-nil IsSimpleContour;
      has = edges_0_and_1;
    }))
