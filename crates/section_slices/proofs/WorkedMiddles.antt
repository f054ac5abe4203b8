-- The definitions at worked examples.
use Rattle.std.proofs.Common.{◌≡◌, ℕ, List, [], ◌∷◌, pos, negsuc, refl, true, false, ℤ}
use Rattle.std.specs.Prelude.{codes}
use Rattle.std.specs.Fmt.{digits}
use Rattle.fku_types.specs.declared.points.Point.{Point}
use Rattle.fku_types.specs.declared.points.Spot.{Spot}
use Rattle.fku_types.specs.declared.rules.CostRule.TheVariants.{Span}
use Rattle.fku_types.specs.declared.rules.PairRule.TheVariants.{Overlap, Links}
use Rattle.section_core.specs.Parts.{span, Parts, SectionParts, LinkParts}
use Rattle.correspondence.specs.Outlines.{layer_at}
use Rattle.plane_geom.specs.Rings.{around}
use Rattle.strip_graph.specs.declared.slices.Cut.{Cut}
use Rattle.strip_graph.specs.declared.tilings.Step.TheVariants.{V, H}
use Rattle.row_paths.specs.Solutions.{Solution}
use Rattle.section_pairs.specs.Pairs.{PairParts}
use Rattle.section_slices.specs.Roundings.{rounded, rounded_loop, opened_loop}
use Rattle.section_slices.specs.Densified.{is_dense, middle_height, middle_name, middle_outline, contour_through, dense_links, marked_links, densified, is_at_height_of}

abbrev cut : ℤ → ℤ → Cut
cut x y = record { x = x; y = y }

abbrev spot : ℕ → ℕ → Spot
spot x y = record { x = pos x; y = pos y }

-- halves are rounded upwards, below 0 too
halves : (rounded 10 (pos 14) ≡ pos 1) × (rounded 10 (pos 15) ≡ pos 2) × (rounded 10 (negsuc 4) ≡ pos 0)
    × (rounded 10 (negsuc 14) ≡ negsuc 0) × (rounded 10 (negsuc 15) ≡ negsuc 1) × (rounded 1 (negsuc 6) ≡ negsuc 6)
halves = (refl, refl, refl, refl, refl, refl)

-- three points with one rounded spot, and one below 0
one_spot : rounded_loop 10 (cut (pos 0) (pos 0) ∷ cut (pos 1) (pos 0) ∷ cut (pos 0) (pos 1) ∷ []) ≡ spot 0 0 ∷ []
one_spot = refl

half_below : rounded_loop 10 (cut (negsuc 4) (pos 5) ∷ []) ≡ spot 0 1 ∷ []
half_below = refl

-- a spot may occur again, but not beside itself, and not at the end if it is the first
back_again : rounded_loop 1 (cut (pos 0) (pos 0) ∷ cut (pos 4) (pos 0) ∷ cut (pos 4) (pos 0) ∷ cut (pos 0) (pos 0)
    ∷ cut (pos 4) (pos 4) ∷ cut (pos 0) (pos 0) ∷ []) ≡ spot 0 0 ∷ spot 4 0 ∷ spot 0 0 ∷ spot 4 4 ∷ []
back_again = refl

-- all spots that are the same as the first are removed from the end
end_goes : opened_loop (spot 0 0 ∷ spot 4 0 ∷ spot 0 0 ∷ spot 0 0 ∷ []) ≡ spot 0 0 ∷ spot 4 0 ∷ []
end_goes = refl

abbrev corner : ℕ → ℕ → ℕ → Point
corner x y z = record { x = pos x; y = pos y; z = pos z }

abbrev square_at : ℕ → List Point
square_at z = corner 0 0 z ∷ corner 10 0 z ∷ corner 10 10 z ∷ corner 0 10 z ∷ []

abbrev square : List Spot
square = spot 0 0 ∷ spot 10 0 ∷ spot 10 10 ∷ spot 0 10 ∷ []

abbrev square_section : ℕ → List ℕ → SectionParts
square_section z name = record { z = pos z; contours = contour_through name square ∷ [] }

-- two equal squares, a at height 0 and b above it
abbrev two_squares : ℕ → Parts
two_squares z = record {
  cost = span;
  rule = Overlap;
  sections =
      square_section 0 (codes "a") ∷ square_section z (codes "b") ∷ [];
  links = [];
}

abbrev between : ℕ → PairParts
between z = record {
  strip = record { low = square_at 0; low_ids = []; high = square_at z; high_ids = []; cost = Span };
  gap = 0;
  below = 0 ∷ [];
  above = 0 ∷ [];
}

abbrev straight : Solution
straight = record { row = 0; word = V ∷ H ∷ V ∷ H ∷ V ∷ H ∷ V ∷ H ∷ []; cost = pos 1200 }

-- their gap is dense from a rise of 2 on, but not if a pair has two contours on a side
dense : (is_dense (two_squares 10) (between 10 ∷ []) 0 ≡ true) × (is_dense (two_squares 2) (between 2 ∷ []) 0 ≡ true)
    × (is_dense (two_squares 1) (between 1 ∷ []) 0 ≡ false) × (is_dense (two_squares 10) [] 0 ≡ false)
dense = (refl, refl, refl, refl)

not_dense : is_dense (two_squares 10) (between 10 ∷ record (between 10) { above = 1 ∷ 2 ∷ [] } ∷ []) 0 ≡ false
not_dense = refl

-- no gap lies above the last section
none_above : is_dense (two_squares 10) (between 10 ∷ []) 1 ≡ false
none_above = refl

-- the middle height is rounded down
middles : (middle_height (two_squares 10) 0 ≡ pos 5) × (middle_height (two_squares 9) 0 ≡ pos 4)
    × (middle_height (two_squares 2) 0 ≡ pos 1)
middles = (refl, refl, refl)

names : (middle_name 0 ≡ codes "m1") × (middle_name 9 ≡ codes "m10") × (middle_name 65535 ≡ codes "m65536")
unfolding digits
names = (refl, refl, refl)

abbrev eight : List Spot
eight = spot 0 0 ∷ spot 5 0 ∷ spot 10 0 ∷ spot 10 5 ∷ spot 10 10 ∷ spot 5 10 ∷ spot 0 10 ∷ spot 0 5 ∷ []

middle : middle_outline (two_squares 10) (between 10) straight ≡ eight
unfolding around
middle = refl

abbrev linked : List ℕ → List ℕ → LinkParts
linked below above = record { below = below; above = above }

-- the squares with their middle section
with_middle : densified (two_squares 10) (between 10 ∷ []) (eight ∷ [])
    (dense_links (layer_at (two_squares 10) 0) (layer_at (two_squares 10) 1) (between 10 ∷ []) 0 ∷ []) ≡ record {
      cost = span;
      rule = Links;
      sections = square_section 0 (codes "a") ∷ record { z = pos 5; contours = contour_through (codes "m1") eight ∷ [] }
          ∷ square_section 10 (codes "b") ∷ [];
      links = linked (codes "a") (codes "m1") ∷ linked (codes "m1") (codes "b") ∷ [];
    }
unfolding digits
with_middle = refl

-- too close for a middle section: the contours that correspond are linked
without_middle : densified (two_squares 1) (between 1 ∷ []) ([] ∷ [])
    (marked_links (layer_at (two_squares 1) 0) (layer_at (two_squares 1) 1) (λ i j. true) ∷ []) ≡ record {
      cost = span;
      rule = Links;
      sections = square_section 0 (codes "a") ∷ square_section 1 (codes "b") ∷ [];
      links = linked (codes "a") (codes "b") ∷ [];
    }
without_middle = refl

-- which sections are given ones
old : (is_at_height_of (two_squares 10) (square_section 10 (codes "c")) ≡ true)
    × (is_at_height_of (two_squares 10) (square_section 5 (codes "c")) ≡ false)
old = (refl, refl)
