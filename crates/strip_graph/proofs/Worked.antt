-- The definitions at worked examples: two equal squares, and the same with the upper one listed from its opposite
-- corner.
use Rattle.std.proofs.Common.{◌≡◌, ℕ, zero, suc, List, [], ◌∷◌, pos, arith}
use mathlib.Core.Path.{refl}
use Rattle.fku_types.specs.declared.points.Point.{Point}
use Rattle.fku_types.specs.declared.rules.CostRule.TheVariants.{Span, Mix}
use Rattle.fku_types.specs.Rules.{IsWeighted}
use Rattle.fku_types.specs.Points.{square}
use Rattle.strip_graph.specs.declared.tilings.Step.TheVariants.{V, H}
use Rattle.strip_graph.specs.declared.tilings.Step.{Step}
use Rattle.strip_graph.specs.Words.{Arcs, HasLetters, IsNotAfter, word_cost, words_with, all_words}
use Rattle.strip_graph.specs.Tilings.{IsAcceptable, IsLeast, IsChosen}
use Rattle.plane_geom.specs.Rings.{around}
use Rattle.plane_geom.specs.Lengths.{distance_square}
use Rattle.strip_graph.specs.Strips.{Strip, area_square, arcs}
use Rattle.strip_graph.specs.Distances.{distance, offset}
use Rattle.strip_graph.specs.Potentials.{potential}
use Rattle.strip_graph.specs.declared.slices.Cut.{Cut}
use Rattle.strip_graph.specs.Slices.{slice_loop}

abbrev pub corner : ℕ → ℕ → ℕ → Point
corner x y z = record { x = pos x; y = pos y; z = pos z }

abbrev pub square_at : ℕ → List Point
square_at z = corner 0 0 z ∷ corner 10 0 z ∷ corner 10 10 z ∷ corner 0 10 z ∷ []

abbrev turned_at : ℕ → List Point
turned_at z = corner 10 10 z ∷ corner 0 10 z ∷ corner 0 0 z ∷ corner 10 0 z ∷ []

abbrev pub squares : Strip
squares = record { low = square_at 0; low_ids = []; high = square_at 10; high_ids = []; cost = Span }

abbrev turned : Strip
turned = record { low = square_at 0; low_ids = []; high = turned_at 10; high_ids = []; cost = Span }

squares_word : word_cost (arcs squares) 0 0 (V ∷ H ∷ V ∷ H ∷ V ∷ H ∷ V ∷ H ∷ []) ≡ 1200
unfolding arcs around distance_square square
squares_word = refl

-- twice the spans and once the areas: 2 * 1200, and 10,000 for each of eight tiles
mixed_word : (word_cost (arcs (record squares { cost = Mix 2 1 })) 0 0 (V ∷ H ∷ V ∷ H ∷ V ∷ H ∷ V ∷ H ∷ []) ≡ 82400)
    × (word_cost (arcs (record squares { cost = Mix 0 3 })) 0 0 (V ∷ H ∷ V ∷ H ∷ V ∷ H ∷ V ∷ H ∷ []) ≡ 240000)
unfolding arcs around distance_square square area_square
mixed_word = (refl, refl)

-- which weights are allowed
weights : IsWeighted (Mix 1000 0) × IsWeighted (Mix 0 1000) × (IsWeighted (Mix 0 0) → ⊥) × (IsWeighted (Mix 1001 1) → ⊥)
weights = (
  (omega arith, omega arith, omega arith),
  (omega arith, omega arith, omega arith),
  (λ w. omega (arith, w.2)),
  λ w. omega (arith, w.0),
)

squares_distance : distance (arcs squares) 0 0 4 4 ≡ 1200
unfolding arcs around distance_square square distance words_with all_words
squares_distance = refl

turned_word : word_cost (arcs turned) 1 0 (V ∷ V ∷ H ∷ V ∷ H ∷ V ∷ H ∷ H ∷ []) ≡ 1200
unfolding arcs around distance_square square
turned_word = refl

turned_distance : distance (arcs turned) 0 0 4 4 ≡ 1400
unfolding arcs around distance_square square distance words_with all_words
turned_distance = refl

turned_distance_one : distance (arcs turned) 1 0 4 4 ≡ 1200
unfolding arcs around distance_square square distance words_with all_words
turned_distance_one = refl

squares_offset : offset (arcs squares) 4 4 1 ≡ pos 200
unfolding arcs around distance_square square distance words_with all_words
squares_offset = refl

squares_offsets : (offset (arcs squares) 4 4 2 ≡ pos 300) × (offset (arcs squares) 4 4 3 ≡ pos 500)
unfolding arcs around distance_square square distance words_with all_words
squares_offsets = (refl, refl)

squares_potential : (potential (arcs squares) 4 4 1 1 ≡ pos 300) × (potential (arcs squares) 4 4 3 1 ≡ pos 800)
    × (potential (arcs squares) 4 4 4 3 ≡ pos 1100)
unfolding arcs around distance_square square distance words_with all_words potential
squares_potential = (refl, refl, refl)

abbrev at : ℕ → ℕ → Cut
at x y = record { x = pos x; y = pos y }

squares_loop : slice_loop squares 10 5 0 0 (V ∷ H ∷ V ∷ H ∷ V ∷ H ∷ V ∷ H ∷ []) ≡ at 0 0 ∷ at 50 0 ∷ at 100 0
    ∷ at 100 50 ∷ at 100 100 ∷ at 50 100 ∷ at 0 100 ∷ at 0 50 ∷ []
unfolding around
squares_loop = refl

-- every step costs 1
abbrev even : Arcs
even i j s = 1

-- a step V from column 0 costs 5, every other step 1
abbrev steep : Arcs
steep i zero V = 5
steep i (suc j) V = 1
steep i j H = 1

even_cost : (i j : ℕ) (w : List Step) → HasLetters 1 1 w → word_cost even i j w ≡ 2
even_cost i j (V ∷ H ∷ []) l = refl
even_cost i j (H ∷ V ∷ []) l = refl
even_cost i j [] l = absurd (omega (arith, l.v))
even_cost i j (V ∷ []) l = absurd (omega (arith, l.h))
even_cost i j (H ∷ []) l = absurd (omega (arith, l.v))
even_cost i j (V ∷ V ∷ w) l = absurd (omega (arith, l.v))
even_cost i j (H ∷ H ∷ w) l = absurd (omega (arith, l.h))
even_cost i j (V ∷ H ∷ V ∷ w) l = absurd (omega (arith, l.v))
even_cost i j (V ∷ H ∷ H ∷ w) l = absurd (omega (arith, l.h))
even_cost i j (H ∷ V ∷ V ∷ w) l = absurd (omega (arith, l.v))
even_cost i j (H ∷ V ∷ H ∷ w) l = absurd (omega (arith, l.h))

v_first : (w : List Step) → HasLetters 1 1 w → IsNotAfter (V ∷ H ∷ []) w
v_first [] l = absurd (omega (arith, l.v))
v_first (H ∷ w) l = tt
v_first (V ∷ []) l = absurd (omega (arith, l.h))
v_first (V ∷ V ∷ w) l = absurd (omega (arith, l.v))
v_first (V ∷ H ∷ w) l = tt

one_row : (w : List Step) → HasLetters 1 1 w → IsAcceptable 1 1 0 0 w
one_row w l = record { row = omega arith; col = omega arith; letters = l }

-- of words that cost the same, the one with V first is chosen
chosen_on_ties : IsChosen even 1 1 0 (V ∷ H ∷ [])
chosen_on_ties = record {
  least = record {
    acceptable = one_row (V ∷ H ∷ []) (record { v = refl; h = refl });
    least = λ i j w a. omega (arith, even_cost i j w a.letters);
  };
  first_row = λ i w l. omega arith;
  first_word = λ w l. v_first w l.acceptable.letters;
}

-- a word that costs more than another is not least
dearer_is_not_least : IsLeast steep 1 1 0 0 (V ∷ H ∷ []) → ⊥
dearer_is_not_least l = omega (arith, l.least 0 0 (H ∷ V ∷ []) (one_row (H ∷ V ∷ []) (record { v = refl; h = refl })))
