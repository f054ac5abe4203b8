-- The definitions at worked examples: two equal squares, one above the other.
use Rattle.std.proofs.Common.{◌≡◌, ℕ, zero, suc, ◌<◌, ◌≤◌, pos, List, [], ◌∷◌, map, length, lit<, lit≤, arith}
use mathlib.Core.Path.{refl}
use Rattle.std.proofs.lemmas.Int.{ints}
use Rattle.std.specs.Prelude.{slice_index, slice_index_or}
use Rattle.fku_types.specs.Points.{square}
use Rattle.plane_geom.specs.Rings.{around}
use Rattle.plane_geom.specs.Lengths.{distance_square}
use Rattle.strip_graph.specs.declared.tilings.Step.{Step}
use Rattle.strip_graph.specs.declared.tilings.Step.TheVariants.{V, H}
use Rattle.strip_graph.specs.Words.{words_with, all_words}
use Rattle.strip_graph.specs.Strips.{arcs}
use Rattle.strip_graph.specs.Distances.{distance, offset, IsFirst}
use Rattle.strip_graph.proofs.Around.{arcs-periodic}
use Rattle.strip_graph.proofs.LeastWords.{first_none, first_v, first_h, first_h_last, chosen}
use Rattle.strip_graph.proofs.Worked.{squares}
use Rattle.row_paths.specs.Fans.{HasTurnCosts}
use Rattle.row_paths.specs.Solutions.{AreOffsets, Solution, Solves}
use Rattle.row_paths.specs.StripCosts.{largest}
use Rattle.row_paths.specs.declared.gaps.Gap.{Gap}
use Rattle.row_paths.specs.declared.tables.Table.{Table}
use Rattle.row_paths.specs.Tables.{IsTableOf}
use Rattle.row_paths.specs.Turns.{start_of, end_of, cost_of, AreCosts, IsGap}

-- the words go from row 0 to row 4, from 0 to 5, from 1 to 5, and so on
turns : (map start_of (0 ∷ 1 ∷ 2 ∷ 3 ∷ 4 ∷ 5 ∷ 6 ∷ []) ≡ 0 ∷ 0 ∷ 1 ∷ 1 ∷ 2 ∷ 2 ∷ 3 ∷ [])
    × (map (end_of 4) (0 ∷ 1 ∷ 2 ∷ 3 ∷ 4 ∷ 5 ∷ 6 ∷ []) ≡ 4 ∷ 5 ∷ 5 ∷ 6 ∷ 6 ∷ 7 ∷ 7 ∷ [])
turns = (refl, refl)

turn_costs : map (cost_of (arcs squares) 4 4) (0 ∷ 1 ∷ 2 ∷ 3 ∷ 4 ∷ 5 ∷ 6 ∷ []) ≡ 1200 ∷ 1400 ∷ 1200 ∷ 1500 ∷ 1400 ∷ 1400
    ∷ 1200 ∷ []
unfolding arcs around distance_square square distance words_with all_words
turn_costs = refl

costs_are : AreCosts (arcs squares) 4 4 7 (1200 ∷ 1400 ∷ 1200 ∷ 1500 ∷ 1400 ∷ 1400 ∷ 1200 ∷ [])
unfolding arcs around distance_square square distance words_with all_words
costs_are = record { count = refl; are = are }
  where
    are : (q : ℕ) → q < 7 → slice_index (1200 ∷ 1400 ∷ 1200 ∷ 1500 ∷ 1400 ∷ 1400 ∷ 1200 ∷ []) q
        ≡ cost_of (arcs squares) 4 4 q
    are zero l = refl
    are (suc zero) l = refl
    are (suc (suc zero)) l = refl
    are (suc (suc (suc zero))) l = refl
    are (suc (suc (suc (suc zero)))) l = refl
    are (suc (suc (suc (suc (suc zero))))) l = refl
    are (suc (suc (suc (suc (suc (suc zero)))))) l = refl
    are (suc (suc (suc (suc (suc (suc (suc q))))))) l = absurd (omega (arith, l))

offset_at : (l : ℕ) → l < 4 → slice_index_or (pos 0 ∷ pos 200 ∷ pos 300 ∷ pos 500 ∷ []) l (pos 0)
    ≡ offset (arcs squares) 4 4 l
unfolding arcs around distance_square square distance words_with all_words
offset_at zero l = refl
offset_at (suc zero) l = refl
offset_at (suc (suc zero)) l = refl
offset_at (suc (suc (suc zero))) l = refl
offset_at (suc (suc (suc (suc k)))) l = absurd (omega (arith, l))

-- the offsets of the squares, and a list that is too short for them
offsets_are : AreOffsets (arcs squares) 4 4 4 (pos 0 ∷ pos 200 ∷ pos 300 ∷ pos 500 ∷ [])
offsets_are = record { count = refl; are = offset_at }

offsets_missing : AreOffsets (arcs squares) 4 4 4 (pos 0 ∷ []) → ⊥
offsets_missing h = omega (arith, h.count)

abbrev pub by_turns : List Step
by_turns = V ∷ H ∷ V ∷ H ∷ V ∷ H ∷ V ∷ H ∷ []

by_turns_first : IsFirst (arcs squares) 0 0 4 4 by_turns
unfolding arcs around distance_square square distance words_with all_words
by_turns_first =
    let a = arcs squares in
    let last = first_v a 3 3 0 1 (H ∷ []) refl (first_h_last a 4 3 0 [] (first_none a 4 4)) in
    let third = first_v a 2 2 1 2 (H ∷ V ∷ H ∷ []) refl (first_h a 3 2 0 1 (V ∷ H ∷ []) (lit< tt) last) in
    let second = first_v a 1 1 2 3 (H ∷ V ∷ H ∷ V ∷ H ∷ []) refl
    (first_h a 2 1 1 2 (V ∷ H ∷ V ∷ H ∷ []) (lit< tt) third) in
    first_v a 0 0 3 4 (H ∷ V ∷ H ∷ V ∷ H ∷ V ∷ H ∷ []) refl
    (first_h a 1 0 2 3 (V ∷ H ∷ V ∷ H ∷ V ∷ H ∷ []) (lit< tt) second)

least_row : (k : ℕ) → k < 4 → distance (arcs squares) 0 0 4 4 ≤ distance (arcs squares) k 0 4 4
unfolding arcs around distance_square square distance words_with all_words
least_row zero l = lit≤ tt
least_row (suc zero) l = lit≤ tt
least_row (suc (suc zero)) l = lit≤ tt
least_row (suc (suc (suc zero))) l = lit≤ tt
least_row (suc (suc (suc (suc k)))) l = absurd (omega (arith, l))

abbrev pub squares_solution : Solution
squares_solution = record { row = 0; word = by_turns; cost = pos 1200 }

-- the solution of the squares, as a whole
pub squares_solved : Solves squares squares_solution
unfolding arcs around distance_square square
squares_solved = record {
  chosen = chosen (arcs squares) 4 4 0 by_turns (arcs-periodic squares) (lit< tt) (lit< tt) least_row
      (λ k l. absurd (omega (arith, l))) by_turns_first;
  cost = refl;
}

-- with another cost it is none
pub not_solved : Solves squares (record squares_solution { cost = pos 1300 }) → ⊥
unfolding arcs around distance_square square
not_solved h = let e : pos 1300 ≡ pos 1200 = h.cost in omega (arith, ints, e)

turn_between : HasTurnCosts (arcs squares) 4 4 0 2 (400 ∷ []) (0 ∷ 0 ∷ 0 ∷ 0 ∷ 0 ∷ 1000 ∷ [])
unfolding arcs around distance_square square distance words_with all_words
turn_between zero from to = absurd (omega (arith, from))
turn_between (suc zero) from to = refl
turn_between (suc (suc k)) from to = absurd (omega (arith, to))

-- the largest cost of a step with which a word of the squares costs at most 1,200
most : largest 1200 squares ≡ 100
most = refl

-- ---- what a search of the squares keeps

table_of_squares : {C : Type 0} (t : Table C) → IsTableOf squares t → (5 ≤ length t.sums.items)
    × (40 ≤ length t.ways.items) × (8 ≤ length t.starts.items) × (8 ≤ length t.ends.items)
table_of_squares t h = (h.sums, h.ways, h.starts, h.ends)

gap_of_squares : (gap : Gap) → IsGap squares gap → (gap.last ≤ 6) × (length gap.hi.now ≡ 9) × (length gap.lo.now ≡ 9)
gap_of_squares gap h = (omega (arith, h.last), h.hi, h.lo)
