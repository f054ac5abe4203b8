-- The definitions at worked examples: the potential of two equal squares, one above the other.
use Rattle.std.proofs.Common.{◌≡◌, ℕ, zero, suc, ◌<◌, ◌≤◌, ℤ, pos, List, [], ◌∷◌, arith}
use mathlib.Core.Path.{refl}
use Rattle.std.specs.Prelude.{slice_index_or}
use Rattle.fku_types.specs.Points.{square}
use Rattle.plane_geom.specs.Rings.{around}
use Rattle.plane_geom.specs.Lengths.{distance_square}
use Rattle.strip_graph.specs.Words.{words_with, all_words}
use Rattle.strip_graph.specs.Strips.{arcs}
use Rattle.strip_graph.specs.Distances.{distance}
use Rattle.strip_graph.specs.Potentials.{potential}
use Rattle.strip_graph.specs.Certificates.{value_at}
use Rattle.strip_graph.proofs.Worked.{squares}
use Rattle.strip_potential.specs.Rows.{potential_at, HasRow, HasRows}

corners : (potential_at squares 0 0 ≡ pos 0) × (potential_at squares 4 4 ≡ pos 1200)
    × (potential_at squares 7 0 ≡ pos 1300)
unfolding arcs around distance_square square distance words_with all_words potential
corners = (refl, refl, refl)

abbrev row_0 : List ℤ
row_0 = pos 0 ∷ pos 200 ∷ pos 500 ∷ pos 700 ∷ pos 800 ∷ []

abbrev two_rows : List ℤ
two_rows = pos 0 ∷ pos 200 ∷ pos 500 ∷ pos 700 ∷ pos 800 ∷ pos 200 ∷ pos 300 ∷ pos 500 ∷ pos 800 ∷ pos 1000 ∷ []

first_row : HasRow squares 0 row_0
unfolding arcs around distance_square square distance words_with all_words potential
first_row = record { count = refl; are = are }
  where
    are : (c : ℕ) → c ≤ 4 → slice_index_or row_0 c (pos 0) ≡ potential_at squares 0 c
    are zero l = refl
    are (suc zero) l = refl
    are (suc (suc zero)) l = refl
    are (suc (suc (suc zero))) l = refl
    are (suc (suc (suc (suc zero)))) l = refl
    are (suc (suc (suc (suc (suc c))))) l = absurd (omega (arith, l))

first_two_rows : HasRows squares 2 two_rows
unfolding arcs around distance_square square distance words_with all_words potential
first_two_rows = record { count = refl; are = are }
  where
    are : (r c : ℕ) → r < 2 → c ≤ 4 → value_at 4 two_rows r c ≡ potential_at squares r c
    are zero zero k l = refl
    are zero (suc zero) k l = refl
    are zero (suc (suc zero)) k l = refl
    are zero (suc (suc (suc zero))) k l = refl
    are zero (suc (suc (suc (suc zero)))) k l = refl
    are (suc zero) zero k l = refl
    are (suc zero) (suc zero) k l = refl
    are (suc zero) (suc (suc zero)) k l = refl
    are (suc zero) (suc (suc (suc zero))) k l = refl
    are (suc zero) (suc (suc (suc (suc zero)))) k l = refl
    are (suc (suc r)) c k l = absurd (omega (arith, k))
    are zero (suc (suc (suc (suc (suc c))))) k l = absurd (omega (arith, l))
    are (suc zero) (suc (suc (suc (suc (suc c))))) k l = absurd (omega (arith, l))

-- a list with another value, or with a row too few, is none
another : HasRow squares 0 (pos 1 ∷ pos 200 ∷ pos 500 ∷ pos 700 ∷ pos 800 ∷ []) → ⊥
unfolding arcs around distance_square square distance words_with all_words potential
another h = let e : pos 1 ≡ pos 0 = h.are 0 (omega arith) in absurd (cc)

too_short : HasRows squares 2 row_0 → ⊥
too_short h = omega (arith, h.count)
