-- Two sweeps and a search give the chosen tiling.
use Rattle.std.proofs.Common.{◌≡◌, ◌∙◌, ℕ, ◌+◌, ◌*◌, ◌<◌, ℤ, pos, ◌+ℤ◌, ◌≤ℤ◌, ◌<ℤ◌, List, Bool, ◌++◌, length, ap, sym, subst, arith}
use Rattle.std.proofs.lemmas.Int.{ints}
use Rattle.std.proofs.lemmas.List.{get_or_append_left}
use Rattle.strip_graph.specs.declared.tilings.Step.{Step}
use Rattle.strip_graph.specs.Words.{Arcs, word_cost}
use Rattle.strip_graph.specs.Tilings.{IsChosen}
use Rattle.strip_graph.specs.Distances.{IsFirst}
use Rattle.strip_graph.specs.Feasible.{IsRowPeriodic, IsForward, IsForwardRound, AreTurnBounds, IsFirstTurn, lifted, lifted_row}
use Rattle.strip_graph.proofs.WordLaws.{Periodic}
use Rattle.strip_graph.proofs.FeasibleLaws.{first_turn_of_bounds, chosen_of_turn}
use Rattle.strip_graph.proofs.FeasibleRounds.{forward_of_round}
use Rattle.round_sweeps.specs.Columns.{at_row, table_at}
use Rattle.round_sweeps.specs.Searched.{spell, guarded}
use Rattle.round_sweeps.specs.Searches.{way_at, IsMet}
use Rattle.round_sweeps.specs.Starts.{AreStarts}
use Rattle.round_sweeps.proofs.RoundLaws.{row_low}
use Rattle.round_sweeps.proofs.SearchLaws.{met_is_first}

-- where a search meets the start of the first turn of the least bound, its word is the chosen tiling's, and costs that
-- bound
pub chosen_by_search : (a : Arcs) (m n : ℕ) (s : ℤ) (x : ℕ → ℤ) (table : List ℤ) (ways : List Bool) (i : ℕ) (limit : ℤ)
    (low : ℕ → ℤ) (w : List Step) → Periodic a m n → 0 < n → IsForwardRound a m n s x (table_at m table)
    → AreTurnBounds a m n low → i < m → ((k : ℕ) → k < m → low i ≤ℤ low k) → ((k : ℕ) → k < i → low i <ℤ low k)
    → limit ≡ at_row table i +ℤ low i → IsMet a m n s table i limit ways
    → w ≡ spell (guarded m n (way_at m ways)) (m + n) 0 0 → IsChosen a m n i w × (pos (word_cost a i 0 w) ≡ low i)
chosen_by_search a m n s x table ways i limit low w p some h bounds lt least first is met spelt =
    let rows : IsRowPeriodic a m = record { row = p.row } in
    let phi = lifted m s (table_at m table) in
    let f : IsForward a n (lifted_row m s x) phi =
    forward_of_round a m n s x (table_at m table) rows (omega (arith, lt)) h in
    let g = met_is_first a (lifted_row m s x) phi i m n limit met.costs (way_at m ways) f met.searched met.left in
    let word : IsFirst a i 0 m n w = subst (λ (u : List Step). IsFirst a i 0 m n u) (sym spelt) g.0 in
    let same : word_cost a i 0 w ≡ word_cost a i 0 (spell (guarded m n (way_at m ways)) (m + n) 0 0) =
    ap (word_cost a i 0) spelt in
    let d : 0 * m + i ≡ i = omega arith in
    let here : phi i 0 ≡ at_row table i = row_low m s (λ r. table_at m table r 0) i lt ∙ ap (at_row table) d in
    let le : pos (word_cost a i 0 w) ≤ℤ low i = omega (arith, ints, g.1, same, here, is) in
    let t : IsFirstTurn a m n i (word_cost a i 0 w) =
    first_turn_of_bounds a m n i w low bounds lt word.letters le least first in (
      (chosen_of_turn a m n i (word_cost a i 0 w) w p some t word).0,
      omega (arith, ints, le, bounds i lt w word.letters),
    )

-- column 0 in front of a table
pub starts_joined : (rates : List ℤ) (s : ℤ) (column rest : List ℤ) → length column ≡ length rates
    → AreStarts rates s column → AreStarts rates s (column ++ rest)
starts_joined rates s column rest e h = record {
  down = λ r lt. omega (arith, ints, h.down r lt, left r (omega (arith, lt)), left (r + 1) lt);
  seam = λ r is. omega (arith, ints, h.seam r is, left 0 (omega (arith, is)), left r (omega (arith, is)));
  least = λ r lt. omega (arith, ints, h.least r lt, left r lt);
  most = λ r lt. omega (arith, ints, h.most r lt, left r lt);
}
  where
    left : (r : ℕ) → r < length rates → at_row (column ++ rest) r ≡ at_row column r
    left r lt = get_or_append_left column rest (pos 0) r (omega (arith, lt, e))
