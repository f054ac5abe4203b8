use Rattle.std.proofs.Common.{◌≡◌, ℕ, ◌<◌, pos, neg_ℤ, ◌≤ℤ◌, arith, to_z, of_z, w64}
use Rattle.std.proofs.lemmas.Int.{ints, to_z-of_z}
use Rattle.strip_graph.specs.Words.{word_cost}
use Rattle.strip_graph.specs.Tilings.{IsChosen}
use Rattle.round_sweeps.specs.Columns.{start_limit, value_limit, at_row}
use Rattle.round_sweeps.proofs.OfColumnLaws.{first_number}
use Rattle.round_sweeps.proofs.ChosenLaws.{chosen_by_search}
use Rattle.round_sweeps.proofs.choosing.find_turn.Given as given
use Rattle.round_sweeps.proofs.choosing.find_turn.Goals as goal
use Rattle.round_sweeps.proofs.choosing.find_turn.Goals.{After-first_least-row, In_ok-word}

-- the number of the row of the least bound
number : (g : given.Over) (c : After-first_least-row g)
    → (neg_ℤ start_limit ≤ℤ at_row c.args.table.now c.first_least-row.result)
    × (at_row c.args.table.now c.first_least-row.result ≤ℤ value_limit)
number g c = first_number c.args.rows c.first_least-row.result c.args.table.now
    (omega (arith, c.first_least-row.ensures.within, c.requires.bounds_rows)) (c.requires.table.inside 0 (omega arith))

pub limit_of-requires-clause-number_least : goal.limit_of-requires-clause-number_least
limit_of-requires-clause-number_least g c =
    let b = number g (goal.at.limit_of-requires-clause-number_least g c).After-first_least-row in
    omega (arith, ints, b.0, b.1)

pub limit_of-requires-clause-number_most : goal.limit_of-requires-clause-number_most
limit_of-requires-clause-number_most g c =
    let b = number g (goal.at.limit_of-requires-clause-number_most g c).After-first_least-row in
    omega (arith, ints, b.0, b.1)

pub search_turn-requires-clause-search : goal.search_turn-requires-clause-search
search_turn-requires-clause-search g c = record {
  table_fits = rw (to_z-of_z w64 c.args.round c.ranges.round) c.requires.table;
  start = omega (arith, c.first_least-row.ensures.within, c.requires.bounds_rows);
  limit_least = omega (arith, ints, c.in-Some.ensures.least, c.in-Some.ensures.most);
  limit_most = omega (arith, ints, c.in-Some.ensures.least, c.in-Some.ensures.most);
}

-- the word of the search is that of the chosen tiling
chosen : (g : given.Over) (c : In_ok-word g)
    → (neg_ℤ start_limit ≤ℤ at_row c.args.table.now c.first_least-row.result)
    × (at_row c.args.table.now c.first_least-row.result ≤ℤ value_limit)
    → IsChosen (g.S.StripColumns.costs c.args.costs.now) c.args.rows c.args.cols c.first_least-row.result
    c.in_ok-word.word.items
    × (pos (word_cost (g.S.StripColumns.costs c.args.costs.now) c.first_least-row.result 0 c.in_ok-word.word.items)
    ≡ at_row c.args.bounds.now c.first_least-row.result)
chosen g c b =
    let i : ℕ = c.first_least-row.result in
    let q = c.requires in
    let lt : i < c.args.rows = omega (arith, c.first_least-row.ensures.within, q.bounds_rows) in
    let el : to_z w64 (of_z w64 c.in-Some.limit) ≡ c.in-Some.limit =
    omega (arith, ints, c.in-Some.ensures.least, c.in-Some.ensures.most) in
    chosen_by_search _ c.args.rows c.args.cols c.args.round q.potential.start c.args.table.now c.search_turn.new.ways i
    c.in-Some.limit (at_row c.args.bounds.now) c.in_ok-word.word.items
    (record { row = q.strip.periodic.row; col = q.strip.periodic_cols }) q.strip.cols q.potential.potential
    q.known.turns lt (λ k in'. c.first_least-row.ensures.least k (omega (arith, in', q.bounds_rows)))
    c.first_least-row.ensures.first (omega (arith, ints, c.in-Some.ensures.value, b.0, b.1, q.known.fit i lt))
    (rw (el, to_z-of_z w64 c.args.round c.ranges.round) at (c.search_turn.ensures.met c.if-not-search_turn.false))
    c.in_ok-word.ensures

pub returns-clause-chosen : goal.returns-clause-chosen
returns-clause-chosen g c =
    let at = goal.at.returns-clause-chosen g c in (chosen g at.In_ok-word (number g at.After-first_least-row)).0

pub returns-clause-cost : goal.returns-clause-cost
returns-clause-cost g c =
    let at = goal.at.returns-clause-cost g c in
    let lt : c.first_least-row.result < c.args.rows =
    omega (arith, c.first_least-row.ensures.within, c.requires.bounds_rows) in
    omega (
      arith,
      ints,
      c.requires.known.fit c.first_least-row.result lt,
      (chosen g at.In_ok-word (number g at.After-first_least-row)).1,
    )
