use Rattle.std.proofs.Common.{◌≡◌, ℕ, ◌≤ℤ◌, pos, neg_ℤ, arith, to_z, of_z, w64, refl}
use Rattle.std.proofs.lemmas.Int.{ints, to_z-of_z}
use Rattle.round_sweeps.specs.Columns.{start_limit, value_limit, at_row}
use Rattle.round_sweeps.proofs.ColumnLaws.{not_above}
use Rattle.round_sweeps.proofs.OfColumnLaws.{costs_at, first_number, downs_least, searched_end, met}
use Rattle.round_sweeps.proofs.turns.search_turn.Given as given
use Rattle.round_sweeps.proofs.turns.search_turn.Goals as goal
use Rattle.round_sweeps.proofs.turns.search_turn.Goals.{Start}

pub search_next-window-requires-clause-downs_least : goal.search_next-window-requires-clause-downs_least
search_next-window-requires-clause-downs_least g c =
    downs_least _ _ _ _ _ (costs_at _ _ _ _ _ _ c.requires.rows c.column-last.ensures.costs)

pub search_rest-requires-clause-searched : goal.search_rest-requires-clause-searched
search_rest-requires-clause-searched g c =
    let m : ℕ = c.args.rows in
    let q = c.requires.search in
    let new = c.search_next-window.new.sums in
    let low = c.search_next-window.ensures.sums.least m (omega arith) in
    let high = c.search_next-window.ensures.sums.most m (omega arith) in
    let is : to_z w64 (of_z w64 (at_row new m)) ≡ at_row new m = omega (arith, ints, low, high) in
    let none : at_row new m ≤ℤ pos 0 = not_above _ _ _ c.if-end_cost-gt0.false is in
    let zero : at_row new m ≡ pos 0 = omega (arith, ints, none, low) in
    searched_end _ m c.args.cols _ c.args.start _ c.args.table.now _ _ _ c.begin_search.new.sums new
    c.search_next-window.new.ways c.requires.periodic
    (costs_at _ _ _ _ _ _ c.requires.rows c.column-last.ensures.costs) q.start
    (omega (arith, ints, q.table_fits.round_least, q.table_fits.round_most))
    (omega (arith, ints, q.limit_least, q.limit_most)) (q.table_fits.inside c.args.cols (omega arith))
    c.begin_search.ensures.window (λ r. refl) c.search_next-window.ensures.column zero

-- the number of the start
number : (g : given.Over) (c : Start g)
    → (neg_ℤ start_limit ≤ℤ at_row c.args.table.now c.args.start)
    × (at_row c.args.table.now c.args.start ≤ℤ value_limit)
number g c =
    let q = c.requires.search in
    first_number c.args.rows c.args.start c.args.table.now q.start (q.table_fits.inside 0 (omega arith))

pub is_left-requires-clause-number_least : goal.is_left-requires-clause-number_least
is_left-requires-clause-number_least g c =
    let b = number g (goal.at.is_left-requires-clause-number_least g c).Start in omega (arith, ints, b.0, b.1)

pub is_left-requires-clause-number_most : goal.is_left-requires-clause-number_most
is_left-requires-clause-number_most g c =
    let b = number g (goal.at.is_left-requires-clause-number_most g c).Start in omega (arith, ints, b.0, b.1)

pub returns-clause-met : goal.returns-clause-met
returns-clause-met g c =
    let m : ℕ = c.args.rows in
    let q = c.requires.search in
    let b = number g (goal.at.returns-clause-met g c).Start in
    let low = c.search_rest.ensures.sums.least 0 (omega arith) in
    let high = c.search_rest.ensures.sums.most 0 (omega arith) in
    λ t. met _ m c.args.cols c.args.round c.args.start c.args.limit c.args.table.now c.search_rest.new.sums
    c.search_rest.new.ways q.start
    (rw (to_z-of_z w64 c.args.limit c.ranges.limit, to_z-of_z w64 c.args.round c.ranges.round)
    at c.search_rest.ensures.searched)
    (omega (arith, ints, b.0, b.1, low, high, q.limit_least, q.limit_most, c.is_left.ensures t))
