use Rattle.std.proofs.Common.{◌≡◌, ℕ, ◌+◌, ◌-◌, ◌<◌, ◌≤◌, mul-le-mul_right, arith, subst, to_z, of_z, w64}
use Rattle.std.proofs.lemmas.Int.{ints, to_z-of_z}
use Rattle.strip_graph.specs.Feasible.{lifted}
use Rattle.round_sweeps.specs.Columns.{table_at}
use Rattle.round_sweeps.specs.Searches.{IsSearchedTo}
use Rattle.round_sweeps.proofs.OfColumnLaws.{costs_at, searchable_upto, downs_least, rights_least, searched_back_at}
use Rattle.round_sweeps.proofs.turns.search_rest.Goals as goal

pub search_next-left-requires-clause-search : goal.search_next-left-requires-clause-search
search_next-left-requires-clause-search g c =
    rw (to_z-of_z w64 c.args.limit c.ranges.limit, to_z-of_z w64 c.args.round c.ranges.round)
    (searchable_upto c.args.rows c.args.cols (c.loop-col.col - 1) c.args.round c.args.table.now c.args.start
    c.args.limit
    c.requires.search (omega (arith, c.loop-col-test.true, c.loop-col.auto.col)))

pub search_next-left-requires-clause-ways : goal.search_next-left-requires-clause-ways
search_next-left-requires-clause-ways g c =
    let up : c.loop-col.col - 1 + 1 ≤ c.args.cols + 1 = omega (arith, c.loop-col-test.true, c.loop-col.auto.col) in
    omega (arith, mul-le-mul_right (c.args.rows + 1) up, c.requires.ways, c.loop-col.auto.ways)

pub search_next-left-requires-clause-downs_least : goal.search_next-left-requires-clause-downs_least
search_next-left-requires-clause-downs_least g c =
    downs_least _ _ _ _ _ (costs_at _ _ _ _ _ _ c.requires.rows c.column-here.ensures.costs)

pub search_next-left-requires-clause-rights_least : goal.search_next-left-requires-clause-rights_least
search_next-left-requires-clause-rights_least g c =
    rights_least _ _ (c.loop-col.col - 1) _ _ (costs_at _ _ _ _ _ _ c.requires.rows c.column-next.ensures.costs)

pub loop-col-preserved : goal.loop-col-preserved
loop-col-preserved g c =
    let col : ℕ = c.loop-col.col - 1 in
    let e : c.loop-col.col ≡ col + 1 = omega (arith, c.loop-col-test.true) in
    let lt : col < c.args.cols = omega (arith, e, c.loop-col.auto.col) in
    let t = c.requires.search.table_fits in
    record {
      searched = searched_back_at _ c.args.rows c.args.cols c.loop-col.col col _ c.args.start _ c.args.table.now _ _ _ _
          c.loop-col.sums c.search_next-left.new.sums c.loop-col.ways c.search_next-left.new.ways e c.requires.periodic
          (costs_at _ _ _ _ _ _ c.requires.rows c.column-here.ensures.costs)
          (costs_at _ _ _ _ _ _ c.requires.rows c.column-next.ensures.costs) c.requires.search.start lt
          (omega (arith, ints, t.round_least, t.round_most)) (t.inside col (omega (arith, lt)))
          c.loop-col.invariant.searched c.search_next-left.ensures.column c.search_next-left.ensures.kept;
      sums = c.search_next-left.ensures.sums;
      window = c.search_next-left.ensures.window;
    }

pub returns-clause-searched : goal.returns-clause-searched
returns-clause-searched g c =
    let a = g.S.StripColumns.costs c.args.costs.now in
    let m : ℕ = c.args.rows in
    let e : c.loop-col.col ≡ 0 = omega (arith, c.loop-col-test.false) in
    rw (to_z-of_z w64 c.args.limit c.ranges.limit, to_z-of_z w64 c.args.round c.ranges.round)
    at (subst (λ (x : ℕ). IsSearchedTo a
    (lifted m (to_z w64 (of_z w64 c.args.round)) (table_at m c.args.table.now)) c.args.start m c.args.cols
    (to_z w64 (of_z w64 c.args.limit)) x c.loop-col.sums c.loop-col.ways) e c.loop-col.invariant.searched)
