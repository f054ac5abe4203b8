use Rattle.std.proofs.Common.{◌≡◌, ℕ, ◌+◌, ◌-◌, ◌%◌, ◌<◌, ◌≤◌, length, arith, to_z, of_z, w64}
use Rattle.std.proofs.lemmas.Int.{ints, to_z-of_z}
use Rattle.std.proofs.lemmas.Nat.{mod_below}
use Rattle.round_sweeps.specs.Columns.{at_row}
use Rattle.round_sweeps.specs.Searches.{numbers_from, downs_from, rights_from, IsWindow, IsBackColumn}
use Rattle.round_sweeps.proofs.BackLaws.{AreFit, number_least, back_none, back_more_at, back_stopped_at, back_all}
use Rattle.round_sweeps.proofs.searches.search_column.Given as given
use Rattle.round_sweeps.proofs.searches.search_column.Goals as goal
use Rattle.round_sweeps.proofs.searches.search_column.Goals.{Start, After-loop-row, Then-below-ge-GONE}

-- a column whose numbers and costs are in range
fit : (g : given.Over) (c : Start g)
    → AreFit c.args.height c.args.limit
    (numbers_from (length c.args.known.now) c.args.round c.args.start c.args.known.now)
    (downs_from (length c.args.known.now) c.args.start (g.C.ColumnCosts.downs c.args.here.now))
    (rights_from (length c.args.known.now) c.args.start (g.N.ColumnCosts.rights c.args.next.now))
fit g c =
    let m : ℕ = length c.args.known.now in
    let q = c.requires in
    let some : 0 < m = omega (arith, q.range.start) in
    record {
      small = q.range.limit_most;
      numbers = λ j le. number_least m c.args.round c.args.start c.args.known.now q.range.start q.range.bounded
          q.range.round_least j (omega (arith, le, q.range.height));
      downs_least = λ j lt. q.downs_least ((c.args.start + j + 1) % m) (mod_below (c.args.start + j + 1) m some);
      rights_least = λ j le. q.rights_least ((c.args.start + j) % m) (mod_below (c.args.start + j) m some);
    }

pub loop-row-init : goal.loop-row-init
loop-row-init g c =
    let m : ℕ = length c.args.known.now in
    let f = fit g (goal.at.loop-row-init g c).Start in
    record {
      back = rw (to_z-of_z w64 c.args.limit c.ranges.limit, to_z-of_z w64 c.args.round c.ranges.round)
          (back_none c.args.height c.args.limit _ _ _ c.args.sums.now c.args.ways.now c.args.window.first
          c.args.window.last f c.requires.sums c.requires.window);
      few = omega arith;
    }

pub loop-row-preserved : goal.loop-row-preserved
loop-row-preserved g c =
    let row : ℕ = c.loop-row.row - 1 in
    let q = c.requires in
    let h = c.loop-row.invariant.back in
    let s = c.search_place-sum.ensures in
    let e : c.loop-row.row ≡ row + 1 = omega (arith, c.loop-row-test.true) in
    let le : row ≤ c.args.height = omega (arith, e, c.loop-row.invariant.few, q.window.within) in
    let old : to_z w64 (of_z w64 (at_row c.loop-row.sums row)) ≡ at_row c.loop-row.sums row =
    omega (arith, ints, h.sums.least row le, h.sums.most row le) in
    let new : to_z w64 (of_z w64 c.search_place-sum.result.0) ≡ c.search_place-sum.result.0 =
    omega (arith, ints, s.least, s.most) in
    record {
      back = rw new (back_more_at c.args.height c.loop-row.row row _ _ _ _ c.args.sums.now c.loop-row.sums
          c.loop-row.ways _ c.search_place-sum.result.0 c.search_place-sum.result.1 c.loop-row.left.first
          c.loop-row.left.last c.widened-left.result.first c.widened-left.result.last e h le
          (omega (arith, q.ways, c.loop-row.auto.ways)) (rw old at s) c.widened-left.ensures.last
          (λ o. omega (arith, ints, s.least, s.most, c.widened-left.ensures.here o)) c.widened-left.ensures.after);
      few = omega (arith, c.loop-row.invariant.few);
    }

-- where nothing is left above, the column is done
stopped : (g : given.Over) (c : Then-below-ge-GONE g)
    → AreFit c.args.height c.args.limit
    (numbers_from (length c.args.known.now) c.args.round c.args.start c.args.known.now)
    (downs_from (length c.args.known.now) c.args.start (g.C.ColumnCosts.downs c.args.here.now))
    (rights_from (length c.args.known.now) c.args.start (g.N.ColumnCosts.rights c.args.next.now))
    → IsBackColumn c.args.height c.args.limit
    (numbers_from (length c.args.known.now) c.args.round c.args.start c.args.known.now)
    (downs_from (length c.args.known.now) c.args.start (g.C.ColumnCosts.downs c.args.here.now))
    (rights_from (length c.args.known.now) c.args.start (g.N.ColumnCosts.rights c.args.next.now)) c.args.sums.now
    c.loop-row.sums c.loop-row.ways
    × IsWindow c.args.height c.loop-row.left.first c.loop-row.left.last c.loop-row.sums
stopped g c f =
    let row : ℕ = c.loop-row.row - 1 in
    let h = rw (to_z-of_z w64 c.args.limit c.ranges.limit, to_z-of_z w64 c.args.round c.ranges.round)
    at c.loop-row.invariant.back in
    let e : c.loop-row.row ≡ row + 1 = omega (arith, c.loop-row-test.true) in
    let le : row ≤ c.args.height = omega (arith, e, c.loop-row.invariant.few, c.requires.window.within) in
    back_stopped_at c.args.height c.loop-row.row row _ _ _ _ c.args.sums.now c.loop-row.sums c.loop-row.ways _
    c.loop-row.left.first c.loop-row.left.last c.args.window.first c.args.window.last e f
    c.requires.window h le (omega (arith, c.if-row-window.true))
    (grind (arith, ints, h.below_least, h.below_most, c.loop-row.below-is, c.if-below-ge-GONE.true))

pub returns-then-below-ge-GONE-clause-column : goal.returns-then-below-ge-GONE-clause-column
returns-then-below-ge-GONE-clause-column g c =
    let at = goal.at.returns-then-below-ge-GONE-clause-column g c in
    (stopped g at.Then-below-ge-GONE (fit g at.Start)).0

pub returns-then-below-ge-GONE-clause-window : goal.returns-then-below-ge-GONE-clause-window
returns-then-below-ge-GONE-clause-window g c =
    let at = goal.at.returns-then-below-ge-GONE-clause-window g c in
    (stopped g at.Then-below-ge-GONE (fit g at.Start)).1

-- and so it is where all rows are
whole : (g : given.Over) (c : After-loop-row g) → c.loop-row.row ≤ 0
    → IsBackColumn c.args.height c.args.limit
    (numbers_from (length c.args.known.now) c.args.round c.args.start c.args.known.now)
    (downs_from (length c.args.known.now) c.args.start (g.C.ColumnCosts.downs c.args.here.now))
    (rights_from (length c.args.known.now) c.args.start (g.N.ColumnCosts.rights c.args.next.now)) c.args.sums.now
    c.loop-row.sums c.loop-row.ways
    × IsWindow c.args.height c.loop-row.left.first c.loop-row.left.last c.loop-row.sums
whole g c done =
    rw (to_z-of_z w64 c.args.limit c.ranges.limit, to_z-of_z w64 c.args.round c.ranges.round)
    at (back_all c.args.height c.loop-row.row _ _ _ _ c.args.sums.now c.loop-row.sums c.loop-row.ways _
    c.loop-row.left.first c.loop-row.left.last (omega (arith, done)) c.loop-row.invariant.back)

pub returns-clause-column : goal.returns-clause-column
returns-clause-column g c =
    (whole g (goal.at.returns-clause-column g c).After-loop-row (omega (arith, c.loop-row-test.false))).0

pub returns-clause-window : goal.returns-clause-window
returns-clause-window g c =
    (whole g (goal.at.returns-clause-window g c).After-loop-row (omega (arith, c.loop-row-test.false))).1
