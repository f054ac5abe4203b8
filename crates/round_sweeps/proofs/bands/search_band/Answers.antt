use Rattle.std.proofs.Common.{◌≡◌, ℕ, ◌+◌, ◌-◌, ◌*◌, ◌<◌, arith, subst, refl, to_z, of_z, w64}
use Rattle.std.proofs.lemmas.Int.{to_z-of_z}
use Rattle.strip_graph.specs.Feasible.{lifted}
use Rattle.round_sweeps.specs.Columns.{at_row, table_at}
use Rattle.round_sweeps.specs.Bands.{IsBand}
use Rattle.round_sweeps.proofs.OfColumnLaws.{costs_at, searchable_upto, downs_least, rights_least}
use Rattle.round_sweeps.proofs.BandLaws.{banded_first, banded_more}
use Rattle.round_sweeps.proofs.bands.search_band.Goals as goal

pub band_next-left-requires-clause-downs_least : goal.band_next-left-requires-clause-downs_least
band_next-left-requires-clause-downs_least g c =
    downs_least _ _ _ _ _ (costs_at _ _ _ _ _ _ c.requires.rows c.column-last.ensures.costs)

pub loop-col-init : goal.loop-col-init
loop-col-init g c =
    let m : ℕ = c.args.rows in
    let n : ℕ = c.args.cols in
    let q = c.requires.search in
    let el = to_z-of_z w64 c.args.limit c.ranges.limit in
    let er = to_z-of_z w64 c.args.round c.ranges.round in
    record {
      band = rw (el, er) (banded_first _ m n c.args.round c.args.start (2 * m - 1) c.args.limit c.args.table.now _ _ _
          c.args.ends.now c.band_next-left.new.sums c.band_next-left.new.ways c.requires.strip.periodic
          c.requires.potential (costs_at _ _ _ _ _ _ c.requires.rows c.column-last.ensures.costs) q.start
          (omega (arith, q.start)) q.table_fits.round_least (q.table_fits.inside n (omega arith)) (λ r. refl)
          (rw (el, er, c.copy_from_slice.ensures.after) at c.band_next-left.ensures.column));
      sums = c.band_next-left.ensures.sums;
      window = c.band_next-left.ensures.window;
    }

pub band_next-left-requires-in-loop-col-clause-search : goal.band_next-left-requires-in-loop-col-clause-search
band_next-left-requires-in-loop-col-clause-search g c =
    rw (to_z-of_z w64 c.args.limit c.ranges.limit, to_z-of_z w64 c.args.round c.ranges.round)
    (searchable_upto c.args.rows c.args.cols (c.loop-col.col - 1) c.args.round c.args.table.now c.args.start
    c.args.limit
    c.requires.search (omega (arith, c.loop-col-test.true, c.loop-col.auto.col)))

pub band_next-left-requires-in-loop-col-clause-downs_least : goal.band_next-left-requires-in-loop-col-clause-downs_least
band_next-left-requires-in-loop-col-clause-downs_least g c =
    downs_least _ _ _ _ _ (costs_at _ _ _ _ _ _ c.requires.rows c.column-here.ensures.costs)

pub band_next-left-requires-in-loop-col-clause-rights_least :
    goal.band_next-left-requires-in-loop-col-clause-rights_least
band_next-left-requires-in-loop-col-clause-rights_least g c =
    rights_least _ _ (c.loop-col.col - 1) _ _ (costs_at _ _ _ _ _ _ c.requires.rows c.column-next.ensures.costs)

pub loop-col-preserved : goal.loop-col-preserved
loop-col-preserved g c =
    let m : ℕ = c.args.rows in
    let col : ℕ = c.loop-col.col - 1 in
    let q = c.requires.search in
    let e : c.loop-col.col ≡ col + 1 = omega (arith, c.loop-col-test.true) in
    let lt : col < c.args.cols = omega (arith, e, c.loop-col.auto.col) in
    let el = to_z-of_z w64 c.args.limit c.ranges.limit in
    let er = to_z-of_z w64 c.args.round c.ranges.round in
    record {
      band = rw (el, er) (banded_more _ m c.args.cols col c.loop-col.col c.args.round c.args.start (2 * m - 1)
          c.args.limit c.args.table.now _ _ _ _ (at_row c.args.ends.now) c.loop-col.sums
          c.band_next-left-in-loop-col.new.sums c.band_next-left-in-loop-col.new.ways e c.requires.strip.periodic
          c.requires.potential (costs_at _ _ _ _ _ _ c.requires.rows c.column-here.ensures.costs)
          (costs_at _ _ _ _ _ _ c.requires.rows c.column-next.ensures.costs) q.start (omega (arith, q.start)) lt
          q.table_fits.round_least (q.table_fits.inside col (omega (arith, lt)))
          (rw (el, er) at c.loop-col.invariant.band)
          (rw (el, er) at c.band_next-left-in-loop-col.ensures.column));
      sums = c.band_next-left-in-loop-col.ensures.sums;
      window = c.band_next-left-in-loop-col.ensures.window;
    }

pub returns-clause-band : goal.returns-clause-band
returns-clause-band g c =
    let a = g.S.StripColumns.costs c.args.costs.now in
    let m : ℕ = c.args.rows in
    let e : c.loop-col.col ≡ 0 = omega (arith, c.loop-col-test.false) in
    rw (to_z-of_z w64 c.args.limit c.ranges.limit, to_z-of_z w64 c.args.round c.ranges.round)
    at (subst (λ (x : ℕ). IsBand a
    (lifted m (to_z w64 (of_z w64 c.args.round)) (table_at m c.args.table.now)) c.args.start (2 * m - 1) c.args.cols
    (to_z w64 (of_z w64 c.args.limit)) x (at_row c.args.ends.now) (at_row c.loop-col.sums)) e
    c.loop-col.invariant.band)
