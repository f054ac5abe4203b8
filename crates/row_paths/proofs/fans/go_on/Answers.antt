use Rattle.std.proofs.Common.{length, rules, ◌<◌, map}
use Rattle.std.proofs.lemmas.List.{length-map, map-set}
use Rattle.strip_graph.specs.Strips.{arcs, cols}
use Rattle.row_paths.specs.StripCosts.{largest}
use Rattle.row_paths.specs.Searches.{bound_at, last_at}
use Rattle.row_paths.proofs.RowStarts.{reached_first, none_left}
use Rattle.row_paths.proofs.BoundLaws.{lt_up, le_lt, le_le, lt_le, next_le, lt_eq, right_one}
use Rattle.row_paths.proofs.FanLaws.{on_fits, on_right}
use Rattle.row_paths.proofs.fans.go_on.Goals as goal

pub plus-sum-requires : goal.plus-sum-requires
plus-sum-requires g c =
    let p = c.args.from.now.strip in
    let value = g.C.Sum.Amount.value in
    let cost = g.C.Cost.value in
    let col = c.loop-col.col in
    let at : col < cols p = lt_up (lt_up c.loop-col-test.true c.requires.last) c.requires.room.width in
    on_fits g.C.Sum.Amount.MOST p (arcs p) (bound_at c.args.region.now.lo.now) (last_at c.args.region.now.hi.now)
    c.args.region.now.start c.args.left c.args.from.now.row col (value c.loop-col.sum) (cost c.right-right.result)
    (map value c.loop-col.sums)
    (le_lt c.requires.row c.requires.room.end) (lt_le at) c.right-right.ensures.small
    (le_le c.requires.from c.loop-col.auto.col) c.loop-col.invariant.reached

pub loop-col-preserved : goal.loop-col-preserved
loop-col-preserved g c =
    let p = c.args.from.now.strip in
    let value = g.C.Sum.Amount.value in
    let cost = g.C.Cost.value in
    let col = c.loop-col.col in
    let v = c.right-right.ensures.value in
    record {
      reached = rw (map-set, c.plus-sum.ensures)
          (on_right (largest g.C.Sum.Amount.MOST p) (arcs p) (bound_at c.args.region.now.lo.now)
          (last_at c.args.region.now.hi.now) c.args.region.now.start c.args.left c.args.from.now.row col
          (value c.loop-col.sum) (cost c.right-right.result) (map value c.loop-col.sums)
          (lt_eq (lt_eq (le_lt (next_le (lt_up c.loop-col-test.true c.requires.last)) c.requires.room.sums)
          c.loop-col.auto.sums) (length-map c.loop-col.sums value)) c.requires.above
          (le_le c.requires.from c.loop-col.auto.col)
          (λ k e lt. le_le (c.requires.shut k e lt) c.loop-col.auto.col) v c.right-right.ensures.small
          c.loop-col.invariant.reached);
      count = right_one _ _ _ _ _ c.loop-col.invariant.count c.right-right.ensures.count c.loop-col.auto.col;
    }

pub returns-clause-reached : goal.returns-clause-reached
returns-clause-reached g c = λ k from to. c.loop-col.invariant.reached.reached k from (le_le to c.loop-col-test.false)

pub bounds-sums-first : goal.bounds-sums-first
bounds-sums-first g c = le_lt (le_le c.requires.order c.requires.last) c.requires.room.sums

pub right-right-requires : goal.right-right-requires
right-right-requires g c = lt_up (lt_up c.loop-col-test.true c.requires.last) c.requires.room.width

pub bounds-sums-col : goal.bounds-sums-col
bounds-sums-col g c = lt_eq (le_lt (next_le (lt_up c.loop-col-test.true c.requires.last)) c.requires.room.sums)
    c.loop-col.auto.sums

pub loop-col-init : goal.loop-col-init
loop-col-init g c =
    let p = c.args.from.now.strip in
    record {
      reached = reached_first g.C.Sum.Amount.value (largest g.C.Sum.Amount.MOST p) (arcs p)
          (bound_at c.args.region.now.lo.now) (last_at c.args.region.now.hi.now) c.args.region.now.start c.args.left
          c.args.from.now.row c.args.first c.args.sums.now c.index-sums-first.result c.index-sums-first.is
          (le_lt (le_le c.requires.order c.requires.last) c.requires.room.sums) c.requires.reached;
      count = none_left c.args.steps.now c.args.first;
    }

pub offset_bounds-sums-first : goal.offset_bounds-sums-first
offset_bounds-sums-first g c =
    let at : c.args.first < length c.args.sums.now =
    le_lt (le_le c.requires.order c.requires.last) c.requires.room.sums in
    search (rules, at)
