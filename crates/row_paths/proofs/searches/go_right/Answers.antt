use Rattle.std.proofs.Common.{rules, refl, ◌≡◌, ℕ, ◌+◌, ◌-◌, ◌*◌, ◌≤◌, ◌<◌, map, length}
use Rattle.std.proofs.lemmas.List.{length-map, map-set}
use Rattle.strip_graph.specs.Strips.{arcs}
use Rattle.row_paths.specs.StripCosts.{largest}
use Rattle.row_paths.specs.Searches.{bound_at, last_at}
use Rattle.row_paths.proofs.RowStarts.{filled_first, low_first, none_left}
use Rattle.row_paths.proofs.BoundLaws.{lt_up, lt_lt, le_le, lt_le, eq_le, le_eq, lt_eq, col_below, col_again, col_low, left_one, left_done, le_lt}
use Rattle.row_paths.proofs.Rows.{place_fits, place_of, filled_fits, filled_at, filled_right}
use Rattle.row_paths.proofs.searches.go_right.Goals as goal

pub plus-cost-requires : goal.plus-cost-requires
plus-cost-requires g c =
    let p = c.args.from.now.strip in
    let cost = g.C.Cost.value in
    let x = c.args.from.now.row in
    filled_fits g.C.Sum.Amount.MOST p (arcs p) (bound_at c.args.region.now.lo.now) (last_at c.args.region.now.hi.now)
    c.args.region.now.end c.args.region.now.width x c.loop-col.col (g.C.Sum.Amount.value c.loop-col.cost)
    (cost c.right-right.result)
    (map g.C.Sum.Amount.value c.loop-col.sums) c.args.ways.now c.loop-col.ways c.requires.room.end c.requires.room.width
    (le_le c.loop-col.auto.col c.requires.last) c.right-right.ensures.small c.loop-col.invariant.filled

pub bounds-ways-at : goal.bounds-ways-at
bounds-ways-at g c =
    let within = c.args.region.now.shape.within c.args.from.now.row in
    place_fits c.row.result c.args.region.now.end (c.loop-col.col - 1) c.args.region.now.width c.args.region.now.width
    (length c.loop-col.ways) refl (eq_le c.row.ensures c.requires.row)
    (lt_le (lt_up (col_below c.loop-col-test.true (le_le c.loop-col.auto.col c.requires.last)) within))
    (le_eq c.requires.ways c.loop-col.auto.ways)

pub loop-col-preserved : goal.loop-col-preserved
loop-col-preserved g c =
    let p = c.args.from.now.strip in
    let b = largest g.C.Sum.Amount.MOST p in
    let value = g.C.Sum.Amount.value in
    let cost = g.C.Cost.value in
    let lo = bound_at c.args.region.now.lo.now in
    let hi = last_at c.args.region.now.hi.now in
    let end = c.args.region.now.end in
    let n = c.args.region.now.width in
    let x = c.args.from.now.row in
    let col : ℕ = c.loop-col.col - 1 in
    let before : c.loop-col.col ≡ col + 1 = col_again c.loop-col-test.true in
    let within : hi x ≤ n = c.args.region.now.shape.within x in
    let to : col < hi x = col_below c.loop-col-test.true (le_le c.loop-col.auto.col c.requires.last) in
    let v = c.right-right.ensures.value in
    let fits = place_fits c.row.result end col n n (length c.loop-col.ways) refl (eq_le c.row.ensures c.requires.row)
    (lt_le (lt_up to within)) (le_eq c.requires.ways c.loop-col.auto.ways) in
    record {
      filled = rw (map-set, c.plus-cost.ensures)
          (filled_right b (arcs p) lo hi end n x col (c.row.result * (n + 1) + col) (value c.loop-col.cost)
          (cost c.right-right.result) (map value c.loop-col.sums) c.args.ways.now c.loop-col.ways
          (lt_eq (lt_eq (lt_lt (lt_up to within) c.requires.room.sums) c.loop-col.auto.sums)
          (length-map c.loop-col.sums value)) (place_of x c.row.result col n n c.row.ensures refl) fits to within
          (c.requires.shut col (col_below c.loop-col-test.true c.loop-col.auto.col)) v c.right-right.ensures.small
          (filled_at b (arcs p) lo hi end n x c.loop-col.col (col + 1) (value c.loop-col.cost)
          (map value c.loop-col.sums) c.args.ways.now c.loop-col.ways before c.loop-col.invariant.filled));
      low = col_low c.args.last c.loop-col-test.true;
      count = left_one _ _ _ _ _ _ c.loop-col.invariant.count c.right-right.ensures.count c.loop-col-test.true
          c.loop-col.auto.col;
    }

pub returns-clause-costs : goal.returns-clause-costs
returns-clause-costs g c = λ k from to. c.loop-col.invariant.filled.costs k (le_le c.loop-col-test.false from) to

pub returns-clause-ways : goal.returns-clause-ways
returns-clause-ways g c = λ k from to. c.loop-col.invariant.filled.ways k (le_le c.loop-col-test.false from) to

pub returns-clause-count : goal.returns-clause-count
returns-clause-count g c = left_done _ _ _ _ _ c.loop-col.invariant.count c.loop-col.invariant.low

pub bounds-sums-last : goal.bounds-sums-last
bounds-sums-last g c = le_lt (le_le c.requires.last (c.args.region.now.shape.within c.args.from.now.row))
    c.requires.room.sums

pub right-right-requires : goal.right-right-requires
right-right-requires g c = lt_up (lt_up (col_below c.loop-col-test.true (le_le c.loop-col.auto.col c.requires.last))
    (c.args.region.now.shape.within c.args.from.now.row)) c.requires.room.width

pub bounds-sums-col : goal.bounds-sums-col
bounds-sums-col g c = lt_eq (lt_lt
    (lt_up (col_below c.loop-col-test.true (le_le c.loop-col.auto.col c.requires.last))
    (c.args.region.now.shape.within c.args.from.now.row)) c.requires.room.sums) c.loop-col.auto.sums

pub loop-col-init : goal.loop-col-init
loop-col-init g c =
    let p = c.args.from.now.strip in
    record {
      filled = filled_first g.C.Sum.Amount.value (largest g.C.Sum.Amount.MOST p) (arcs p)
          (bound_at c.args.region.now.lo.now) (last_at c.args.region.now.hi.now) c.args.region.now.end
          c.args.region.now.width c.args.from.now.row c.args.last c.args.last c.args.sums.now c.index-sums-last.result
          c.args.ways.now refl c.index-sums-last.is
          (le_lt (le_le c.requires.last (c.args.region.now.shape.within c.args.from.now.row)) c.requires.room.sums)
          c.requires.right c.requires.known;
      low = low_first c.args.first c.args.last;
      count = none_left c.args.steps.now c.args.last;
    }

pub returns-clause-rest : goal.returns-clause-rest
returns-clause-rest g c = c.loop-col.invariant.filled.rest

pub offset_bounds-sums-last : goal.offset_bounds-sums-last
offset_bounds-sums-last g c =
    let at : c.args.last < length c.args.sums.now =
    le_lt (le_le c.requires.last (c.args.region.now.shape.within c.args.from.now.row)) c.requires.room.sums in
    search (rules, at)

pub offset_bounds-sums-col : goal.offset_bounds-sums-col
offset_bounds-sums-col g c =
    let at : c.loop-col.col - 1 < length c.loop-col.sums =
    lt_eq (lt_lt (lt_up (col_below c.loop-col-test.true (le_le c.loop-col.auto.col c.requires.last))
    (c.args.region.now.shape.within c.args.from.now.row)) c.requires.room.sums) c.loop-col.auto.sums in
    search (rules, at)
