use Rattle.std.proofs.Common.{rules, refl, ◌≡◌, ℕ, ◌+◌, ◌-◌, ◌*◌, ◌≤◌, ◌<◌, min, leb, map, length, get_or, ap₂, ◌∙◌, sym, subst}
use Rattle.std.proofs.lemmas.List.{length-map, map-set}
use Rattle.strip_graph.specs.Strips.{arcs}
use Rattle.row_paths.specs.StripCosts.{largest}
use Rattle.row_paths.specs.Searches.{bound_at, last_at, IsPlaceCost}
use Rattle.row_paths.proofs.RowStarts.{filled_first, low_first, none_left_of_two}
use Rattle.row_paths.proofs.AmountLaws.{read_is}
use Rattle.row_paths.proofs.Places.{cost_fits}
use Rattle.row_paths.proofs.BoundLaws.{lt_up, lt_lt, lt_le, eq_le, le_eq, lt_eq, sum_eq, bound_next, bound_in, col_below, col_less, col_again, col_from, col_low, col_end, left_two, left_all}
use Rattle.row_paths.proofs.Rows.{place_fits, place_of, filled_fits, filled_at, filled_both, before_less}
use Rattle.row_paths.proofs.searches.choose.Given as given
use Rattle.row_paths.proofs.searches.choose.Goals as goal
use Rattle.row_paths.proofs.searches.choose.Goals.{After-row-row, In-loop-col}

-- the bounds of the row below, as they are read
hi_is : (g : given.Over) (c : After-row-row g)
    → last_at c.args.region.now.hi.now c.args.from.now.row ≡ get_or c.args.region.now.hi.now (c.row-row.result + 1) 0
hi_is g c = bound_next c.args.region.now.hi.now c.args.from.now.row c.row-row.result c.args.region.now.end
    c.row-row.ensures c.requires.row c.args.region.now.hi_fits

lo_is : (g : given.Over) (c : After-row-row g)
    → bound_at c.args.region.now.lo.now (c.args.from.now.row + 1)
    ≡ get_or c.args.region.now.lo.now (c.row-row.result + 1) 0
lo_is g c = bound_next c.args.region.now.lo.now c.args.from.now.row c.row-row.result c.args.region.now.end
    c.row-row.ensures c.requires.row c.args.region.now.lo_fits

last_in_sums : (g : given.Over) (c : After-row-row g)
    → get_or c.args.region.now.hi.now (c.row-row.result + 1) 0 < length c.args.sums.now
last_in_sums g c = bound_in (hi_is g c) (c.args.region.now.shape.within c.args.from.now.row) c.requires.room.sums

-- a column of the loop is before the row's last one, in the region and in the sums
before_last : (g : given.Over) (c : In-loop-col g)
    → c.loop-col.col - 1 < last_at c.args.region.now.hi.now c.args.from.now.row
before_last g c =
    col_below c.loop-col-test.true (le_eq c.loop-col.auto.col
    (bound_next c.args.region.now.hi.now c.args.from.now.row c.row-row.result c.args.region.now.end c.row-row.ensures
    c.requires.row c.args.region.now.hi_fits))

in_width : (g : given.Over) (c : In-loop-col g) → c.loop-col.col - 1 < c.args.region.now.width
in_width g c = lt_up (before_last g c) (c.args.region.now.shape.within c.args.from.now.row)

in_sums : (g : given.Over) (c : In-loop-col g) → c.loop-col.col - 1 < length c.loop-col.sums
in_sums g c = lt_eq (lt_lt (in_width g c) c.requires.room.sums) c.loop-col.auto.sums

pub bounds-sums-last : goal.bounds-sums-last
bounds-sums-last g c = last_in_sums g (goal.at.bounds-sums-last g c).After-row-row

pub bounds-sums-col : goal.bounds-sums-col
bounds-sums-col g c = in_sums g (goal.at.bounds-sums-col g c).In-loop-col

pub bounds-sums-col-in-loop-col : goal.bounds-sums-col-in-loop-col
bounds-sums-col-in-loop-col g c = in_sums g (goal.at.bounds-sums-col-in-loop-col g c).In-loop-col

pub down-down-requires : goal.down-down-requires
down-down-requires g c =
    lt_le (lt_up (in_width g (goal.at.down-down-requires g c).In-loop-col) c.requires.room.width)

pub right-right-requires : goal.right-right-requires
right-right-requires g c =
    lt_up (in_width g (goal.at.right-right-requires g c).In-loop-col) c.requires.room.width

pub plus-by_v-requires : goal.plus-by_v-requires
plus-by_v-requires g c =
    let p = c.args.from.now.strip in
    let x = c.args.from.now.row in
    let value = g.C.Sum.Amount.value in
    let cost = g.C.Cost.value in
    let lo = bound_at c.args.region.now.lo.now in
    let hi = last_at c.args.region.now.hi.now in
    let end = c.args.region.now.end in
    let n = c.args.region.now.width in
    let col : ℕ = c.loop-col.col - 1 in
    let lo_is' = lo_is g (goal.at.plus-by_v-requires g c).After-row-row in
    let u = read_is value c.loop-col.sums col c.index-sums-col.result c.index-sums-col.is
    (in_sums g (goal.at.plus-by_v-requires g c).In-loop-col) in
    let below = c.loop-col.invariant.below col (col_from lo_is' c.loop-col-test.true) (col_less c.loop-col-test.true) in
    let fits = cost_fits g.C.Sum.Amount.MOST p (arcs p) lo hi end n (x + 1) col
    (get_or (map value c.loop-col.sums) col 0) (cost c.down-down.result) c.requires.room.end c.requires.room.width
    c.down-down.ensures.small below in
    sum_eq _ _ _ _ u fits

pub plus-by_h-requires : goal.plus-by_h-requires
plus-by_h-requires g c =
    let p = c.args.from.now.strip in
    let x = c.args.from.now.row in
    let value = g.C.Sum.Amount.value in
    let cost = g.C.Cost.value in
    filled_fits g.C.Sum.Amount.MOST p (arcs p) (bound_at c.args.region.now.lo.now) (last_at c.args.region.now.hi.now)
    c.args.region.now.end c.args.region.now.width x c.loop-col.col (value c.loop-col.cost)
    (cost c.right-right.result)
    (map value c.loop-col.sums) c.args.ways.now c.loop-col.ways c.requires.room.end c.requires.room.width
    (le_eq c.loop-col.auto.col (hi_is g (goal.at.plus-by_h-requires g c).After-row-row)) c.right-right.ensures.small
    c.loop-col.invariant.filled

pub bounds-ways-at : goal.bounds-ways-at
bounds-ways-at g c =
    place_fits c.row-row.result c.args.region.now.end (c.loop-col.col - 1) c.args.region.now.width
    c.args.region.now.width (length c.loop-col.ways) refl (eq_le c.row-row.ensures (lt_le c.requires.row))
    (lt_le (in_width g (goal.at.bounds-ways-at g c).In-loop-col)) (le_eq c.requires.ways c.loop-col.auto.ways)

pub loop-col-preserved : goal.loop-col-preserved
loop-col-preserved g c =
    let p = c.args.from.now.strip in
    let b = largest g.C.Sum.Amount.MOST p in
    let value = g.C.Sum.Amount.value in
    let cost = g.C.Cost.value in
    let lo = bound_at c.args.region.now.lo.now in
    let hi = last_at c.args.region.now.hi.now in
    let end = c.args.region.now.end in
    let n = c.args.region.now.width in
    let x = c.args.from.now.row in
    let col : ℕ = c.loop-col.col - 1 in
    let lo_is' = lo_is g (goal.at.loop-col-preserved g c).After-row-row in
    let before : c.loop-col.col ≡ col + 1 = col_again c.loop-col-test.true in
    let within : hi x ≤ n = c.args.region.now.shape.within x in
    let to = before_last g (goal.at.loop-col-preserved g c).In-loop-col in
    let here = in_sums g (goal.at.loop-col-preserved g c).In-loop-col in
    let u = read_is value c.loop-col.sums col c.index-sums-col.result c.index-sums-col.is here in
    let y = c.down-down.ensures.value in
    let z = c.right-right.ensures.value in
    let below = subst (IsPlaceCost b (arcs p) lo hi end n (x + 1) col) (sym u)
    (c.loop-col.invariant.below col (col_from lo_is' c.loop-col-test.true) (col_less c.loop-col-test.true)) in
    let fits = place_fits c.row-row.result end col n n (length c.loop-col.ways) refl
    (eq_le c.row-row.ensures (lt_le c.requires.row)) (lt_le (lt_up to within))
    (le_eq c.requires.ways c.loop-col.auto.ways) in
    record {
      filled = rw map-set (filled_both b (arcs p) lo hi end n x col (c.row-row.result * (n + 1) + col)
          (value c.loop-col.cost) (value c.index-sums-col.result) (value c.least-cost.result) (cost c.down-down.result)
          (cost c.right-right.result) _ (map value c.loop-col.sums) c.args.ways.now c.loop-col.ways
          (lt_eq here (length-map c.loop-col.sums value)) (place_of x c.row-row.result col n n c.row-row.ensures refl)
          fits c.requires.row to within
          y c.down-down.ensures.small z c.right-right.ensures.small below
          (c.least-cost.ensures ∙ ap₂ min c.plus-by_v.ensures c.plus-by_h.ensures)
          (c.is_at_most.ensures ∙ ap₂ leb c.plus-by_v.ensures c.plus-by_h.ensures)
          (filled_at b (arcs p) lo hi end n x c.loop-col.col (col + 1) (value c.loop-col.cost)
          (map value c.loop-col.sums) c.args.ways.now c.loop-col.ways before c.loop-col.invariant.filled));
      below = rw map-set (before_less b (arcs p) lo hi end n (x + 1) col (value c.least-cost.result) c.loop-col.col
          (map value c.loop-col.sums) (lt_le (col_less c.loop-col-test.true)) c.loop-col.invariant.below);
      low = col_low (get_or c.args.region.now.hi.now (c.row-row.result + 1) 0) c.loop-col-test.true;
      count = left_two _ _ _ _ _ _ _ c.loop-col.invariant.count c.down-down.ensures.count c.right-right.ensures.count
          c.loop-col-test.true c.loop-col.auto.col;
    }

pub returns-clause-costs : goal.returns-clause-costs
returns-clause-costs g c =
    let e = lo_is g (goal.at.returns-clause-costs g c).After-row-row in
    λ k from to. c.loop-col.invariant.filled.costs k (col_end e from c.loop-col-test.false) to

pub returns-clause-ways : goal.returns-clause-ways
returns-clause-ways g c =
    let lo_is' = lo_is g (goal.at.returns-clause-ways g c).After-row-row in
    λ k from to. c.loop-col.invariant.filled.ways k (col_end lo_is' from c.loop-col-test.false) to

pub returns-clause-count : goal.returns-clause-count
returns-clause-count g c =
    let at = (goal.at.returns-clause-count g c).After-row-row in
    left_all _ _ _ _ _ _ _ c.loop-col.invariant.count c.loop-col.invariant.low (lo_is g at) (hi_is g at)

pub loop-col-init : goal.loop-col-init
loop-col-init g c =
    let p = c.args.from.now.strip in
    let x = c.args.from.now.row in
    let hi = last_at c.args.region.now.hi.now in
    let first = get_or c.args.region.now.lo.now (c.row-row.result + 1) 0 in
    let last = get_or c.args.region.now.hi.now (c.row-row.result + 1) 0 in
    let hi_is' = hi_is g (goal.at.loop-col-init g c).After-row-row in
    record {
      filled = filled_first g.C.Sum.Amount.value (largest g.C.Sum.Amount.MOST p) (arcs p)
          (bound_at c.args.region.now.lo.now) hi c.args.region.now.end c.args.region.now.width x (hi x) last
          c.args.sums.now c.index-sums-last.result c.args.ways.now hi_is' c.index-sums-last.is
          (bound_in hi_is' (c.args.region.now.shape.within c.args.from.now.row) c.requires.room.sums) c.requires.right
          c.requires.known;
      below = λ k from to. c.requires.below k from (lt_eq to hi_is');
      low = low_first first last;
      count = none_left_of_two c.args.steps.now last;
    }

pub returns-clause-rest : goal.returns-clause-rest
returns-clause-rest g c = c.loop-col.invariant.filled.rest

pub offset_bounds-sums-last : goal.offset_bounds-sums-last
offset_bounds-sums-last g c = search (rules, last_in_sums g (goal.at.offset_bounds-sums-last g c).After-row-row)

pub offset_bounds-sums-col : goal.offset_bounds-sums-col
offset_bounds-sums-col g c =
    search (rules, in_sums g (goal.at.offset_bounds-sums-col g c).In-loop-col)

pub offset_bounds-sums-col-in-loop-col : goal.offset_bounds-sums-col-in-loop-col
offset_bounds-sums-col-in-loop-col g c =
    search (rules, in_sums g (goal.at.offset_bounds-sums-col-in-loop-col g c).In-loop-col)
