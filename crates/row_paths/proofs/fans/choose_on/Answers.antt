use Rattle.std.proofs.Common.{rules, ◌≡◌, ℕ, ◌+◌, ◌≤◌, ◌<◌, min, map, length, get_or, ap, ap₂, sym, ◌∙◌}
use Rattle.std.proofs.lemmas.List.{length-map, map-set}
use Rattle.strip_graph.specs.declared.tilings.Step.TheVariants.{H}
use Rattle.strip_graph.specs.Strips.{Strip, arcs, cols}
use Rattle.row_paths.specs.StripCosts.{largest}
use Rattle.row_paths.specs.Searches.{bound_at, last_at}
use Rattle.row_paths.proofs.RowStarts.{reached_first, none_left_of_two}
use Rattle.row_paths.proofs.AmountLaws.{read_is}
use Rattle.row_paths.proofs.Places.{cost_fits}
use Rattle.row_paths.proofs.BoundLaws.{lt_up, le_lt, lt_lt, le_le, lt_le, next_le, lt_of_next, plus_less, eq_le, le_to, lt_eq, sum_eq, right_two}
use Rattle.row_paths.proofs.FanLaws.{on_fits, on_both, after_less}
use Rattle.row_paths.proofs.fans.choose_on.Given as given
use Rattle.row_paths.proofs.fans.choose_on.Goals as goal
use Rattle.row_paths.proofs.fans.choose_on.Goals.{Start, In-loop-col}

-- the first column, and the one after a column of the loop, are in the sums
first_in : (g : given.Over) (c : Start g) → c.args.first < length c.args.sums.now
first_in g c = le_lt (le_le c.requires.order
    (eq_le c.requires.last (c.args.region.now.shape.within c.args.above.now.row))) c.requires.room.sums

next_in : (g : given.Over) (c : In-loop-col g) → c.loop-col.col + 1 ≤ c.args.region.now.width
next_in g c =
    next_le (lt_up c.loop-col-test.true (eq_le c.requires.last (c.args.region.now.shape.within c.args.above.now.row)))

next_in_sums : (g : given.Over) (c : In-loop-col g) → c.loop-col.col + 1 < length c.loop-col.sums
next_in_sums g c = lt_eq (le_lt (next_in g c) c.requires.room.sums) c.loop-col.auto.sums

pub bounds-sums-first : goal.bounds-sums-first
bounds-sums-first g c = first_in g (goal.at.bounds-sums-first g c).Start

pub bounds-sums-col : goal.bounds-sums-col
bounds-sums-col g c = next_in_sums g (goal.at.bounds-sums-col g c).In-loop-col

pub bounds-sums-col-in-loop-col : goal.bounds-sums-col-in-loop-col
bounds-sums-col-in-loop-col g c = next_in_sums g (goal.at.bounds-sums-col-in-loop-col g c).In-loop-col

pub down-down-requires : goal.down-down-requires
down-down-requires g c = le_le (next_in g (goal.at.down-down-requires g c).In-loop-col) c.requires.room.width

pub right-right-requires : goal.right-right-requires
right-right-requires g c =
    lt_eq (lt_of_next (le_le (next_in g (goal.at.right-right-requires g c).In-loop-col) c.requires.room.width))
    (ap cols c.requires.strip)

pub plus-by_v-requires : goal.plus-by_v-requires
plus-by_v-requires g c =
    let p = c.args.above.now.strip in
    let x = c.args.above.now.row in
    let value = g.C.Sum.Amount.value in
    let cost = g.C.Cost.value in
    let col : ℕ = c.loop-col.col + 1 in
    let less : c.loop-col.col < col = plus_less c.loop-col.col in
    let within = c.args.region.now.shape.within x in
    let to : col ≤ last_at c.args.region.now.hi.now x = next_le (lt_eq c.loop-col-test.true (sym c.requires.last)) in
    let at : col ≤ cols p = le_le (le_le to within) c.requires.room.width in
    let u = read_is value c.loop-col.sums col c.index-sums-col.result c.index-sums-col.is
    (next_in_sums g (goal.at.plus-by_v-requires g c).In-loop-col) in
    let fits = cost_fits g.C.Sum.Amount.MOST p (arcs p) (bound_at c.args.region.now.lo.now)
    (last_at c.args.region.now.hi.now) x col c.args.region.now.start c.args.left
    (get_or (map value c.loop-col.sums) col 0) (cost c.down-down.result)
    (lt_lt c.requires.row c.requires.room.end) at c.down-down.ensures.small (c.loop-col.invariant.after col less to) in
    sum_eq _ _ _ _ u fits

pub plus-by_h-requires : goal.plus-by_h-requires
plus-by_h-requires g c =
    let p = c.args.above.now.strip in
    let x = c.args.above.now.row in
    let value = g.C.Sum.Amount.value in
    let cost = g.C.Cost.value in
    let col = c.loop-col.col in
    let to : col < last_at c.args.region.now.hi.now x = lt_eq c.loop-col-test.true (sym c.requires.last) in
    let at : col < cols p = lt_up (lt_up to (c.args.region.now.shape.within x)) c.requires.room.width in
    on_fits g.C.Sum.Amount.MOST p (arcs p) (bound_at c.args.region.now.lo.now) (last_at c.args.region.now.hi.now)
    c.args.region.now.start c.args.left (x + 1) col (value c.loop-col.sum) (cost c.right-right.result)
    (map value c.loop-col.sums)
    (le_lt (next_le c.requires.row) c.requires.room.end) (lt_le at)
    (le_to c.right-right.ensures.small (ap (largest g.C.Sum.Amount.MOST) c.requires.strip))
    (le_le c.requires.from c.loop-col.auto.col) c.loop-col.invariant.reached

pub loop-col-preserved : goal.loop-col-preserved
loop-col-preserved g c =
    let p = c.args.above.now.strip in
    let b = largest g.C.Sum.Amount.MOST p in
    let x = c.args.above.now.row in
    let value = g.C.Sum.Amount.value in
    let cost = g.C.Cost.value in
    let lo = bound_at c.args.region.now.lo.now in
    let hi = last_at c.args.region.now.hi.now in
    let i = c.args.region.now.start in
    let col = c.loop-col.col in
    let to : col + 1 ≤ hi x = next_le (lt_eq c.loop-col-test.true (sym c.requires.last)) in
    let next = next_in_sums g (goal.at.loop-col-preserved g c).In-loop-col in
    let here : col + 1 < length (map value c.loop-col.sums) = lt_eq next (length-map c.loop-col.sums value) in
    let u = read_is value c.loop-col.sums (col + 1) c.index-sums-col.result c.index-sums-col.is next in
    let y = c.down-down.ensures.value in
    let z = c.right-right.ensures.value in
    let by_v : value c.plus-by_v.result ≡ get_or (map value c.loop-col.sums) (col + 1) 0 + cost c.down-down.result =
    c.plus-by_v.ensures ∙ ap (λ (k : ℕ). k + cost c.down-down.result) u in
    let right = z ∙ ap₂ (λ (s : Strip) (r : ℕ). arcs s r col H) c.requires.strip c.requires.next in
    let small : cost c.right-right.result ≤ b =
    le_to c.right-right.ensures.small (ap (largest g.C.Sum.Amount.MOST) c.requires.strip) in
    record {
      reached = rw map-set (on_both b (arcs p) lo hi i c.args.left x col (value c.loop-col.sum)
          (value c.least-sum.result) (cost c.down-down.result) (cost c.right-right.result) (map value c.loop-col.sums)
          here c.requires.above (le_le c.requires.from c.loop-col.auto.col) to y c.down-down.ensures.small right small
          (c.least-sum.ensures ∙ ap₂ min by_v c.plus-by_h.ensures) c.loop-col.invariant.after
          c.loop-col.invariant.reached);
      after = rw map-set (after_less b (arcs p) lo hi i c.args.left x col (value c.least-sum.result)
          (map value c.loop-col.sums) c.loop-col.invariant.after);
      count = right_two _ _ _ _ _ _ c.loop-col.invariant.count c.down-down.ensures.count c.right-right.ensures.count
          c.loop-col.auto.col;
    }

pub returns-clause-reached : goal.returns-clause-reached
returns-clause-reached g c = λ k from to. c.loop-col.invariant.reached.reached k from (le_le to c.loop-col-test.false)

pub loop-col-init : goal.loop-col-init
loop-col-init g c =
    let p = c.args.above.now.strip in
    record {
      reached = reached_first g.C.Sum.Amount.value (largest g.C.Sum.Amount.MOST p) (arcs p)
          (bound_at c.args.region.now.lo.now) (last_at c.args.region.now.hi.now) c.args.region.now.start c.args.left
          (c.args.above.now.row + 1) c.args.first c.args.sums.now c.index-sums-first.result c.index-sums-first.is
          (first_in g (goal.at.loop-col-init g c).Start) c.requires.reached;
      after = c.requires.after;
      count = none_left_of_two c.args.steps.now c.args.first;
    }

pub offset_bounds-sums-first : goal.offset_bounds-sums-first
offset_bounds-sums-first g c = search (rules, first_in g (goal.at.offset_bounds-sums-first g c).Start)

pub offset_bounds-sums-col : goal.offset_bounds-sums-col
offset_bounds-sums-col g c = search (rules, next_in_sums g (goal.at.offset_bounds-sums-col g c).In-loop-col)

pub offset_bounds-sums-col-in-loop-col : goal.offset_bounds-sums-col-in-loop-col
offset_bounds-sums-col-in-loop-col g c =
    search (rules, next_in_sums g (goal.at.offset_bounds-sums-col-in-loop-col g c).In-loop-col)
