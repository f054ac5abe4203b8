use Rattle.std.proofs.Common.{refl, ◌≡◌, ℕ, ◌+◌, ◌-◌, map, ◌≤◌, max, sym, ap, ◌∙◌, length, length-set}
use Rattle.std.proofs.lemmas.List.{length-map, map-set}
use Rattle.strip_graph.specs.Strips.{arcs}
use Rattle.row_paths.specs.StripCosts.{largest}
use Rattle.row_paths.proofs.AmountLaws.{read_is}
use Rattle.row_paths.specs.Counts.{area}
use Rattle.row_paths.specs.Searches.{bound_at, last_at}
use Rattle.row_paths.proofs.BoundLaws.{le_lt, le_le, next_le, le_same, le_same_of, eq_up, lt_eq, max_up, first_count, more_count, count_to, lt_lt, le_eq, eq_lt}
use Rattle.row_paths.proofs.Rows.{row_some}
use Rattle.row_paths.proofs.FanLaws.{reached_at, ends_first, ends_more, area_one, area_next}
use Rattle.row_paths.proofs.fans.fill_ends.Goals as goal

pub loop-row-init : goal.loop-row-init
loop-row-init g c =
    let p = c.args.strip.now in
    let lo = bound_at c.args.region.now.lo.now in
    let hi = last_at c.args.region.now.hi.now in
    let i = c.args.region.now.start in
    let j = c.args.left in
    let reached = reached_at g.C.Sum.Amount.MOST p c.row-from.result.strip lo hi i j i i
    (map g.C.Sum.Amount.value c.first_row.new.sums) (hi i) (hi i) (sym c.row-from.ensures.strip) refl
    (le_same (hi i)) c.first_row.ensures.reached in
    record {
      reached = reached;
      ends = rw map-set (ends_first (largest g.C.Sum.Amount.MOST p) (arcs p) lo hi i j c.args.region.now.width
          (map g.C.Sum.Amount.value c.first_row.new.sums) (map g.C.Sum.Amount.value c.args.ends.now)
          (g.C.Sum.Amount.value c.index-sums-width.result)
          (read_is g.C.Sum.Amount.value c.first_row.new.sums c.args.region.now.width c.index-sums-width.result
          c.index-sums-width.is (lt_eq c.requires.room.sums c.first_row.auto.sums))
          (lt_eq (le_lt c.args.region.now.order c.requires.ends) (length-map c.args.ends.now g.C.Sum.Amount.value))
          (max_up (le_le c.requires.from c.requires.left) c.requires.left) reached);
      left = c.requires.left;
      count = first_count _ _ _ _ _ _ c.first_row.ensures.count (area_one (λ x. max (lo x) j) hi i) c.requires.from;
    }

pub next_row-requires-clause-reached : goal.next_row-requires-clause-reached
next_row-requires-clause-reached g c =
    let hi = last_at c.args.region.now.hi.now in
    let row = c.loop-row.row in
    let same : c.row-above.result.row ≡ row = c.row-above.ensures.row in
    reached_at g.C.Sum.Amount.MOST c.row-above.result.strip c.args.strip.now (bound_at c.args.region.now.lo.now) hi
    c.args.region.now.start c.args.left c.row-above.result.row row (map g.C.Sum.Amount.value c.loop-row.sums)
    (hi c.row-above.result.row) (hi row) c.row-above.ensures.strip same
    (eq_up (ap hi same)) c.loop-row.invariant.reached

pub loop-row-preserved : goal.loop-row-preserved
loop-row-preserved g c =
    let p = c.args.strip.now in
    let lo = bound_at c.args.region.now.lo.now in
    let hi = last_at c.args.region.now.hi.now in
    let i = c.args.region.now.start in
    let j = c.args.left in
    let row = c.loop-row.row in
    let above = c.row-above.result.row in
    let same : above ≡ row = c.row-above.ensures.row in
    let next : row + 1 ≡ above + 1 = ap (λ (k : ℕ). k + 1) (sym same) in
    let reached = reached_at g.C.Sum.Amount.MOST p c.row-above.result.strip lo hi i j (row + 1) (above + 1)
    (map g.C.Sum.Amount.value c.next_row.new.sums) (hi (row + 1)) (hi (above + 1)) (sym c.row-above.ensures.strip)
    next (eq_up (ap hi next)) c.next_row.ensures.reached in
    let size : length (map g.C.Sum.Amount.value c.loop-row.ends) ≡ length c.args.ends.now =
    length-map c.loop-row.ends g.C.Sum.Amount.value ∙ c.loop-row.auto.ends
    ∙ length-set c.args.ends.now i c.index-sums-width.result in
    let last = read_is g.C.Sum.Amount.value c.next_row.new.sums c.args.region.now.width
    c.index-sums-width-in-loop-row.result c.index-sums-width-in-loop-row.is
    (lt_eq (lt_eq (lt_eq c.requires.room.sums c.first_row.auto.sums) c.loop-row.auto.sums) c.next_row.auto.sums) in
    let left : j ≤ hi (row + 1) = le_le c.loop-row.invariant.left (c.args.region.now.shape.rises row) in
    record {
      reached = reached;
      ends = rw map-set (ends_more (largest g.C.Sum.Amount.MOST p) (arcs p) lo hi i j c.args.region.now.width row
          (map g.C.Sum.Amount.value c.next_row.new.sums) (map g.C.Sum.Amount.value c.loop-row.ends)
          (g.C.Sum.Amount.value c.index-sums-width-in-loop-row.result) last
          (lt_eq (le_lt (next_le c.loop-row-test.true) c.requires.ends) size)
          (max_up (row_some lo hi c.args.region.now.width c.args.region.now.end (row + 1) c.args.region.now.shape) left)
          reached c.loop-row.invariant.ends);
      left = left;
      count = more_count _ _ _ _ _ _ _ c.loop-row.invariant.count c.next_row.ensures.count
          (area_next (λ x. max (lo x) j) hi i row c.loop-row.auto.row) (ap (λ (k : ℕ). hi k + 1 - max (lo k) j) next);
    }

pub returns-clause-ends : goal.returns-clause-ends
returns-clause-ends g c = λ y from to is. c.loop-row.invariant.ends y from (le_le to c.loop-row-test.false) is

pub returns-clause-count : goal.returns-clause-count
returns-clause-count g c =
    let e : c.loop-row.row ≡ c.args.region.now.end =
    le_same_of (c.loop-row.auto.row-end c.args.region.now.order) c.loop-row-test.false in
    let lo : ℕ → ℕ = λ x. max (bound_at c.args.region.now.lo.now x) c.args.left in
    count_to _ _ _ _ c.loop-row.invariant.count
    (ap (λ (k : ℕ). area lo (last_at c.args.region.now.hi.now) c.args.region.now.start
    (k + 1 - c.args.region.now.start)) e)

pub row-from-requires : goal.row-from-requires
row-from-requires g c = le_lt c.args.region.now.order c.requires.room.end

pub first_row-requires-clause-room : goal.first_row-requires-clause-room
first_row-requires-clause-room g c = rw c.row-from.ensures.strip c.requires.room

pub bounds-sums-width : goal.bounds-sums-width
bounds-sums-width g c = lt_eq c.requires.room.sums c.first_row.auto.sums

pub bounds-ends-region : goal.bounds-ends-region
bounds-ends-region g c = le_lt c.args.region.now.order c.requires.ends

pub row-above-requires : goal.row-above-requires
row-above-requires g c = lt_lt c.loop-row-test.true c.requires.room.end

pub row-from-requires-in-loop-row : goal.row-from-requires-in-loop-row
row-from-requires-in-loop-row g c = le_lt (next_le c.loop-row-test.true) c.requires.room.end

pub next_row-requires-clause-strip : goal.next_row-requires-clause-strip
next_row-requires-clause-strip g c = c.row-from-in-loop-row.ensures.strip ∙ sym c.row-above.ensures.strip

pub next_row-requires-clause-next : goal.next_row-requires-clause-next
next_row-requires-clause-next g c = c.row-from-in-loop-row.ensures.row
    ∙ ap (λ (k : ℕ). k + 1) (sym c.row-above.ensures.row)

pub next_row-requires-clause-room : goal.next_row-requires-clause-room
next_row-requires-clause-room g c =
    rw (c.row-above.ensures.strip, c.loop-row.auto.sums, c.first_row.auto.sums) c.requires.room

pub next_row-requires-clause-above : goal.next_row-requires-clause-above
next_row-requires-clause-above g c = le_eq c.loop-row.auto.row c.row-above.ensures.row

pub next_row-requires-clause-row : goal.next_row-requires-clause-row
next_row-requires-clause-row g c = eq_lt c.row-above.ensures.row c.loop-row-test.true

pub next_row-requires-clause-left : goal.next_row-requires-clause-left
next_row-requires-clause-left g c =
    le_eq c.loop-row.invariant.left (ap (last_at c.args.region.now.hi.now) c.row-above.ensures.row)

pub bounds-sums-width-in-loop-row : goal.bounds-sums-width-in-loop-row
bounds-sums-width-in-loop-row g c =
    lt_eq (lt_eq (lt_eq c.requires.room.sums c.first_row.auto.sums) c.loop-row.auto.sums) c.next_row.auto.sums

pub bounds-ends-row : goal.bounds-ends-row
bounds-ends-row g c = lt_eq (le_lt (next_le c.loop-row-test.true) c.requires.ends)
    (c.loop-row.auto.ends ∙ length-set c.args.ends.now c.args.region.now.start c.index-sums-width.result)
