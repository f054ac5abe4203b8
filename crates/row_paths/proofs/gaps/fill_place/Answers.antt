use Rattle.std.proofs.Common.{arith, ◌≡◌, ℕ, ◌+◌, ◌-◌, ◌/◌, ◌*◌, ◌<◌, ◌≤◌, ◌∙◌, max, map, length, ap, sym, subst, subst₂}
use Rattle.strip_graph.specs.Strips.{arcs, rows, cols}
use Rattle.row_paths.specs.Searches.{bound_at, last_at, IsRegion}
use Rattle.row_paths.specs.Turns.{end_of}
use Rattle.row_paths.specs.Counts.{area}
use Rattle.row_paths.specs.Fans.{HasEnds, HasTurnCosts}
use Rattle.row_paths.proofs.AmountLaws.{written, kept}
use Rattle.row_paths.proofs.TurnLaws.{path_within, between_region}
use Rattle.row_paths.proofs.GapLaws.{IsCut, cut_of, before_region, fan_costs, fan_takes}
use Rattle.row_paths.proofs.gaps.fill_place.Given as given
use Rattle.row_paths.proofs.gaps.fill_place.Goals as goal
use Rattle.row_paths.proofs.gaps.fill_place.Goals.{After-deref-2}

-- the bounds of the region before the shared place
cuts : (g : given.Over) (c : After-deref-2 g) → IsCut c.args.gap.now.lo.now c.deref.result.now c.args.col
    × IsCut c.args.gap.now.hi.now c.deref-2.result.now c.args.col
cuts g c = (
  cut_of c.args.gap.now.lo.now c.in_ok-lo.lo.items c.deref.result.now c.args.col c.deref.ensures.value
      c.in_ok-lo.ensures.count c.in_ok-lo.ensures.are,
  cut_of c.args.gap.now.hi.now c.in_ok-hi.hi.items c.deref-2.result.now c.args.col c.deref-2.ensures.value
      c.in_ok-hi.ensures.count c.in_ok-hi.ensures.are,
)

-- the two words are in order, and their lists are not empty
ordered : (g : given.Over) (c : After-deref-2 g) → (c.requires.gap.above ≤ c.requires.gap.below)
    × (0 < length c.args.gap.now.lo.now) × (0 < length c.args.gap.now.hi.now)
ordered g c = (
  omega (arith, c.requires.gap.order, c.requires.gap.first_below, c.requires.gap.last_above),
  omega (arith, c.requires.gap.lo),
  omega (arith, c.requires.gap.hi),
)

-- the last row of the region after it
end_is : (g : given.Over) (c : After-deref-2 g)
    → (c.args.gap.now.last + 1) / 2 + c.rows-rows.result ≡ end_of (rows c.args.strip.now) c.args.gap.now.last
end_is g c = omega (arith, c.rows-rows.ensures.value)

pub invariant_of-before : goal.invariant_of-before
invariant_of-before g c =
    let k = c.requires.gap in
    let at = (goal.at.invariant_of-before g c).After-deref-2 in
    let cut = cuts g at in
    let some = ordered g at in
    record {
      lo_fits = omega (arith, cut.0.count, k.lo, c.requires.below, k.order, k.last);
      hi_fits = omega (arith, cut.1.count, k.hi, c.requires.below, k.order, k.last);
      few = omega (arith, c.requires.below, k.order, k.last, c.rows-rows.ensures.ring.few);
      narrow = omega (
        arith,
        c.requires.right,
        path_within (arcs c.args.strip.now) (rows c.args.strip.now) (cols c.args.strip.now) k.above
            c.args.gap.now.hi.now k.from (c.args.row + 1),
        c.cols-width.ensures.ring.few,
      );
      order = omega (arith, c.requires.above, k.order);
      shape = before_region (arcs c.args.strip.now) (rows c.args.strip.now) (cols c.args.strip.now) k.above k.below
          c.args.row c.args.col c.args.gap.now.lo.now c.args.gap.now.hi.now c.deref.result.now c.deref-2.result.now
          some.0 some.1 some.2 k.from k.to c.requires.right cut.0 cut.1;
    }

pub fill_table-requires-clause-width : goal.fill_table-requires-clause-width
fill_table-requires-clause-width g c =
    omega (
      arith,
      c.requires.right,
      path_within (arcs c.args.strip.now) (rows c.args.strip.now) (cols c.args.strip.now)
          c.requires.gap.above c.args.gap.now.hi.now c.requires.gap.from (c.args.row + 1),
    )

pub invariant_of-after : goal.invariant_of-after
invariant_of-after g c =
    let k = c.requires.gap in
    let lo = c.args.gap.now.lo.now in
    let hi = c.args.gap.now.hi.now in
    let m = c.rows-rows.ensures in
    let n = c.cols-width.ensures in
    record {
      lo_fits = omega (arith, k.lo, m.value, k.last);
      hi_fits = omega (arith, k.hi, m.value, k.last);
      few = omega (arith, k.last, m.value, m.ring.few);
      narrow = omega (arith, n.value, n.ring.few);
      order = omega (arith, c.requires.below, k.order, m.value);
      shape = subst₂ (λ (k e : ℕ). IsRegion (bound_at lo) (last_at hi) k e) (sym n.value)
          (sym (end_is g (goal.at.invariant_of-after g c).After-deref-2))
          (between_region (arcs c.args.strip.now) (rows c.args.strip.now) (cols c.args.strip.now) k.above
          c.args.gap.now.last k.below lo hi (omega (arith, k.order, k.first_below)) k.last_above k.from k.to);
    }

-- a table of a strip has room for its searches
room : (w n a b : ℕ) → w ≡ n → n + 1 ≤ a → b ≡ a → w < b
room w n a b e le f = omega arith

last : (q m r a b : ℕ) → q + 2 ≤ 2 * m → r ≡ m → 2 * m ≤ a → b ≡ a → (q + 1) / 2 + r < b
last q m r a b le e le' f = omega arith

pub fill_ends-requires-clause-room : goal.fill_ends-requires-clause-room
fill_ends-requires-clause-room g c =
    record {
      end = omega (arith, c.rows-rows.ensures.value, c.requires.gap.last);
      width = omega (arith, c.cols-width.ensures.value);
      sums = room c.cols-width.result (cols c.args.strip.now) _ _ c.cols-width.ensures.value
          c.fill_table.ensures.table.sums (ap length c.deref_mut.ensures.value);
    }

pub fill_ends-requires-clause-ends : goal.fill_ends-requires-clause-ends
fill_ends-requires-clause-ends g c =
    last c.args.gap.now.last (rows c.args.strip.now) c.rows-rows.result _ _ c.requires.gap.last
    c.rows-rows.ensures.value c.fill_table.ensures.table.ends (ap length c.deref_mut-2.ensures.value)

pub returns-clause-table : goal.returns-clause-table
returns-clause-table g c =
    let t = c.fill_table.new.table in
    let table = c.fill_table.ensures.table in
    record {
      sums = kept c.fill_ends.new.sums t.sums.items c.deref_mut.result.now t.sums.len (cols c.args.strip.now + 1)
          c.fill_ends.auto.sums c.deref_mut.ensures.value c.deref_mut.ensures.len table.sums;
      ways = table.ways;
      starts = table.starts;
      ends = kept c.fill_ends.new.ends t.ends.items c.deref_mut-2.result.now t.ends.len (2 * rows c.args.strip.now)
          c.fill_ends.auto.ends c.deref_mut-2.ensures.value c.deref_mut-2.ensures.len table.ends;
    }

pub returns-clause-costs : goal.returns-clause-costs
returns-clause-costs g c = λ gap shared is.
    let a = arcs c.args.strip.now in
    let m = rows c.args.strip.now in
    let n = cols c.args.strip.now in
    let q = c.args.gap.now.first in
    let q' = c.args.gap.now.last in
    let lo = c.args.gap.now.lo.now in
    let hi = c.args.gap.now.hi.now in
    let at = (goal.at.returns-clause-costs g c).After-deref-2 in
    let cut = cuts g at in
    let some = ordered g at in
    let starts = map g.C.Sum.Amount.value c.fill_table.new.table.starts.items in
    let new = c.fill_ends.new.ends in
    let ends = map g.C.Sum.Amount.value new in
    let old = c.fill_table.new.table.ends in
    let size : old.len ≡ length new = sym (c.fill_ends.auto.ends ∙ c.deref_mut-2.ensures.len) in
    subst (λ l. HasTurnCosts a m n q q' starts (map g.C.Sum.Amount.value l))
    (sym (written new old.items old.len size))
    (fan_costs a m n q q' c.args.row c.args.col lo hi c.deref.result.now c.deref-2.result.now starts ends
    some.1 some.2 gap.from gap.to shared is cut.0 cut.1 c.fill_table.ensures.starts
    (subst₂ (λ (k e : ℕ). HasEnds a (bound_at lo) (last_at hi) c.args.row c.args.col k e ends)
    c.cols-width.ensures.value (end_is g at) c.fill_ends.ensures.ends))

pub returns-clause-count : goal.returns-clause-count
returns-clause-count g c =
    let k = c.requires.gap in
    let q' = c.args.gap.now.last in
    let x = c.args.row in
    let lo = c.args.gap.now.lo.now in
    let hi = c.args.gap.now.hi.now in
    let at = (goal.at.returns-clause-count g c).After-deref-2 in
    let cut = cuts g at in
    let some = ordered g at in
    omega (
      arith,
      fan_takes (arcs c.args.strip.now) (rows c.args.strip.now) (cols c.args.strip.now) k.above c.args.gap.now.first q'
          k.below x c.args.col lo hi c.deref.result.now c.deref-2.result.now some.0 some.1 some.2 k.from k.to
          (omega (arith, c.requires.above, k.order)) (omega (arith, c.requires.below, k.order)) c.requires.left
          c.requires.right cut.0 cut.1,
      c.fill_table.ensures.count,
      c.fill_ends.ensures.count,
      ap (λ (e : ℕ). area (λ y. max (bound_at lo y) c.args.col) (last_at hi) x (e + 1 - x)) (end_is g at),
    )
