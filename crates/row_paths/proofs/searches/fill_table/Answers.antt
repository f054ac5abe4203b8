use Rattle.std.proofs.Common.{arith, ◌≡◌, ℕ, ◌+◌, ◌*◌, ◌<◌, ◌≤◌, List, Bool, map, length, ap, sym, ◌∙◌, subst, mul-le-mul_right}
use Rattle.strip_graph.specs.Strips.{arcs, rows, cols}
use Rattle.row_paths.specs.Searches.{bound_at, last_at, HasAllWays}
use Rattle.row_paths.specs.Fans.{HasStarts}
use Rattle.row_paths.proofs.AmountLaws.{written, kept}
use Rattle.row_paths.proofs.searches.fill_table.Goals as goal

-- a table of a strip has room for a region of it
narrow : (w n a b : ℕ) → w ≤ n → n + 1 ≤ a → b ≡ a → w < b
narrow w n a b le room e = omega arith

few : (end r a b : ℕ) → end < r → r ≤ a → b ≡ a → end < b
few end r a b lt room e = omega arith

wide : (end w r n a b : ℕ) → end < r → w ≤ n → r * (n + 1) ≤ a → b ≡ a → (end + 1) * (w + 1) ≤ b
wide end w r n a b lt le room e =
    let more : (end + 1) * (n + 1) ≤ r * (n + 1) = mul-le-mul_right (n + 1) (omega arith) in
    let less : (w + 1) * (end + 1) ≤ (n + 1) * (end + 1) = mul-le-mul_right (end + 1) (omega arith) in
    omega (arith, more, less)

pub fill-requires-clause-room : goal.fill-requires-clause-room
fill-requires-clause-room g c = record {
  end = c.requires.end;
  width = c.requires.width;
  sums = narrow c.args.region.now.width (cols c.args.strip.now) _ _ c.requires.width c.requires.table.sums
      (ap length c.deref_mut.ensures.value);
}

pub fill-requires-clause-ways : goal.fill-requires-clause-ways
fill-requires-clause-ways g c = wide c.args.region.now.end c.args.region.now.width (2 * rows c.args.strip.now)
    (cols c.args.strip.now) _ _ c.requires.end c.requires.width c.requires.table.ways
    (ap length c.deref_mut-2.ensures.value)

pub fill-requires-clause-starts : goal.fill-requires-clause-starts
fill-requires-clause-starts g c = few c.args.region.now.end (2 * rows c.args.strip.now) _ _ c.requires.end
    c.requires.table.starts (ap length c.deref_mut-3.ensures.value)

pub returns-clause-table : goal.returns-clause-table
returns-clause-table g c =
    let t = c.args.table.now in
    record {
      sums = kept c.fill.new.sums t.sums.items c.deref_mut.result.now t.sums.len (cols c.args.strip.now + 1)
          c.fill.auto.sums c.deref_mut.ensures.value c.deref_mut.ensures.len c.requires.table.sums;
      ways = kept c.fill.new.ways t.ways.items c.deref_mut-2.result.now t.ways.len
          (2 * rows c.args.strip.now * (cols c.args.strip.now + 1)) c.fill.auto.ways c.deref_mut-2.ensures.value
          c.deref_mut-2.ensures.len c.requires.table.ways;
      starts = kept c.fill.new.starts t.starts.items c.deref_mut-3.result.now t.starts.len (2 * rows c.args.strip.now)
          c.fill.auto.starts c.deref_mut-3.ensures.value c.deref_mut-3.ensures.len c.requires.table.starts;
      ends = c.requires.table.ends;
    }

pub returns-clause-ways : goal.returns-clause-ways
returns-clause-ways g c =
    let ways = c.fill.new.ways in
    let size : c.args.table.now.ways.len ≡ length ways = sym (c.fill.auto.ways ∙ c.deref_mut-2.ensures.len) in
    subst (λ (l : List Bool). HasAllWays (arcs c.args.strip.now) (bound_at c.args.region.now.lo.now)
    (last_at c.args.region.now.hi.now) c.args.region.now.end c.args.region.now.width l c.args.region.now.start)
    (sym (written ways c.args.table.now.ways.items c.args.table.now.ways.len size)) c.fill.ensures.ways

pub returns-clause-starts : goal.returns-clause-starts
returns-clause-starts g c =
    let starts = c.fill.new.starts in
    let size : c.args.table.now.starts.len ≡ length starts = sym (c.fill.auto.starts ∙ c.deref_mut-3.ensures.len) in
    subst (λ l. HasStarts (arcs c.args.strip.now) (bound_at c.args.region.now.lo.now) (last_at c.args.region.now.hi.now)
    c.args.region.now.end c.args.region.now.width c.args.region.now.start (map g.C.Sum.Amount.value l))
    (sym (written starts c.args.table.now.starts.items c.args.table.now.starts.len size)) c.fill.ensures.starts

pub returns-clause-count : goal.returns-clause-count
returns-clause-count g c = c.fill.ensures.count
