use Rattle.std.proofs.Common.{◌≡◌, ℕ, ◌+◌, ◌*◌, ◌≤◌, length, ap, refl, sym, subst, ◌∙◌}
use Rattle.strip_graph.specs.declared.tilings.Step.TheVariants.{H}
use Rattle.strip_graph.specs.Strips.{Strip, arcs, rows, cols}
use Rattle.row_paths.proofs.RowTables.{room_for, rows_at, next_count, next_rows, next_steps, all_rows, all_steps}
use Rattle.row_paths.proofs.strip_costs.fill_rows.Goals as goal

pub put_row-requires-clause-size : goal.put_row-requires-clause-size
put_row-requires-clause-size g c =
    subst (λ (s : Strip). c.args.size ≤ cols s + 1) (sym c.row-from.ensures.strip) c.requires.size

pub put_row-requires-clause-right : goal.put_row-requires-clause-right
put_row-requires-clause-right g c =
    subst (λ (s : Strip). c.args.step ≡ H → c.args.size ≤ cols s) (sym c.row-from.ensures.strip) c.requires.right

pub put_row-requires-clause-room : goal.put_row-requires-clause-room
put_row-requires-clause-room g c =
    room_for _ _ (rows c.args.layout.now) _ c.args.size _ c.row-from.ensures.row c.loop-row-test.true
    c.rows-rows.ensures.value (ap length c.deref_mut.ensures.value ∙ c.loop-row.invariant.count)

pub put_row-requires-clause-are : goal.put_row-requires-clause-are
put_row-requires-clause-are g c =
    rows_at g.C.Cost.value c.args.limit (λ (s : Strip) (r k : ℕ). arcs s r k c.args.step) c.args.layout.now
    c.row-from.result.strip c.args.size c.loop-row.row c.row-from.result.row _ _ (sym c.row-from.ensures.strip)
    (sym c.row-from.ensures.row) (sym c.deref_mut.ensures.value) c.loop-row.invariant.are

pub loop-row-preserved : goal.loop-row-preserved
loop-row-preserved g c = record {
  count = next_count c.put_row.new.costs c.deref_mut.result.now c.loop-row.costs.items c.loop-row.costs.len
      (rows c.args.layout.now * c.args.size) c.put_row.ensures.count c.deref_mut.ensures.value c.deref_mut.ensures.len
      c.loop-row.invariant.count;
  are = next_rows g.C.Cost.value c.args.limit (λ (s : Strip) (r k : ℕ). arcs s r k c.args.step) c.row-from.result.strip
      c.args.layout.now c.args.size c.row-from.result.row c.loop-row.row c.put_row.new.costs c.deref_mut.result.now
      c.loop-row.costs.items c.loop-row.costs.len
      c.put_row.ensures.count c.deref_mut.ensures.len c.row-from.ensures.strip c.row-from.ensures.row
      (c.put_row.ensures.are c.if-not-put_row.false);
  steps = next_steps _ _ _ _ _ c.loop-row.invariant.steps c.put_row.ensures.steps;
}

pub returns : goal.returns
returns g c = record {
  count = λ t. c.loop-row.invariant.count;
  are = λ t. all_rows g.C.Cost.value c.args.limit (λ (r k : ℕ). arcs c.args.layout.now r k c.args.step) c.args.size
      c.loop-row.row (rows c.args.layout.now) c.rows-rows.result c.loop-row.costs.items c.loop-row.invariant.count
      c.loop-row-test.false c.rows-rows.ensures.value c.loop-row.invariant.are;
  all = λ le. refl;
  steps = all_steps _ _ _ (rows c.args.layout.now) _ c.args.size c.loop-row.invariant.steps c.loop-row.auto.row-end
      c.rows-rows.ensures.value;
}
