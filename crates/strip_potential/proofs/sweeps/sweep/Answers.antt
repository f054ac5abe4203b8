use Rattle.std.proofs.Common.{◌+◌, sym, subst}
use Rattle.strip_potential.specs.Rows.{HasRows}
use Rattle.strip_potential.proofs.RowLaws.{rows_more}
use Rattle.strip_potential.proofs.sweeps.sweep.Goals as goal

pub loop-row-preserved : goal.loop-row-preserved
loop-row-preserved c = record {
  values = c.next_row.ensures;
  pi = subst (HasRows c.args.pair.now (c.loop-row.row + 1 + 1)) (sym c.in_ok-extend_from_slice-2.ensures.items)
      (rows_more c.args.pair.now (c.loop-row.row + 1) c.next_row.new.values c.loop-row.pi.items c.next_row.ensures
      c.loop-row.invariant.pi);
}
