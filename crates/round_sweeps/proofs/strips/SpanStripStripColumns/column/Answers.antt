use Rattle.std.proofs.Common.{arith, ◌≡◌, to_z, of_z, w64}
use Rattle.std.proofs.lemmas.Int.{ints}
use Rattle.round_sweeps.specs.Columns.{at_row}
use Rattle.round_sweeps.proofs.PlaneLaws.{span_columns}
use Rattle.round_sweeps.proofs.strips.SpanStripStripColumns.column.Goals as goal

pub returns-clause-costs : goal.returns-clause-costs
returns-clause-costs c =
    let s = c.args.self.now in
    let u = s.us_fit c.args.col (omega (arith, s.some, c.requires)) in
    let v = s.vs_fit c.args.col (omega (arith, s.some, s.cols_same, c.requires)) in
    let ex : to_z w64 (of_z w64 (at_row s.us.now c.args.col)) ≡ at_row s.us.now c.args.col = omega (arith, ints, u) in
    let ey : to_z w64 (of_z w64 (at_row s.vs.now c.args.col)) ≡ at_row s.vs.now c.args.col = omega (arith, ints, v) in
    let er : to_z w64 (of_z w64 s.rise) ≡ s.rise = omega (arith, ints, s.rises, s.low) in
    rw (ex, ey, er) (span_columns s.xs.now s.ys.now s.us.now s.vs.now s.rise c.args.col s.rows_same s.xs_fit s.ys_fit u
    v s.rises s.low)
