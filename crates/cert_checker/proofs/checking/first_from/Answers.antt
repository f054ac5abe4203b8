use Rattle.std.proofs.Common.{rules, ◌≡◌, ◌*◌, subst₂, ℕ}
use Rattle.strip_graph.specs.Strips.{arcs, rows, cols}
use Rattle.strip_graph.specs.Certificates.{StepHolds}
use Rattle.cert_checker.specs.Steps.{RowStepHolds}
use Rattle.cert_checker.proofs.Firsts.{same_first}
use Rattle.cert_checker.proofs.Rows.{AreRows, row_step_at}
use Rattle.cert_checker.proofs.checking.first_from.Goals as goal

pub returns : goal.returns
returns c =
    let p = c.args.pair.now in
    let m = rows p in
    let n = cols p in
    let is_m : c.len-rows.result ≡ m = search rules in
    let is_n : c.len-cols.result ≡ n = search rules in
    let here = c.row_of-here in
    let below = c.row_below-below in
    let read : AreRows c.len-cols.result (2 * c.len-rows.result) c.args.row c.args.pi.now here.result.now
    below.result.now = record {
      width = here.ensures.length;
      values = here.ensures.values;
      width_below = below.ensures.length;
      none_below = below.ensures.none;
      values_below = below.ensures.values;
    } in
    let are : AreRows n (2 * m) c.args.row c.args.pi.now here.result.now below.result.now =
    subst₂ (λ (x y : ℕ). AreRows x (2 * y) c.args.row c.args.pi.now here.result.now below.result.now) is_n is_m read
    in
    same_first (RowStepHolds (arcs c.round_row.result.strip) c.round_row.result.row c.row_of-here.result.now
    c.row_below-below.result.now) (StepHolds (arcs p) m n c.args.pi.now c.args.row) c.args.row c.first_in_row.result
    (row_step_at c.round_row.result.strip p c.round_row.result.row m n c.args.row c.args.pi.now c.row_of-here.result.now
    c.row_below-below.result.now c.round_row.ensures.strip c.round_row.ensures.row c.requires.row are)
    c.first_in_row.ensures
