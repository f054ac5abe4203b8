use Rattle.std.proofs.Common.{arith}
use Rattle.row_paths.proofs.AmountLaws.{wide_enough}
use Rattle.row_paths.proofs.solving.solve_large.Goals as goal

pub unwrap-searched-requires : goal.unwrap-searched-requires
unwrap-searched-requires g c = c.in_ok-solve_in.ensures.some (omega arith)
    (wide_enough c.args.layout.now (omega (arith, c.rows-rows.ensures.ring.enough)) c.rows-rows.ensures.ring.few
    c.cols-cols.ensures.ring.few)
