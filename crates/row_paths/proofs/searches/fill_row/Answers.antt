use Rattle.std.proofs.Common.{arith, inr, sym, ◌∙◌}
use Rattle.row_paths.proofs.Places.{bound_at-read, bound_read}
use Rattle.row_paths.proofs.searches.fill_row.Goals as goal

pub go_down-requires-clause-below : goal.go_down-requires-clause-below
go_down-requires-clause-below g c = c.requires.below

pub choose-requires-clause-below : goal.choose-requires-clause-below
choose-requires-clause-below g c = c.go_down.ensures.below

pub choose-requires-clause-right : goal.choose-requires-clause-right
choose-requires-clause-right g c = c.go_down.ensures.costs

pub choose-requires-clause-known : goal.choose-requires-clause-known
choose-requires-clause-known g c = c.go_down.ensures.ways

pub go_right-requires-clause-last : goal.go_right-requires-clause-last
go_right-requires-clause-last g c =
    let lo_is = bound_read c.args.region.now.lo.now c.args.from.now.row c.row-row.result c.row-row.ensures
    (omega (arith, c.requires.row, c.args.region.now.lo_fits)) in
    omega (arith, lo_is, c.args.region.now.shape.joined c.args.from.now.row)

pub go_right-requires-clause-shut : goal.go_right-requires-clause-shut
go_right-requires-clause-shut g c = λ k lt.
    let lo_is = bound_read c.args.region.now.lo.now c.args.from.now.row c.row-row.result c.row-row.ensures
    (omega (arith, c.requires.row, c.args.region.now.lo_fits)) in
    inr (omega (arith, lo_is, lt))

pub go_right-requires-clause-right : goal.go_right-requires-clause-right
go_right-requires-clause-right g c = λ k from to.
    let lo_is = bound_read c.args.region.now.lo.now c.args.from.now.row c.row-row.result c.row-row.ensures
    (omega (arith, c.requires.row, c.args.region.now.lo_fits)) in
    c.choose.ensures.costs k (omega (arith, lo_is, from)) to

pub go_right-requires-clause-known : goal.go_right-requires-clause-known
go_right-requires-clause-known g c = λ k from to.
    let lo_is = bound_read c.args.region.now.lo.now c.args.from.now.row c.row-row.result c.row-row.ensures
    (omega (arith, c.requires.row, c.args.region.now.lo_fits)) in
    c.choose.ensures.ways k (omega (arith, lo_is, from)) to

pub returns-clause-costs : goal.returns-clause-costs
returns-clause-costs g c = λ k from to.
    let lo_is = bound_at-read c.args.region.now.lo.now c.row-row.result
    (omega (arith, c.row-row.ensures, c.requires.row, c.args.region.now.lo_fits)) in
    c.go_right.ensures.costs k (rw (sym lo_is, c.row-row.ensures) from) to

pub returns-clause-ways : goal.returns-clause-ways
returns-clause-ways g c = λ k from to.
    let lo_is = bound_at-read c.args.region.now.lo.now c.row-row.result
    (omega (arith, c.row-row.ensures, c.requires.row, c.args.region.now.lo_fits)) in
    c.go_right.ensures.ways k (rw (sym lo_is, c.row-row.ensures) from) to

pub returns-clause-rest : goal.returns-clause-rest
returns-clause-rest g c = λ k out. c.go_right.ensures.rest k out ∙ c.choose.ensures.rest k out
    ∙ c.go_down.ensures.rest k out
