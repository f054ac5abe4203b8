use Rattle.std.proofs.Common.{sym, subst}
use Rattle.fku_types.specs.Points.{IsCoordinate}
use Rattle.section_slices.specs.Roundings.{rounded}
use Rattle.section_slices.proofs.Rounds.{quotient, in_range, kept, fits}
use Rattle.section_slices.proofs.rounding.rounded.Goals as goal

pub overflow_cast-result : goal.overflow_cast-result
overflow_cast-result c =
    fits c.div_euclid.result (rounded c.args.den c.args.x)
    (quotient c.args.den c.args.x c.from-den.result c.div_euclid.result c.requires.some c.requires.few c.requires.x
    c.from-den.ensures c.div_euclid.ensures)
    (in_range c.args.den c.args.x c.requires.some c.requires.x)

pub returns-clause-value : goal.returns-clause-value
returns-clause-value c =
    kept c.div_euclid.result (rounded c.args.den c.args.x)
    (quotient c.args.den c.args.x c.from-den.result c.div_euclid.result c.requires.some c.requires.few c.requires.x
    c.from-den.ensures c.div_euclid.ensures)
    (in_range c.args.den c.args.x c.requires.some c.requires.x)

pub returns-clause-range : goal.returns-clause-range
returns-clause-range c = subst IsCoordinate (sym (returns-clause-value c))
    (in_range c.args.den c.args.x c.requires.some c.requires.x)
