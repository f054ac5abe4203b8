use Rattle.std.proofs.Common.{sym, subst}
use Rattle.row_paths.specs.InRegions.{AllWays}
use Rattle.row_paths.proofs.searches.find_word.Goals as goal

pub spell-requires-clause-known : goal.spell-requires-clause-known
spell-requires-clause-known g c =
    subst (AllWays c.args.strip.now c.args.region.now) (sym c.deref.ensures.value) c.fill_table.ensures.ways
