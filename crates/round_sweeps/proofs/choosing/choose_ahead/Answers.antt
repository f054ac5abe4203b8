use Rattle.std.proofs.Common.{w64}
use Rattle.std.proofs.lemmas.Int.{to_z-of_z}
use Rattle.round_sweeps.specs.Tables.{AreFitBounds}
use Rattle.round_sweeps.proofs.BoundLaws.{rises_are_bounds}
use Rattle.round_sweeps.proofs.choosing.choose_ahead.Given as given
use Rattle.round_sweeps.proofs.choosing.choose_ahead.Goals as goal
use Rattle.round_sweeps.proofs.choosing.choose_ahead.Goals.{After-rise_bounds}

-- what the potential rises by bounds the turns
known : (g : given.Over) (c : After-rise_bounds g)
    → AreFitBounds (g.S.StripColumns.costs c.args.costs.now) c.args.rows c.args.cols c.rise_bounds.new.bounds
known g c = record {
  turns = rises_are_bounds _ c.args.rows c.args.cols c.args.round c.args.table.now c.rise_bounds.new.bounds
      c.requires.strip.periodic c.requires.strip.rows c.requires.potential
      (rw (to_z-of_z w64 c.args.round c.ranges.round) at c.rise_bounds.ensures.rises);
  fit = c.rise_bounds.ensures.fit;
}

pub find_turn-requires-clause-known : goal.find_turn-requires-clause-known
find_turn-requires-clause-known g c = known g (goal.at.find_turn-requires-clause-known g c).After-rise_bounds

pub returns-clause-known : goal.returns-clause-known
returns-clause-known g c = known g (goal.at.returns-clause-known g c).After-rise_bounds
