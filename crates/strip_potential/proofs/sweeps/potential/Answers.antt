use Rattle.strip_potential.proofs.RowLaws.{rows_certify}
use Rattle.strip_potential.proofs.sweeps.potential.Goals as goal

pub returns-clause-certifies : goal.returns-clause-certifies
returns-clause-certifies c =
    rows_certify c.args.pair.now c.sweep.new.pi.items c.args.solved.now c.low.ensures.strip c.requires
    c.in_ok-sweep.ensures
