use Rattle.surface_cli.proofs.words.with_workers.Goals as goal

pub returns-clause-in_range : goal.returns-clause-in_range
returns-clause-in_range c = record
    { command = c.requires.range; workers = c.natural_in-workers.ensures.in_range 1 64 c.requires.workers }
