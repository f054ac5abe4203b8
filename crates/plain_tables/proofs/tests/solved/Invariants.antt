use Rattle.plain_tables.proofs.tests.solved.Given as goal

abbrev pub ghosts-solve_by : goal.ghosts-solve_by
ghosts-solve_by a = record { name = a.blank.name; parts = a.blank.parts }
