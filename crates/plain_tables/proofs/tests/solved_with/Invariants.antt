use Rattle.plain_tables.proofs.tests.solved_with.Given as goal

abbrev pub ghosts-solve_with_by : goal.ghosts-solve_with_by
ghosts-solve_with_by a = record { name = a.blank.name; parts = a.blank.parts }
