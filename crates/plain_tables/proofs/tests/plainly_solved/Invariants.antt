use Rattle.plain_tables.proofs.tests.plainly_solved.Given as goal

abbrev pub ghosts-solve_plainly_by : goal.ghosts-solve_plainly_by
ghosts-solve_plainly_by a = record { name = a.blank.name; parts = a.blank.parts }
