use Rattle.plain_tables.proofs.tests.offsets_found.Given as goal

abbrev pub ghosts-find_offsets_by : goal.ghosts-find_offsets_by
ghosts-find_offsets_by a = record { name = a.blank.name; parts = a.blank.parts }
