use Rattle.strip_potential.proofs.sweeps.potential.Given as goal

abbrev pub ghosts-offsets_of : goal.ghosts-offsets_of
ghosts-offsets_of a = record { name = a.blank.name; parts = a.blank.parts }
