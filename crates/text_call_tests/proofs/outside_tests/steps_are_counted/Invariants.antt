use Rattle.text_call_tests.proofs.outside_tests.steps_are_counted.Given as goal

abbrev pub ghosts-ticks : goal.ghosts-ticks
ghosts-ticks a = record { name = a.blank.name; parts = a.blank.parts }
