use Rattle.std.proofs.Common.{◌≡◌, ◌+◌, ◌++◌, drop}
use Rattle.surface_commands.specs.Measure.{measures_text, parts_text}
use Rattle.surface_commands.proofs.measuring.measures_text.Given as goal

abbrev pub invariant-loop-place : goal.invariant-loop-place
invariant-loop-place l = l.text.items ++ parts_text (l.place + 1) (drop l.place l.parts) ≡ measures_text l.parts
