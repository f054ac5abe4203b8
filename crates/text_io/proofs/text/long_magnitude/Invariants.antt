use Rattle.std.proofs.Common.{◌≡◌, ◌≤◌, drop}
use Rattle.fku_types.specs.declared.limits.TheConstants.{MAX_NUMBER}
use Rattle.text_io.specs.Text.{value_after}
use Rattle.text_io.proofs.text.long_magnitude.Given as goal

abbrev pub invariant-loop-b : goal.invariant-loop-b
invariant-loop-b l = record {
  small : l.value ≤ MAX_NUMBER;
  same : value_after l.value (drop l.b-index l.digits) ≡ value_after 0 l.digits;
}
