use Rattle.std.proofs.Common.{◌≡◌, ◌++◌, map, take}
use Rattle.cert_checker.specs.CertTexts.{letter}
use Rattle.cert_checker.proofs.printing.put_letters.Given as goal

abbrev pub invariant-loop-step : goal.invariant-loop-step
invariant-loop-step l = l.out.items ≡ l.fn.out.items ++ map letter (take l.step-index l.word)
