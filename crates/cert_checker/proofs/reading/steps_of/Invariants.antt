use Rattle.std.proofs.Common.{◌≡◌, map, take}
use Rattle.cert_checker.specs.CertTexts.{letter}
use Rattle.cert_checker.proofs.reading.steps_of.Given as goal

abbrev pub invariant-loop-byte : goal.invariant-loop-byte
invariant-loop-byte l = map letter l.steps.items ≡ take l.byte-index l.letters
