use Rattle.std.proofs.Common.{◌≡◌, take, replicate}
use Rattle.byu_text.proofs.coordinates.are_zeros.Given as goal

abbrev pub invariant-loop-digit : goal.invariant-loop-digit
invariant-loop-digit l = take l.digit-index l.digits ≡ replicate l.digit-index 48
