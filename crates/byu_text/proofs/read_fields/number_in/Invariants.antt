use Rattle.std.proofs.Common.{◌≡◌, ℕ, ◌<◌, ◌^◌, get_or, take}
use Rattle.std.specs.Int.{IsInRange}
use Rattle.byu_text.proofs.Told.{told}
use Rattle.byu_text.proofs.read_fields.number_in.Given as goal

abbrev pub invariant-loop-byte : goal.invariant-loop-byte
invariant-loop-byte l = record {
  digits : (k : ℕ) → k < l.byte-index → IsInRange 48 57 (get_or l.digits k 0);
  value : l.number ≡ told (take l.byte-index l.digits);
  small : l.number < 10 ^ l.byte-index;
}
