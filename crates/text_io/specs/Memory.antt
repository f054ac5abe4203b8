-- Sources and sinks in memory.
use Rattle.std.specs.Prelude.{ℕ, ◌≡◌, ◌+◌, ◌-◌, ◌^◌, min, Bool, true, false, List, length, ◌==◌}
use Rattle.std.specs.List.{list_any}
use Rattle.text_io.specs.declared.outside.Took.{Took}
use Rattle.text_io.specs.declared.outside.Took.TheVariants as took
use Rattle.text_io.specs.declared.outside.Gave.{Gave}
use Rattle.text_io.specs.declared.outside.Gave.TheVariants as gave

-- what a source in memory has left, and which calls fail
pub record Supply : Type 0 where
  pub left : List ℕ
  pub per_call : ℕ
  pub failing : List ℕ
  pub calls : ℕ
  pub faults : ℕ

-- what a source that never fails has left, and how many bytes it gives a call
pub record SureSupply : Type 0 where
  pub left : List ℕ
  pub per_call : ℕ

-- what a sink in memory holds, and which calls fail
pub record Store : Type 0 where
  pub held : List ℕ
  pub room : ℕ
  pub per_call : ℕ
  pub failing : List ℕ
  pub calls : ℕ
  pub faults : ℕ

-- a count that stops at its last value
abbrev pub raised_count : ℕ → ℕ
raised_count n = min (n + 1) (2 ^ 64 - 1)

-- the next call is one of those that fail
abbrev pub is_listed : List ℕ → ℕ → Bool
is_listed failing calls = list_any (λ k. k == raised_count calls) failing

-- how many bytes a read moves
abbrev pub read_count : Supply → ℕ → ℕ
read_count s buf = min s.per_call (min buf (length s.left))

-- how many bytes a write moves
abbrev pub write_count : Store → ℕ → ℕ
write_count s piece = min s.per_call (min piece (s.room - length s.held))

abbrev pub read_failed : Took → Bool
read_failed (took.Bytes n) = false
read_failed took.End = false
read_failed took.Failed = true

abbrev pub write_failed : Gave → Bool
write_failed (gave.Bytes n) = false
write_failed gave.Failed = true

-- the result of a read that does not fail
abbrev pub Supplies : Took → ℕ → Type 0
Supplies (took.Bytes n) count = n ≡ count
Supplies took.End count = count ≡ 0
Supplies took.Failed count = Unit {0}

-- the result of a write that does not fail
abbrev pub Stores : Gave → ℕ → Type 0
Stores (gave.Bytes n) count = n ≡ count
Stores gave.Failed count = Unit {0}
