-- What calls of sources and sinks do, and why they fail.
use Rattle.std.specs.Prelude.{ℕ, ◌+◌, ◌-◌, ◌^◌, ◌≤◌, min, List, length, take, Option}
use Rattle.std.specs.Io.KnownBytes.{Consumes, Appends, Keeps, IsAtEnd}
use Rattle.text_io.specs.declared.outside.Took.{Took}
use Rattle.text_io.specs.declared.outside.Took.TheVariants as took
use Rattle.text_io.specs.declared.outside.Gave.{Gave}
use Rattle.text_io.specs.declared.outside.Gave.TheVariants as gave

-- a count of faults rose, or is at its last value
abbrev pub Rose : ℕ → ℕ → Type 0
Rose before now = min (before + 1) (2 ^ 64 - 1) ≤ now

-- what a reader of std knows of the bytes that are left, and how often it has failed
pub record Stream : Type 0 where
  pub left : Option (List ℕ)
  pub faults : ℕ

-- how many bytes a read asks for
abbrev pub piece_size : ℕ
piece_size = 4096

-- A read gave the next bytes, at least one; or it reported the end; or it failed and took nothing.
abbrev pub Takes : Took → Option (List ℕ) → Option (List ℕ) → List ℕ → Type 0
Takes (took.Bytes n) old new buf = (1 ≤ n) × (n ≤ length buf) × Consumes old new (take n buf)
Takes took.End old new buf = IsAtEnd old × Keeps old new × IsAtEnd new
Takes took.Failed old new buf = Keeps old new

-- A write appended the first bytes of the piece, at least one; or it failed and appended nothing.
abbrev pub Gives : Gave → Option (List ℕ) → Option (List ℕ) → List ℕ → Type 0
Gives (gave.Bytes n) old new piece = (1 ≤ n) × (n ≤ length piece) × Appends old new (take n piece)
Gives gave.Failed old new piece = Keeps old new

-- The bytes that were taken from the front, as far as the source knows them.
abbrev pub TakesSome : Option (List ℕ) → Option (List ℕ) → (List ℕ → Type 0) → Type 0
TakesSome old new P = (bytes : List ℕ) × Consumes old new bytes × P bytes

-- A front of these bytes was appended.
abbrev pub AppendsFront : Option (List ℕ) → Option (List ℕ) → List ℕ → Type 0
AppendsFront old new bytes = (n : ℕ) × (n ≤ length bytes) × Appends old new (take n bytes)
