-- The stage of commands on one pair.
use Rattle.std.specs.Prelude.{ℕ, ◌≡◌, ◌+◌, ◌<◌, List, Some, length, slice_get}
use Rattle.fku_types.specs.declared.fault.Fault.{Fault}
use Rattle.fku_types.specs.declared.fault.Fault.TheVariants.{NoPair}
use Rattle.section_pairs.specs.Pairs.{PairParts}
use Rattle.command_replies.specs.Reply.{Reply, Then}

-- there are fewer pairs than this number
abbrev pub IsNoPair : List PairParts → ℕ → Fault → Type 0
IsNoPair pairs k fault = (length pairs < k) × (fault ≡ NoPair k)

-- the pair of a number, counted from 1
pub record IsPairOf (pairs : List PairParts) (k : ℕ) (p : PairParts) : Type 0 where
  pub place : ℕ
  pub counted : k ≡ place + 1
  pub there : slice_get pairs place ≡ Some p

-- the pair of a number among all pairs
abbrev pub on_pair : List PairParts → ℕ → (PairParts → Reply → Type 0) → Reply → Type 0
on_pair pairs k rule = Then (IsNoPair pairs k) (IsPairOf pairs k) rule
