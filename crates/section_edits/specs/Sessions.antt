-- A session: sections with their pairs, each solved.
use Rattle.std.specs.Prelude.{ℕ, ◌≡◌, ◌+◌, ◌≤◌, ◌⊎◌, List, length, map}
use Rattle.fku_types.specs.declared.limits.TheConstants.{MAX_PAIRS}
use Rattle.section_core.specs.Parts.{Parts}
use Rattle.row_paths.specs.Solutions.{Solution}
use Rattle.pair_pool.specs.Solvers.{SolvesEach}
use Rattle.section_pairs.specs.Pairs.{PairParts, pair_parts}
use Rattle.section_pairs.specs.SectionFaults.{ArePairs}
use Rattle.surface_core.specs.Surfaces.{strips_in}
use Rattle.section_edits.specs.declared.session.Done.{Done}
use Rattle.section_edits.specs.declared.session.Session.TheInside.{Inside}
use Rattle.section_edits.specs.Fresh.{fresh}

-- sections, their pairs, and the solution of each pair
pub record Held : Type 0 where
  pub sections : Parts
  pub pairs : List PairParts
  pub solutions : List Solution

-- the pairs are those of the sections, and each has its solution
pub record IsSolved (s : Held) : Type 0 where
  pub pairs : ArePairs s.sections s.pairs
  pub solved : SolvesEach (strips_in s.pairs) s.solutions
  pub few : length s.pairs ≤ MAX_PAIRS

abbrev pub held_in : Inside → Held
held_in s = record { sections = s.sections; pairs = map pair_parts s.pairs.items; solutions = s.solved.items }

-- a solver's count if memory ran out: at most the number of new pairs was added
pub record CountedSome (S : Parts) (before : List PairParts) (old new : ℕ) : Type 0 where
  pub pairs : List PairParts
  pub are_pairs : ArePairs S pairs
  pub not_less : old ≤ new
  pub not_more : new ≤ old + fresh (strips_in before) (strips_in pairs)

-- a solver's count at a fault: it stayed, or memory ran out and at most the number of new pairs was added
abbrev pub FaultCount : Parts → List PairParts → ℕ → ℕ → Type 0 → Type 0
FaultCount S before old new IsWanting = (new ≡ old) ⊎ (IsWanting × CountedSome S before old new)

-- how many of the pairs are new, since no pair before has their points and cost rule, and how many are not
pub record CountsNew (before after : List PairParts) (done : Done) : Type 0 where
  pub solved : done.solved ≡ fresh (strips_in before) (strips_in after)
  pub reused : done.solved + done.reused ≡ length after
