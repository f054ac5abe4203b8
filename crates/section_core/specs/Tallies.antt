-- The numbers and names that a reader keeps of what it has read.
use Rattle.std.specs.Prelude.{ℕ, ◌≡◌, Bool, true, length, ℤ, int_lt, Option, None, Some, Result, Ok, Err}
use Rattle.std.specs.List.{sum_by}
use Rattle.fku_types.specs.declared.fault.Fault.{Fault}
use Rattle.fku_types.specs.declared.fault.Fault.TheVariants.{NoMemory}
use Rattle.section_core.specs.Parts.{asked}
use Rattle.section_core.specs.Laws.{Facts, Law}
use Rattle.section_core.specs.Reading.{broken, fault_at}
use Rattle.section_core.specs.Steps.{is_above, last, last_list}
use Rattle.section_core.specs.declared.tally.Tally.{Tally}

-- above a height, if there is one
abbrev pub is_over : Option ℤ → ℤ → Bool
is_over None z = true
is_over (Some y) z = int_lt y z

-- The tally is that of these facts.
pub record Tallies (t : Tally) (f : Facts) : Type 0 where
  pub names : t.names.keys ≡ f.names
  pub objects : t.objects.keys ≡ f.objects
  pub sections : t.sections ≡ sum_by length f.heights
  pub above : (z : ℤ) → is_above (last_list f.heights) z ≡ is_over t.height z
  pub section_vertices : t.section_vertices ≡ last f.sums
  pub vertices : t.vertices ≡ sum_by asked f.counts
  pub links : t.links ≡ f.links

-- the reader returns the fault of the law that is broken, or a value that has P if none is; only then memory may run
-- out
abbrev pub Admits : {T : Type 0} → ℕ → Result T Fault → Option Law → (T → Type 0) → Type 0
Admits line (Ok v) None P = P v
Admits line (Ok v) (Some law) P = ⊥
Admits line (Err fault) (Some law) P = fault ≡ fault_at (broken law) line
Admits line (Err NoMemory) None P = Unit {0}
Admits line (Err fault) None P = ⊥

-- the same for a reader that takes no memory
abbrev pub Judges : {T : Type 0} → ℕ → Result T Fault → Option Law → (T → Type 0) → Type 0
Judges line (Ok v) None P = P v
Judges line (Ok v) (Some law) P = ⊥
Judges line (Err fault) (Some law) P = fault ≡ fault_at (broken law) line
Judges line (Err fault) None P = ⊥
