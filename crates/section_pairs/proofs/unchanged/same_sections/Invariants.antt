use Rattle.std.proofs.Common.{◌≡◌, ℕ, ◌<◌, true, false, length, map, get_or}
use Rattle.section_core.specs.Flat.{section_data}
use Rattle.section_pairs.specs.Unchanged.{IsSameAt}
use Rattle.section_pairs.proofs.unchanged.same_sections.Given as goal

abbrev pub invariant-loop-place : goal.invariant-loop-place
invariant-loop-place l = record {
  count : length l.marks.items ≡ l.place;
  same : (k : ℕ) → get_or l.marks.items k false ≡ true
      → IsSameAt (map section_data l.old) (map section_data l.sections) k;
  all : (k : ℕ) → k < l.place → IsSameAt (map section_data l.old) (map section_data l.sections) k
      → get_or l.marks.items k false ≡ true;
}
