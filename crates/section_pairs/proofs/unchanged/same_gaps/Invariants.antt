use Rattle.std.proofs.Common.{◌≡◌, ℕ, ◌<◌, true, false, length, get_or}
use Rattle.section_pairs.specs.Unchanged.{IsSameGap, HasSameSections}
use Rattle.section_pairs.proofs.unchanged.same_gaps.Given as goal

abbrev pub invariant-loop-gap : goal.invariant-loop-gap
invariant-loop-gap l = record {
  count : length l.marks.items ≡ l.gap;
  same : (k : ℕ) → get_or l.marks.items k false ≡ true → IsSameGap l.old l.sections k;
  all : (k : ℕ) → k < l.gap → IsSameGap l.old l.sections k → HasSameSections l.old l.sections k
      → get_or l.marks.items k false ≡ true;
}
