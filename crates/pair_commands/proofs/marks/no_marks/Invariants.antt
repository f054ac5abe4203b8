use Rattle.std.proofs.Common.{◌≡◌, [], length}
use Rattle.std.specs.Prelude.{All}
use Rattle.pair_commands.proofs.marks.no_marks.Given as goal

abbrev pub invariant-loop-done : goal.invariant-loop-done
invariant-loop-done l = record {
  count : length l.groups.items ≡ l._done;
  none : All (λ v. v.items ≡ []) l.groups.items;
}
