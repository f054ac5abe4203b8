use Rattle.std.proofs.Common.{ℕ, ◌≡◌, ◌+◌, ◌-◌, ◌<◌, pos, length, get_or}
use Rattle.strip_graph.specs.Strips.{cols}
use Rattle.strip_potential.specs.Rows.{potential_at}
use Rattle.strip_potential.proofs.sweeps.first_row.Given as goal

abbrev pub invariant-loop-c : goal.invariant-loop-c
invariant-loop-c l = record {
  count : length l.values ≡ cols l.pair + 1;
  last : l.value ≡ potential_at l.pair 0 (l.c - 1);
  done : (k : ℕ) → k < l.c → get_or l.values k (pos 0) ≡ potential_at l.pair 0 k;
}
