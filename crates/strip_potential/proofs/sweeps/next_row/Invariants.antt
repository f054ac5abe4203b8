use Rattle.std.proofs.Common.{ℕ, ◌≡◌, ◌+◌, ◌-◌, ◌<◌, ◌≤◌, pos, length, get_or}
use Rattle.strip_graph.specs.Strips.{cols}
use Rattle.strip_potential.specs.Rows.{potential_at}
use Rattle.strip_potential.proofs.sweeps.next_row.Given as goal

abbrev pub invariant-loop-c : goal.invariant-loop-c
invariant-loop-c l = record {
  count : length l.values ≡ cols l.pair + 1;
  last : l.left ≡ potential_at l.pair (l.row + 1) (l.c - 1);
  done : (k : ℕ) → k < l.c → get_or l.values k (pos 0) ≡ potential_at l.pair (l.row + 1) k;
  rest : (k : ℕ) → l.c ≤ k → k ≤ cols l.pair → get_or l.values k (pos 0) ≡ potential_at l.pair l.row k;
}
