use Rattle.std.proofs.Common.{ℕ, ◌<◌, ◌≤◌}
use Rattle.correspondence.specs.Simple.{EdgesMeet}
use Rattle.correspondence.proofs.apart.blocks_touch.Given as goal

abbrev pub invariant-loop-edge : goal.invariant-loop-edge
invariant-loop-edge l = (e f : ℕ) → l.fn.part.begin ≤ e → e < l.edge → l.block.begin ≤ f → f < l.block.end
    → EdgesMeet l.one e l.other f → ⊥
