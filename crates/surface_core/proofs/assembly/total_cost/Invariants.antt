use Rattle.std.proofs.Common.{◌≡◌, ◌*◌, ◌≤ℤ◌, pos, take}
use Rattle.fku_types.specs.declared.limits.TheConstants.{MAX_STEPS}
use Rattle.strip_graph.specs.Strips.{step_cost_limit}
use Rattle.plane_geom.specs.Planes.{signed_sum}
use Rattle.surface_core.proofs.assembly.total_cost.Given as goal

abbrev pub invariant-loop-place : goal.invariant-loop-place
invariant-loop-place l = record {
  value : l.cost ≡ signed_sum (λ x. x.cost) (take l.place l.solved);
  some : pos 0 ≤ℤ l.cost;
  few : l.cost ≤ℤ pos (l.place * (MAX_STEPS * step_cost_limit));
}
