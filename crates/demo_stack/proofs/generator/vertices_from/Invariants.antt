use Rattle.std.proofs.Common.{◌≡◌, ℕ, ◌+◌, ◌<◌, ◌^◌, map}
use Rattle.std.specs.List.{range_with_len, AllByRecursion}
use Rattle.fku_types.specs.declared.points.Point.{Point}
use Rattle.section_core.specs.Views.{spot_of}
use Rattle.demo_stack.specs.Demo.{state_after, demo_spot}
use Rattle.demo_stack.proofs.generator.vertices_from.Given as goal

abbrev pub invariant-loop-index : goal.invariant-loop-index
invariant-loop-index l = record {
  range : l.state < 2 ^ 31;
  level : AllByRecursion (λ (p : Point). p.z ≡ l.fn.z) l.points.items;
  state : (seed n : ℕ) → l.fn.state ≡ state_after seed n → l.state ≡ state_after seed (n + l.index);
  spots : (seed n : ℕ) → l.fn.state ≡ state_after seed n
      → map spot_of l.points.items ≡ map (λ t. demo_spot (state_after seed (n + t + 1)) l.fn.vertices t)
      (range_with_len 0 l.index);
}
