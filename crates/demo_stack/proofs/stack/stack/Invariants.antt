use Rattle.std.proofs.Common.{◌≡◌, ◌*◌, ◌<◌, ◌^◌, map}
use Rattle.std.specs.List.{range_with_len}
use Rattle.section_core.specs.Views.{section_parts}
use Rattle.section_core.specs.Flat.{AreFlat}
use Rattle.demo_stack.specs.Demo.{state_after, section}
use Rattle.demo_stack.proofs.stack.stack.Given as goal

abbrev pub invariant-loop-index : goal.invariant-loop-index
invariant-loop-index l = record {
  range : l.state < 2 ^ 31;
  state : l.state ≡ state_after l.fn.seed (l.index * l.fn.vertices);
  parts : map section_parts l.stack.items ≡ map (section l.fn.seed l.fn.vertices) (range_with_len 0 l.index);
  flat : AreFlat l.stack.items;
}
