use Rattle.std.proofs.Common.{map, ap, sym, subst}
use Rattle.section_core.specs.Views.{section_parts}
use Rattle.section_core.specs.Flat.{IsFlat, AreFlat}
use Rattle.demo_stack.specs.Demo.{section}
use Rattle.demo_stack.proofs.Runs.{all_more, map_more, state_first}
use Rattle.demo_stack.proofs.stack.stack.Goals as goal

pub loop-index-init : goal.loop-index-init
loop-index-init c = record {
  range = c.requires.seed;
  state = state_first c.args.seed c.args.vertices;
  parts = ap (map section_parts) c.in_ok-stack.ensures.items;
  flat = subst AreFlat (sym c.in_ok-stack.ensures.items) tt;
}

pub loop-index-preserved : goal.loop-index-preserved
loop-index-preserved c =
    let i = c.loop-index.invariant in
    let made = c.in_ok-section.ensures in
    record {
      range = c.section.ensures.range;
      state = made.state c.args.seed i.state;
      parts = map_more section_parts (section c.args.seed c.args.vertices) c.loop-index.stack.items
          c.push.new.self.items c.in_ok-section.field-0 c.loop-index.index c.in_ok-push.ensures.items i.parts
          (made.parts c.args.seed i.state);
      flat = all_more IsFlat c.loop-index.stack.items c.push.new.self.items c.in_ok-section.field-0
          c.in_ok-push.ensures.items i.flat made.flat;
    }
