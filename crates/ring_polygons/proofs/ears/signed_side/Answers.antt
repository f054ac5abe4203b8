use Rattle.ring_polygons.proofs.Signs.{kept, turned}
use Rattle.ring_polygons.proofs.ears.signed_side.Goals as goal

pub returns-then-left : goal.returns-then-left
returns-then-left c = record {
  value =
      kept c.args.left c.side-area.result _ c.if-left.true c.side-area.ensures.range c.side-area.ensures.value;
}

pub returns-else-left : goal.returns-else-left
returns-else-left c = record {
  value =
      turned c.args.left c.side-area.result _ c.if-left.false c.side-area.ensures.range c.side-area.ensures.value;
}
