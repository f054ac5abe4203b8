use Rattle.std.proofs.Common.{arith, subst, sym}
use Rattle.std.specs.Prelude.{IfSome}
use Rattle.pair_pool.proofs.Made.{made_more}
use Rattle.pair_pool.proofs.Slots.{slot_set, slot_right}
use Rattle.pair_pool.proofs.placing.in_places.Goals as goal

pub drawn_or_made-requires-clause-drawn : goal.drawn_or_made-requires-clause-drawn
drawn_or_made-requires-clause-drawn g c κs within =
    slot_right (g.B.Batch.places c.args.batch.now) (g.B.Batch.is_right c.args.batch.now) c.loop-place.slots.items
    c.loop-place.place c.take-drawn.result c.index_mut.result.now
    (omega (arith, c.loop-place-test.true, c.places-places.ensures, c.loop-place.auto.place-end))
    c.loop-place.invariant.slots c.index_mut.ensures.value c.take-drawn.ensures.value

pub loop-place-preserved : goal.loop-place-preserved
loop-place-preserved g c = record {
  slots =
      slot_set (g.B.Batch.places c.args.batch.now) (g.B.Batch.is_right c.args.batch.now) c.loop-place.slots.items
      c.loop-place.place c.take-drawn.new.self
      (omega (arith, c.loop-place-test.true, c.places-places.ensures, c.loop-place.auto.place-end))
      c.loop-place.invariant.slots (subst (λ o. IfSome o (g.B.Batch.is_right c.args.batch.now c.loop-place.place))
      (sym c.take-drawn.ensures.after) tt);
  made = made_more (g.B.Batch.is_right c.args.batch.now) c.loop-place.place c.loop-place.all.items c.push.new.self.items
      c.in_ok-drawn_or_made.field-0 c.loop-place.invariant.made c.in_ok-drawn_or_made.ensures
      c.in_ok-push.ensures.items;
}
