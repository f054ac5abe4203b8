use Rattle.pair_pool.proofs.Made.{made_more}
use Rattle.pair_pool.proofs.placing.in_order.Goals as goal

pub loop-place-preserved : goal.loop-place-preserved
loop-place-preserved g c =
    made_more (g.B.Batch.is_right c.args.batch.now) c.loop-place.place c.loop-place.all.items c.push.new.self.items
    c.in_ok-make.field-0 c.loop-place.invariant c.in_ok-make.ensures c.in_ok-push.ensures.items
