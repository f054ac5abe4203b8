use Rattle.pair_pool.proofs.Made.{drawn_more}
use Rattle.pair_pool.proofs.drawing.draw.Goals as goal

pub loop-preserved : goal.loop-preserved
loop-preserved g c =
    drawn_more (g.B.Batch.places c.args.batch.now) (g.B.Batch.is_right c.args.batch.now) c.loop.drawn.items
    c.push.new.self.items _ c.in_ok-made.made c.loop.invariant
    (c.requires c.fetch_add-number.result 0 c.if-number-order.false) c.in_ok-made.ensures c.in_ok-push.ensures.items
