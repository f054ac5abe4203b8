use Rattle.pair_pool.proofs.Slots.{places_below}
use Rattle.pair_pool.proofs.solving.SolvingBatch.order.Goals as goal

pub places_of-requires : goal.places_of-requires
places_of-requires g c = places_below c.args.self.now.pairs.now c.in_ok-jobs.jobs.items c.deref.result.now
    c.deref.ensures.value c.in_ok-jobs.ensures
