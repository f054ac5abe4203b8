use Rattle.std.proofs.Common.{arith, length, ap, ◌∙◌}
use Rattle.pair_pool.proofs.Found.{found_none, found_next, found_all}
use Rattle.pair_pool.proofs.Taken.{none_taken, taken_more, all_taken}
use Rattle.pair_pool.proofs.finding.merge_all.Goals as goal

pub loop-found-init : goal.loop-found-init
loop-found-init c =
    let gives = c.into_iter-found-iterator.ensures.into_iter_gives in
    let rest = c.into_iter-found-iterator.result.rest in
    record {
      next = tt;
      finite = tt;
      taken = none_taken c.args.each.items rest.items rest.len gives.0 (omega (arith, gives.1));
      before = found_none c.args.sections.now c.find_part-all.result c.find_part-all.ensures;
    }

pub loop-found-preserved : goal.loop-found-preserved
loop-found-preserved c =
    let each = c.args.each.items in
    let done = c.loop-found.yielded in
    let was = c.loop-found.found-iterator.rest in
    let rest = c.next.new.self.rest in
    let steps = c.in-Some.ensures.steps in
    let taken = c.loop-found.invariant.taken in
    record {
      next = tt;
      finite = tt;
      taken = taken_more each done was.items rest.items c.in-Some.found rest.len steps.0
          (omega (arith, steps.1, taken.left, ap length steps.0)) was.len taken;
      before =
          found_next c.args.sections.now each done was.items rest.items was.len c.loop-found.all c.in-Some.found
          c.merged-all.result steps.0 taken c.requires.made c.loop-found.invariant.before (λ xs ys b m e.
          c.merged-all.ensures c.args.sections.now xs ys b m e);
    }

pub returns : goal.returns
returns c =
    let done = c.loop-found.yielded in
    let rest = c.loop-found.found-iterator.rest in
    let whole = all_taken c.args.each.items done rest.items rest.len c.in-None.ensures.steps.0
    c.loop-found.invariant.taken in
    found_all c.args.sections.now (length done) c.loop-found.all (ap length whole ∙ c.requires.made.count)
    c.loop-found.invariant.before
