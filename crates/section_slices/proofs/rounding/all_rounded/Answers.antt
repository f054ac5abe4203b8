use Rattle.fku_types.proofs.ListLaws.{all_pushed}
use Rattle.section_slices.specs.Roundings.{rounded_spot, IsRoundedInRange}
use Rattle.fku_types.proofs.LoopSteps.{mapped_next, mapped_all}
use Rattle.section_slices.proofs.rounding.all_rounded.Goals as goal

pub loop-point-preserved : goal.loop-point-preserved
loop-point-preserved c =
    let was = c.loop-point.invariant in
    let old = c.loop-point.spots.items in
    let new = c.push.new.self.items in
    let spot = c.rounded_spot.result in
    record {
      value = mapped_next (rounded_spot c.args.den) c.args.points.now c.loop-point.point-index _ spot old new
          c.loop-point-test.true was.value c.rounded_spot.ensures.value c.in_ok-push.ensures.items;
      range = all_pushed IsRoundedInRange old new spot c.in_ok-push.ensures.items was.range
          c.rounded_spot.ensures.range;
    }

pub returns-clause-value : goal.returns-clause-value
returns-clause-value c = mapped_all (rounded_spot c.args.den) c.args.points.now c.loop-point.point-index
    c.loop-point.spots.items c.loop-point-test.false c.loop-point.invariant.value

pub returns-clause-range : goal.returns-clause-range
returns-clause-range c = c.loop-point.invariant.range
