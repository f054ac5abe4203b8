use Rattle.std.proofs.Common.{◌∙◌, sym, arith, pos}
use Rattle.fku_types.specs.declared.points.Spot.{Spot}
use Rattle.section_slices.proofs.Openings.{one_less, all_stay}
use Rattle.section_slices.proofs.rounding.opened_count.Goals as goal

abbrev none : Spot
none = record { x = pos 0; y = pos 0 }

pub loop-count-preserved : goal.loop-count-preserved
loop-count-preserved c = record {
  few = omega arith;
  same = one_less c.args.spots.now c.loop-count.count none c.loop-count-test.true c.loop-count.invariant.few
      (sym c.eq.ensures ∙ c.if-eq.true) ∙ c.loop-count.invariant.same;
}

pub returns-else-eq : goal.returns-else-eq
returns-else-eq c =
    sym (all_stay c.args.spots.now c.loop-count.count none c.loop-count-test.true c.loop-count.invariant.few
    (sym c.eq.ensures ∙ c.if-eq.false)) ∙ c.loop-count.invariant.same
