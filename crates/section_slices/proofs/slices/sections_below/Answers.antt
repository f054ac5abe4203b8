use Rattle.std.proofs.Common.{◌<ℤ◌, All, ℕ, ℤ, take, subst, arith}
use Rattle.std.proofs.Math.Facts.{to_z-of_z}
use Rattle.section_core.specs.declared.parts.Section.{Section}
use Rattle.section_slices.proofs.SliceHeights.{one_above, one_below}
use Rattle.section_slices.proofs.slices.sections_below.Goals as goal

pub loop-place-preserved : goal.loop-place-preserved
loop-place-preserved c = one_below c.args.sections.now c.args.z c.loop-place.place c.index-sections-place.result
    c.ranges.z c.requires.heights c.loop-place-test.true c.if-z-sections.false c.loop-place.invariant

pub returns : goal.returns
returns c =
    let all = c.args.sections.now in
    record {
      few = omega arith;
      below = subst (λ (n : ℕ). All (λ (s : Section). s.z <ℤ c.args.z) (take n all))
          (omega (arith, c.loop-place-test.false, c.loop-place.auto.place-end))
          (subst (λ (z : ℤ). All (λ (s : Section). s.z <ℤ z) (take c.loop-place.place all)) (to_z-of_z c.ranges.z)
          c.loop-place.invariant);
      next = λ d l. absurd (omega (arith, l));
    }

pub returns-then-z-sections : goal.returns-then-z-sections
returns-then-z-sections c =
    let all = c.args.sections.now in
    record {
      few = omega arith;
      below = subst (λ (z : ℤ). All (λ (s : Section). s.z <ℤ z) (take c.loop-place.place all)) (to_z-of_z c.ranges.z)
          c.loop-place.invariant;
      next = λ d l. one_above all c.args.z c.loop-place.place c.index-sections-place.result d c.ranges.z
          c.requires.heights l c.if-z-sections.true;
    }
