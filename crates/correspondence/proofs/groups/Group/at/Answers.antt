use Rattle.std.proofs.Common.{ℕ, ◌+◌, ◌-◌, ◌<◌, length, map, sym, ap, ◌∙◌, arith}
use Rattle.std.specs.Prelude.{min}
use Rattle.std.proofs.lemmas.List.{length-map, length-replicate, length-set}
use Rattle.correspondence.specs.declared.groups.TheConstants.{GROUP}
use Rattle.correspondence.specs.Contours.{points_of}
use Rattle.correspondence.proofs.GroupLaws.{all_more, each_more}
use Rattle.correspondence.proofs.groups.Group.at.Goals as goal

pub loop-place-init : goal.loop-place-init
loop-place-init c = record {
  size = length-replicate GROUP c.bounds_at-bounds.result;
  enclosed = λ k from below. absurd (omega arith);
  each = λ k d from below. absurd (omega arith);
}

pub loop-place-preserved : goal.loop-place-preserved
loop-place-preserved c =
    let contours = map points_of c.args.contours.now in
    let place = c.loop-place.place in
    let room : place - c.args.begin < length c.loop-place.each =
    omega (arith, c.loop-place.invariant.size, c.loop-place-test.true, c.min-end.ensures) in
    record {
      size = length-set c.loop-place.each (place - c.args.begin) c.bounds_at-one.result ∙ c.loop-place.invariant.size;
      enclosed = all_more contours c.loop-place.bounds c.bounds_at-one.result c.and-bounds.result c.args.begin place
          c.and-bounds.ensures.one c.and-bounds.ensures.other c.loop-place.invariant.enclosed c.bounds_at-one.ensures;
      each = each_more contours c.loop-place.each c.args.begin place c.bounds_at-one.result (omega arith) room
          c.loop-place.invariant.each c.bounds_at-one.ensures;
    }

pub returns-clause-group : goal.returns-clause-group
returns-clause-group c =
    let contours = c.args.contours.now in
    record {
      some = omega (arith, c.min-end.ensures, c.requires.within);
      whole = c.min-end.ensures ∙ ap (λ (n : ℕ). min n (c.args.begin + GROUP)) (sym (length-map contours points_of));
      enclosed = λ k from below. c.loop-place.invariant.enclosed k from (omega (arith, below, c.loop-place-test.false));
      each = λ k d from below. c.loop-place.invariant.each k d from (omega (arith, below, c.loop-place-test.false));
    }
