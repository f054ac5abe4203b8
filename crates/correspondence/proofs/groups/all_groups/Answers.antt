use Rattle.std.proofs.Common.{◌≡◌, ◌+◌, ◌*◌, [], ◌∷◌, length, map, length-append, arith, ap, ◌∙◌}
use Rattle.std.proofs.lemmas.List.{length-map}
use Rattle.correspondence.specs.declared.groups.TheConstants.{GROUP}
use Rattle.correspondence.specs.Contours.{points_of}
use Rattle.correspondence.specs.Groups.{IsBoundedGroup}
use Rattle.correspondence.proofs.GroupLaws.{placed_more}
use Rattle.correspondence.proofs.groups.all_groups.Goals as goal

pub loop-begin-preserved : goal.loop-begin-preserved
loop-begin-preserved c =
    let contours = map points_of c.args.contours.now in
    let before = c.loop-begin.groups.items in
    let group = c.at-group.result in
    let more = c.in_ok-push.ensures.items in
    let same = length-map c.args.contours.now points_of in
    let inv = c.loop-begin.invariant in
    let begin : group.begin ≡ length before * GROUP =
    omega (arith, c.at-group.ensures.begin, inv.reached, c.loop-begin-test.true) in
    let longer : length c.push.new.self.items ≡ length before + 1 = ap length more
    ∙ length-append before (group ∷ []) in
    record {
      each = placed_more (λ k g. IsBoundedGroup contours g) before c.push.new.self.items group more inv.each
          c.at-group.ensures.group;
      begin = placed_more (λ k g. g.begin ≡ k * GROUP) before c.push.new.self.items group more inv.begin begin;
      reached = omega (arith, c.at-group.ensures.group.whole, same, begin, longer);
    }

pub returns : goal.returns
returns c =
    let same = length-map c.args.contours.now points_of in
    record {
      each = c.loop-begin.invariant.each;
      begin = c.loop-begin.invariant.begin;
      all = omega (arith, same, c.loop-begin.invariant.reached, c.loop-begin-test.false);
    }
