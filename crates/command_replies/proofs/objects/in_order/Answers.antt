use Rattle.std.proofs.Common.{◌++◌, List, Vec, map, ap, sym, ◌∙◌, append-nil, arith, length}
use Rattle.std.specs.Global.{Global}
use Rattle.std.proofs.lemmas.List.{nil_from_length}
use Rattle.section_pairs.specs.declared.gap_pairs.GapPair.{GapPair}
use Rattle.surface_core.specs.Objects.{numbered, pair_lists}
use Rattle.section_pairs.specs.Pairs.{pair_parts}
use Rattle.command_replies.proofs.ObjectTexts.{numbered_more}
use Rattle.command_replies.proofs.objects.in_order.Goals as goal

pub loop-list-init : goal.loop-list-init
loop-list-init c =
    let gives = c.into_iter-list-iterator.ensures.into_iter_gives in
    let rest = c.into_iter-list-iterator.result.rest in
    record {
      pairs = ap (λ (ps : List GapPair). map pair_parts ps ++ numbered (pair_lists rest.items)) c.new-all.ensures.items
          ∙ ap (λ (vs : List (Vec GapPair Global)). numbered (pair_lists vs)) gives.0;
      left = omega (arith, gives.1, ap length gives.0);
    }

pub loop-list-preserved : goal.loop-list-preserved
loop-list-preserved c =
    let step = c.in-Some.ensures.steps in
    let was = c.loop-list.invariant in
    record {
      pairs = numbered_more c.loop-list.all.items c.add_pairs.new.all.items c.in-Some.list
          c.loop-list.list-iterator.rest.items c.next.new.self.rest.items (numbered (pair_lists c.args.lists.items))
          was.pairs step.0 c.in_ok-add_pairs.ensures;
      left = omega (arith, step.1, was.left, ap length step.0);
    }

pub returns : goal.returns
returns c =
    let was = c.loop-list.invariant in
    let none = nil_from_length c.loop-list.list-iterator.rest.items (sym was.left ∙ c.in-None.ensures.steps.0) in
    sym (append-nil (map pair_parts c.loop-list.all.items))
    ∙ ap (λ (vs : List (Vec GapPair Global)). map pair_parts c.loop-list.all.items ++ numbered (pair_lists vs))
    (sym none) ∙ was.pairs
