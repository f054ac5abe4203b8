use Rattle.std.proofs.Common.{◌++◌, List, map, ap, sym, subst, ◌∙◌, append-nil, arith, length}
use Rattle.section_core.specs.Costs.{cost_parts}
use Rattle.section_core.specs.declared.objects.Object.{Object}
use Rattle.section_core.specs.declared.parts.Draft.{Draft}
use Rattle.section_core.specs.Finished.{AreReady}
use Rattle.section_core.specs.Objects.{object_parts, AreUnder}
use Rattle.section_core.specs.Views.{draft_parts}
use Rattle.section_core.proofs.Drafts.{objects_more, under_more, no_rest}
use Rattle.section_core.proofs.objects.objects_of.Goals as goal

pub loop-draft-init : goal.loop-draft-init
loop-draft-init c =
    let gives = c.into_iter-draft-iterator.ensures.into_iter_gives in
    let rest = c.into_iter-draft-iterator.result.rest in
    record {
      objects = ap (λ (xs : List Object). map object_parts xs ++ map draft_parts rest.items) c.new-items.ensures.items
          ∙ ap (map draft_parts) gives.0;
      under = subst (AreUnder (cost_parts c.args.head.cost) c.args.head.rule) (sym c.new-items.ensures.items) tt;
      ready = subst (AreReady c.args.head) (sym gives.0) c.requires;
      left = omega (arith, gives.1, ap length gives.0);
    }

pub loop-draft-preserved : goal.loop-draft-preserved
loop-draft-preserved c =
    let step = c.in-Some.ensures.steps in
    let was = c.loop-draft.invariant in
    let ready = subst (AreReady c.args.head) step.0 was.ready in
    record {
      objects = objects_more c.loop-draft.items.items c.push.new.self.items c.object_of.result c.in-Some.draft
          c.loop-draft.draft-iterator.rest.items c.next.new.self.rest.items (map draft_parts c.args.drafts.items)
          was.objects step.0 c.in_ok-push.ensures.items c.object_of.ensures.0;
      under = subst (AreUnder (cost_parts c.args.head.cost) c.args.head.rule) (sym c.in_ok-push.ensures.items)
          (under_more (cost_parts c.args.head.cost) c.args.head.rule c.loop-draft.items.items c.object_of.result
          was.under c.object_of.ensures.1);
      ready = ready.1;
      left = omega (arith, step.1, was.left, ap length step.0);
    }

pub returns : goal.returns
returns c =
    let was = c.loop-draft.invariant in
    let none = no_rest c.loop-draft.draft-iterator.rest.items c.loop-draft.draft-iterator.rest.len was.left
    c.in-None.ensures.steps.0 in (
      sym (append-nil (map object_parts c.loop-draft.items.items))
          ∙ ap (λ (ds : List Draft). map object_parts c.loop-draft.items.items ++ map draft_parts ds) (sym none)
          ∙ was.objects,
      was.under,
    )
