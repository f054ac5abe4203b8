use Rattle.std.proofs.Common.{◌≡◌, List, true, refl, ap, sym, subst, ◌∙◌}
use Rattle.std.proofs.lemmas.Result.{err_from_is_err_and}
use Rattle.section_core.specs.Costs.{cost_parts}
use Rattle.section_core.specs.Parts.{ObjectParts, FileParts}
use Rattle.section_core.specs.Reading.{is_filled}
use Rattle.section_core.specs.Accepted.{IsAcceptedFile}
use Rattle.section_core.specs.Finished.{are_filled}
use Rattle.section_core.specs.Views.{held_file}
use Rattle.section_core.proofs.Drafts.{drafts_ready}
use Rattle.section_core.proofs.Filled.{drafts_filled}
use Rattle.section_core.proofs.objects.finished_objects.Goals as goal

pub returns-then-not-are_filled : goal.returns-then-not-are_filled
returns-then-not-are_filled c = (
  refl,
  sym (drafts_filled c.args.version c.args.head c.args.drafts.items) ∙ ap are_filled (sym c.deref.ensures.value)
      ∙ sym c.are_filled.ensures ∙ c.if-not-are_filled.true,
)

pub objects_of-requires : goal.objects_of-requires
objects_of-requires c =
    let filled : is_filled (held_file c.args.version c.args.head c.args.drafts.items) ≡ true =
    sym (drafts_filled c.args.version c.args.head c.args.drafts.items) ∙ ap are_filled (sym c.deref.ensures.value)
    ∙ sym c.are_filled.ensures ∙ c.if-not-are_filled.false in
    drafts_ready c.args.version c.args.head c.args.drafts.items c.requires.is_file c.requires.lawful c.requires.flat
    filled

pub returns-in_err-items : goal.returns-in_err-items
returns-in_err-items c =
    let filled : is_filled (held_file c.args.version c.args.head c.args.drafts.items) ≡ true =
    sym (drafts_filled c.args.version c.args.head c.args.drafts.items) ∙ ap are_filled (sym c.deref.ensures.value)
    ∙ sym c.are_filled.ensures ∙ c.if-not-are_filled.false in
    let p = err_from_is_err_and c.from_residual.result c.from_residual.ensures.1 in
    rw (p.1, p.2) filled

pub invariant_of-result : goal.invariant_of-result
invariant_of-result c =
    let F : FileParts = held_file c.args.version c.args.head c.args.drafts.items in
    let filled : is_filled F ≡ true =
    sym (drafts_filled c.args.version c.args.head c.args.drafts.items) ∙ ap are_filled (sym c.deref.ensures.value)
    ∙ sym c.are_filled.ensures ∙ c.if-not-are_filled.false in (
      subst (λ (os : List ObjectParts). IsAcceptedFile
          (record {
            version = c.args.version;
            cost = cost_parts c.args.head.cost;
            rule = c.args.head.rule;
            objects =
                os;
          })) (sym c.in_ok-items.ensures.0)
          (record { is_file = c.requires.is_file; lawful = c.requires.lawful; filled = filled }),
      c.in_ok-items.ensures.1,
    )

pub returns : goal.returns
returns c =
    let filled : is_filled (held_file c.args.version c.args.head c.args.drafts.items) ≡ true =
    sym (drafts_filled c.args.version c.args.head c.args.drafts.items) ∙ ap are_filled (sym c.deref.ensures.value)
    ∙ sym c.are_filled.ensures ∙ c.if-not-are_filled.false in (
      ap (λ (os : List ObjectParts). let F : FileParts =
          record { version = c.args.version; cost = cost_parts c.args.head.cost; rule = c.args.head.rule; objects = os }
          in F) c.in_ok-items.ensures.0,
      filled,
    )
