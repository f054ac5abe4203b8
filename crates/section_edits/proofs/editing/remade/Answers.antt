use Rattle.std.proofs.Common.{◌≡◌, List, None, Some, map, sym, ap, ap₂, subst, subst₂, ◌∙◌}
use Rattle.std.proofs.lemmas.Bool.{false≢true}
use Rattle.fku_types.specs.declared.rules.PairRule.{PairRule}
use Rattle.section_core.specs.declared.parts.Section.{Section}
use Rattle.section_core.specs.Parts.{CostParts}
use Rattle.section_core.specs.Views.{section_parts}
use Rattle.section_core.specs.Accepted.{IsAccepted}
use Rattle.section_core.specs.Finished.{ended_parts}
use Rattle.section_edits.specs.Refusals.{first_of, IsLateRefusal}
use Rattle.section_edits.specs.LateTests.{late_tests}
use Rattle.section_edits.proofs.Answering.{told}
use Rattle.section_edits.proofs.Lawful.{accepted, late_is}
use Rattle.section_edits.proofs.editing.remade.Goals as goal

pub returns-in-Some : goal.returns-in-Some
returns-in-Some c =
    let ss = c.args.sections.items in
    let ls = c.args.links.items in
    let T = ended_parts c.args.old.now.cost c.args.old.now.rule ss ls in
    let late : first_of (late_tests (map section_parts ss)) ≡ Some c.in-Some.fault =
    ap (λ (xs : List Section). first_of (late_tests (map section_parts xs))) (sym c.deref.ensures.value)
    ∙ sym c.in-Some.ensures in
    told (IsLateRefusal T) c.in-Some.fault _ (subst (IsLateRefusal T) late (late_is T c.requires.ready))

pub prove-unreachable-requires : goal.prove-unreachable-requires
prove-unreachable-requires c =
    let ss = c.args.sections.items in
    let ls = c.args.links.items in
    let T = ended_parts c.args.old.now.cost c.args.old.now.rule ss ls in
    let late : first_of (late_tests (map section_parts ss)) ≡ None =
    ap (λ (xs : List Section). first_of (late_tests (map section_parts xs))) (sym c.deref.ensures.value)
    ∙ sym c.in_default.ensures in
    let lawful = subst₂ (λ (cost : CostParts) (rule : PairRule). IsAccepted (ended_parts cost rule ss ls))
    (sym c.cost.ensures.parts) (sym c.rule.ensures)
    (accepted T c.requires.ready (subst (IsLateRefusal T) late (late_is T c.requires.ready))) in
    false≢true (sym c.if-prove.true ∙ c.is_wanting-wanting.ensures (c.in-Err.ensures.fine lawful c.requires.flat))

pub returns-in-Ok : goal.returns-in-Ok
returns-in-Ok c =
    let ss = c.args.sections.items in
    let ls = c.args.links.items in
    let T = ended_parts c.args.old.now.cost c.args.old.now.rule ss ls in
    let late : first_of (late_tests (map section_parts ss)) ≡ None =
    ap (λ (xs : List Section). first_of (late_tests (map section_parts xs))) (sym c.deref.ensures.value)
    ∙ sym c.in_default.ensures in (
      subst (IsLateRefusal T) late (late_is T c.requires.ready),
      c.in-Ok.ensures.made
          ∙ ap₂ (λ (cost : CostParts) (rule : PairRule). ended_parts cost rule ss ls) c.cost.ensures.parts
          c.rule.ensures,
    )
