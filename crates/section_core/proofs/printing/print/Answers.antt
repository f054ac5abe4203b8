use Rattle.std.proofs.Common.{◌≡◌, ◌≤◌, length, ◌++◌, ℕ, List, ap, sym, subst, ◌∙◌}
use Rattle.section_core.specs.Costs.{cost_parts}
use Rattle.section_core.specs.Parts.{CostParts}
use Rattle.fku_types.specs.declared.limits.TheConstants.{MAX_INPUT_BYTES}
use Rattle.fku_types.specs.declared.rules.PairRule.{PairRule}
use Rattle.section_core.specs.declared.parts.Version.TheVariants.{One}
use Rattle.section_core.specs.Canonical.{head_text}
use Rattle.section_core.specs.Texts.{IsTextOf}
use Rattle.section_core.proofs.Canon.{text_reads}
use Rattle.section_core.proofs.Length.{file_short}
use Rattle.section_core.proofs.OneObject.{accepted-to}
use Rattle.section_core.proofs.Printed.{printed_one}
use Rattle.section_core.proofs.printing.print.Goals as goal

pub returns-clause-canonical : goal.returns-clause-canonical
returns-clause-canonical c =
    let S = c.args.sections.now in
    let head : c.put_head.new.out.items ≡ head_text One S.cost S.rule =
    c.in_ok-put_head.ensures ∙ ap (λ (x : List ℕ). x ++ head_text One (cost_parts c.cost.result) c.rule.result)
    c.new-out.ensures.items
    ∙ ap (λ (x : CostParts). head_text One x c.rule.result) c.cost.ensures.parts
    ∙ ap (λ (x : PairRule). head_text One S.cost x) c.rule.ensures in
    printed_one S c.put_head.new.out.items c.put_body.new.out.items c.put.new.out.items head
    c.in_ok-put_body.ensures.text c.in_ok-put.ensures

pub returns-clause-law : goal.returns-clause-law
returns-clause-law c = subst (λ (x : List ℕ). IsTextOf x c.args.sections.now) (sym (returns-clause-canonical c))
    (text_reads c.args.sections.now c.in_ok-put_body.ensures.accepted)

pub returns-clause-short : goal.returns-clause-short
returns-clause-short c = subst (λ (x : List ℕ). length x ≤ MAX_INPUT_BYTES) (sym (returns-clause-canonical c))
    (file_short _ (accepted-to c.args.sections.now c.in_ok-put_body.ensures.accepted))
