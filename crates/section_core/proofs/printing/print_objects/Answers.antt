use Rattle.std.proofs.Common.{◌≡◌, ◌≤◌, length, ◌++◌, ℕ, List, map, ap, sym, subst, ◌∙◌}
use Rattle.std.specs.List.{flat_map}
use Rattle.section_core.specs.Costs.{cost_parts}
use Rattle.section_core.specs.Parts.{CostParts}
use Rattle.fku_types.specs.declared.limits.TheConstants.{MAX_INPUT_BYTES}
use Rattle.fku_types.specs.declared.rules.PairRule.{PairRule}
use Rattle.section_core.specs.declared.parts.Version.{Version}
use Rattle.section_core.specs.Parts.{ObjectParts}
use Rattle.section_core.specs.Canonical.{head_text, object_text}
use Rattle.section_core.specs.Objects.{object_parts}
use Rattle.section_core.specs.Texts.{IsTextOfFile}
use Rattle.section_core.proofs.Canon.{file_text_reads}
use Rattle.section_core.proofs.Length.{file_short}
use Rattle.section_core.proofs.Printed.{printed_file}
use Rattle.section_core.proofs.printing.print_objects.Goals as goal

pub returns-clause-canonical : goal.returns-clause-canonical
returns-clause-canonical c =
    let F = c.args.objects.now in
    let v = c.kept_version-version.result in
    let head : c.put_head.new.out.items ≡ head_text F.version F.cost F.rule =
    c.in_ok-put_head.ensures ∙ ap (λ (x : List ℕ). x ++ head_text v (cost_parts c.cost.result) c.rule.result)
    c.new-out.ensures.items
    ∙ ap (λ (x : CostParts). head_text v x c.rule.result) c.cost.ensures.parts
    ∙ ap (λ (x : PairRule). head_text v F.cost x) c.rule.ensures
    ∙ ap (λ (x : Version). head_text x F.cost F.rule) c.kept_version-version.ensures in
    let body : c.put_objects.new.out.items ≡ c.put_head.new.out.items
    ++ flat_map (object_text F.version F.rule) F.objects =
    c.in_ok-put_objects.ensures F.cost F.rule c.items.ensures.under
    ∙ ap (λ (x : Version). c.put_head.new.out.items
    ++ flat_map (object_text x F.rule) (map object_parts c.items.result.now)) c.kept_version-version.ensures
    ∙ ap (λ (os : List ObjectParts). c.put_head.new.out.items ++ flat_map (object_text F.version F.rule) os)
    c.items.ensures.parts in
    printed_file F c.put_head.new.out.items c.put_objects.new.out.items c.put.new.out.items head body
    c.in_ok-put.ensures

pub returns-clause-law : goal.returns-clause-law
returns-clause-law c = subst (λ (x : List ℕ). IsTextOfFile x c.args.objects.now) (sym (returns-clause-canonical c))
    (file_text_reads c.args.objects.now c.items.ensures.accepted)

pub returns-clause-short : goal.returns-clause-short
returns-clause-short c = subst (λ (x : List ℕ). length x ≤ MAX_INPUT_BYTES) (sym (returns-clause-canonical c))
    (file_short c.args.objects.now c.items.ensures.accepted)
