use Rattle.std.proofs.Common.{◌≡◌, map, ap, sym, subst, ◌∙◌}
use Rattle.section_core.specs.Costs.{cost_parts}
use Rattle.section_core.specs.Views.{link_parts}
use Rattle.section_core.specs.Flat.{section_data}
use Rattle.section_core.specs.Accepted.{IsAccepted}
use Rattle.section_core.proofs.Copies.{parts-same, flat-same, parts-are}
use Rattle.section_core.proofs.sections.Sections.copy.Goals as goal

pub invariant_of-result : goal.invariant_of-result
invariant_of-result c =
    let old = c.self.inside.sections.items in
    let new = c.in_ok-sections.sections.items in
    let same : map section_data new ≡ map section_data old = c.in_ok-sections.ensures
    ∙ ap (map section_data) c.deref.ensures.value in
    let links : map link_parts c.in_ok-links.links.items ≡ map link_parts c.self.inside.links.items =
    c.in_ok-links.ensures ∙ ap (map link_parts) c.deref-2.ensures.value in (
      subst IsAccepted (sym (parts-are (cost_parts c.self.inside.cost) c.self.inside.rule _ _ _ _
          (parts-same new old same) links)) c.self.invariant.0,
      flat-same new old same c.self.invariant.1,
    )

pub returns : goal.returns
returns c =
    let old = c.self.inside.sections.items in
    let new = c.in_ok-sections.sections.items in
    let same : map section_data new ≡ map section_data old = c.in_ok-sections.ensures
    ∙ ap (map section_data) c.deref.ensures.value in
    let links : map link_parts c.in_ok-links.links.items ≡ map link_parts c.self.inside.links.items =
    c.in_ok-links.ensures ∙ ap (map link_parts) c.deref-2.ensures.value in
    parts-are (cost_parts c.self.inside.cost) c.self.inside.rule _ _ _ _ (parts-same new old same) links
    ∙ c.self.view_is
