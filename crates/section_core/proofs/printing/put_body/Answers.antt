use Rattle.std.proofs.Common.{◌≡◌, ◌++◌}
use Rattle.std.specs.List.{flat_map}
use Rattle.text_io.specs.WordLists.{line_text}
use Rattle.section_core.specs.Parts.{body_lines}
use Rattle.section_core.specs.Canonical.{link_text}
use Rattle.section_core.proofs.Printed.{printed_body, on_ok}
use Rattle.section_core.proofs.printing.put_body.Goals as goal

pub returns-clause-text : goal.returns-clause-text
returns-clause-text c =
    let S = c.args.sections.now in
    on_ok c.put_links.result (c.put_links.new.out.items ≡ c.put_sections.new.out.items
    ++ flat_map link_text c.links-links.result.now)
    (c.put_links.new.out.items ≡ c.args.out.now.items ++ flat_map line_text (body_lines S.rule S.sections S.links))
    (λ e. printed_body S c.sections-all.result.now c.links-links.result.now c.args.out.now.items
    c.put_sections.new.out.items c.put_links.new.out.items c.sections-all.ensures.parts c.links-links.ensures.parts
    c.links-links.ensures.linked c.in_ok-put_sections.ensures e)
    c.put_links.ensures
