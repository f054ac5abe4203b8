use Rattle.std.proofs.Common.{◌≡◌, ◌++◌, ℕ, List, ap, sym, ◌∙◌, append_assoc}
use Rattle.std.specs.List.{flat_map}
use Rattle.text_io.specs.WordLists.{line_text}
use Rattle.section_core.specs.Parts.{body_lines}
use Rattle.section_core.specs.Canonical.{name_text, object_text}
use Rattle.section_core.specs.Objects.{object_parts}
use Rattle.section_core.proofs.Printed.{object_is, on_ok}
use Rattle.section_core.proofs.printing.put_object.Goals as goal

pub returns : goal.returns
returns c =
    let S = c.args.object.now.sections in
    let name = name_text c.args.version c.args.object.now.name in
    let body = flat_map line_text (body_lines S.rule S.sections S.links) in
    on_ok c.put_body.result (c.put_body.new.out.items ≡ c.put_object_name.new.out.items ++ body)
    (c.put_body.new.out.items ≡ c.args.out.now.items
    ++ object_text c.args.version S.rule (object_parts c.args.object.now))
    (λ e. e ∙ ap (λ (x : List ℕ). x ++ body) c.in_ok-put_object_name.ensures
    ∙ append_assoc c.args.out.now.items name body
    ∙ ap (λ (x : List ℕ). c.args.out.now.items ++ x)
    (sym (object_is c.args.version S.rule (object_parts c.args.object.now))))
    c.put_body.ensures.text
