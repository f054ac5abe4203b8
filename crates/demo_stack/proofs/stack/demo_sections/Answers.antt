use Rattle.std.proofs.Common.{map, ap, sym, subst, ◌∙◌}
use Rattle.section_core.specs.Views.{section_parts, link_parts}
use Rattle.section_core.specs.Accepted.{IsAccepted}
use Rattle.demo_stack.proofs.Demos.{demo_accepted, made_is}
use Rattle.demo_stack.proofs.stack.demo_sections.Goals as goal

pub no_memory-requires : goal.no_memory-requires
no_memory-requires c =
    let e = made_is c.args.seed c.args.sections c.args.vertices (map section_parts c.in_ok-stack.stack.items)
    (map link_parts c.new.result.items) c.in_ok-stack.ensures.parts (ap (map link_parts) c.new.ensures.items) in
    c.in-Err.ensures.fine (subst IsAccepted (sym e)
    (demo_accepted c.args.seed c.args.sections c.args.vertices c.requires.some_section c.requires.few_sections
    c.requires.enough_vertices c.requires.few_vertices)) c.in_ok-stack.ensures.flat

pub returns-in-Ok : goal.returns-in-Ok
returns-in-Ok c =
    let e = made_is c.args.seed c.args.sections c.args.vertices (map section_parts c.in_ok-stack.stack.items)
    (map link_parts c.new.result.items) c.in_ok-stack.ensures.parts (ap (map link_parts) c.new.ensures.items) in
    c.in-Ok.ensures.made ∙ e
