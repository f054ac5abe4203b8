use Rattle.std.proofs.Common.{sym, ◌∙◌, arith}
use Rattle.std.proofs.lemmas.List.{length-map}
use Rattle.section_core.specs.Flat.{section_data}
use Rattle.section_pairs.proofs.Equals.{image_at}
use Rattle.section_pairs.proofs.unchanged.is_same_at.Goals as goal

pub returns-then-place-sections-clause-all : goal.returns-then-place-sections-clause-all
returns-then-place-sections-clause-all c h =
    let old = c.args.old.now in
    let new = c.args.sections.now in
    let i = c.args.place in
    let x = c.index-old-place.result in
    let y = c.index-sections-place.result in
    c.is_same_section.ensures.all
    (image_at section_data old i x (section_data x) (omega (arith, h.there, length-map old section_data))
    c.index-old-place.is ∙ h.same (section_data x)
    ∙ sym (image_at section_data new i y (section_data x) (omega (arith, h.also_there, length-map new section_data))
    c.index-sections-place.is))
