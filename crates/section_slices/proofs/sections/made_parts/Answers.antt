use Rattle.std.proofs.Common.{◌∙◌, ap, map, length, flat_map, List, Vec}
use Rattle.std.specs.Global.{Global}
use Rattle.std.specs.List.{range_with_len}
use Rattle.fku_types.specs.declared.points.Spot.{Spot}
use Rattle.section_core.proofs.Placed.{flat_of}
use Rattle.section_pairs.specs.Pairs.{pair_parts}
use Rattle.section_slices.specs.Densified.{section_and_middle}
use Rattle.section_slices.specs.Marks.{outlines_of}
use Rattle.section_slices.proofs.Made.{is_made}
use Rattle.section_slices.proofs.sections.made_parts.Goals as goal

pub returns-clause-densified : goal.returns-clause-densified
returns-clause-densified c =
    let S = c.args.sections.now in
    let ps = map pair_parts c.args.pairs.now in
    is_made S ps (outlines_of c.in_ok-outlines.outlines.items) c.in_ok-parts.parts.items c.in_ok-links.links.items
    c.requires.pairs c.in_ok-outlines.ensures
    (c.in_ok-parts.ensures.parts ∙ ap (λ (os : List (Vec Spot Global)).
    flat_map (section_and_middle S ps (outlines_of os)) (range_with_len 0 (length S.sections)))
    c.deref.ensures.value) c.in_ok-links.ensures

pub returns-clause-flat : goal.returns-clause-flat
returns-clause-flat c = flat_of c.in_ok-parts.parts.items c.in_ok-parts.ensures.level
