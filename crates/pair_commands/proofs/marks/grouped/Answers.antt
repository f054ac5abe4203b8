use Rattle.std.proofs.Common.{◌≡◌, [], Vec, map, sym, ◌∙◌}
use Rattle.std.specs.Global.{Global}
use Rattle.std.proofs.lemmas.List.{length-map}
use Rattle.std.proofs.lemmas.List.Elements.{recursion_from_All}
use Rattle.landmarks.specs.declared.marks.Mark.{Mark}
use Rattle.section_pairs.specs.Pairs.{pair_parts}
use Rattle.pair_commands.proofs.MarkGroups.{grouped_none}
use Rattle.pair_commands.proofs.marks.grouped.Goals as goal

pub loop-place-init : goal.loop-place-init
loop-place-init c =
    let vs = c.in_ok-groups.groups.items in
    grouped_none (map pair_parts c.args.pairs.now) c.args.marks.now vs
    (c.in_ok-groups.ensures.count ∙ sym (length-map c.args.pairs.now pair_parts))
    (recursion_from_All (λ (v : Vec Mark Global). v.items ≡ []) vs c.in_ok-groups.ensures.none)
