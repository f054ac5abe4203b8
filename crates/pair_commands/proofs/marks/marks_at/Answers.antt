use Rattle.std.proofs.Common.{[], Vec, ap, sym, ◌∙◌}
use Rattle.std.specs.Global.{Global}
use Rattle.std.proofs.lemmas.List.{get_or-map}
use Rattle.landmarks.specs.declared.marks.Mark.{Mark}
use Rattle.pair_commands.proofs.marks.marks_at.Goals as goal

pub returns : goal.returns
returns c =
    c.deref.ensures.value ∙ ap (λ (v : Vec Mark Global). v.items) c.index-groups-place.is
    ∙ sym (get_or-map (λ (v : Vec Mark Global). v.items) c.args.groups.now c.args.place c.index-groups-place.result []
    c.requires)
