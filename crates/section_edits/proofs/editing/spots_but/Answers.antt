use Rattle.std.proofs.Common.{List, map, ap, ◌∙◌}
use Rattle.std.specs.List.{remove}
use Rattle.fku_types.proofs.ListLaws.{map_remove}
use Rattle.section_core.specs.Parts.{Spot}
use Rattle.section_core.specs.Views.{spot_at}
use Rattle.section_edits.proofs.editing.spots_but.Goals as goal

pub returns : goal.returns
returns c =
    ap (map spot_at) c.remove.ensures.items
    ∙ map_remove spot_at c.in_ok-spots.spots.items c.args.index
    ∙ ap (λ (ps : List Spot). remove ps c.args.index) c.in_ok-spots.ensures
