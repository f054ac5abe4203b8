use Rattle.std.proofs.Common.{List, map, ap, ◌∙◌}
use Rattle.std.specs.List.{insert}
use Rattle.section_core.specs.Parts.{Spot}
use Rattle.section_core.specs.Views.{spot_at}
use Rattle.section_edits.proofs.ChangedPoints.{map-insert}
use Rattle.section_edits.proofs.editing.spots_and.Goals as goal

pub returns : goal.returns
returns c =
    ap (map spot_at) c.in_ok-insert.ensures.items
    ∙ map-insert spot_at c.in_ok-spots.spots.items c.args.index c.args.new.now
    ∙ ap (λ (ps : List Spot). insert ps c.args.index (spot_at c.args.new.now)) c.in_ok-spots.ensures
