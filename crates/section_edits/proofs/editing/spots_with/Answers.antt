use Rattle.std.proofs.Common.{List, set, ap, ◌∙◌}
use Rattle.std.proofs.lemmas.List.{map-set}
use Rattle.section_core.specs.Parts.{Spot}
use Rattle.section_core.specs.Views.{spot_at}
use Rattle.section_edits.proofs.editing.spots_with.Goals as goal

pub returns : goal.returns
returns c =
    map-set spot_at c.in_ok-spots.spots.items c.args.index c.args.to.now
    ∙ ap (λ (ps : List Spot). set ps c.args.index (spot_at c.args.to.now)) c.in_ok-spots.ensures
