use Rattle.std.proofs.Common.{ℕ, pos, map, sym, ap, ◌∙◌}
use Rattle.std.proofs.lemmas.List.{length-map}
use Rattle.section_core.specs.Parts.{ContourParts}
use Rattle.section_core.proofs.Placed.{placed_parts, placed_level}
use Rattle.section_core.specs.Views.{spot_at}
use Rattle.section_edits.proofs.changes.contour_with.Goals as goal

pub returns-clause-parts : goal.returns-clause-parts
returns-clause-parts c =
    let name = c.args.name.now in
    let spots = c.args.spots.now in
    let with_count : ℕ → ContourParts = λ n. record { name = name; count = pos n; points = map spot_at spots } in
    placed_parts (record { name = c.copy-name.result; points = c.in_ok-points.points }) name c.args.section.now.z spots
    c.copy-name.ensures c.in_ok-points.ensures ∙ ap with_count (sym (length-map spots spot_at))

pub returns-clause-level : goal.returns-clause-level
returns-clause-level c =
    placed_level (record { name = c.copy-name.result; points = c.in_ok-points.points }) c.args.section.now.z
    c.args.spots.now c.in_ok-points.ensures
