use Rattle.std.specs.List.{flat_map}
use Rattle.section_core.specs.Machine.{section}
use Rattle.section_core.specs.Steps.{after, first_broken}
use Rattle.section_core.specs.Tallies.{Tallies}
use Rattle.section_core.specs.Made.{walk, keeps_name, contour_pieces}
use Rattle.section_core.proofs.Walking.{head_err, head_ok, judges_ok}
use Rattle.section_core.proofs.making.admit_section.Goals as goal

pub returns-in-Err-clause-walks : goal.returns-in-Err-clause-walks
returns-in-Err-clause-walks c f t =
    let z = c.args.section.now.z in
    let more = flat_map (contour_pieces z) c.args.section.now.contours.items in
    head_err (first_broken f (section z)) (section z) (keeps_name (after f (section z)) more)
    (walk (after f (section z)) more) c.in-Err.fault (λ _. Tallies c.admit_height.new.tally (after f (section z))) _
    (c.in-Err.ensures f z t c.height_of.ensures)

pub returns-in-Ok-clause-walks : goal.returns-in-Ok-clause-walks
returns-in-Ok-clause-walks c f t =
    let z = c.args.section.now.z in
    let it = section z in
    let more = flat_map (contour_pieces z) c.args.section.now.contours.items in
    let head = judges_ok (first_broken f it) c.in-Ok.field-0 (λ _. Tallies c.admit_height.new.tally (after f it))
    (c.in-Ok.ensures f z t c.height_of.ensures) in
    head_ok (first_broken f it) it (keeps_name (after f it) more) (walk (after f it) more) c.admit_contours.result
    c.admit_contours.new.tally head.0
    (c.admit_contours.ensures.walks (after f it) head.1)
