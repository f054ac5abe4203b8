use Rattle.std.proofs.Common.{map, subst, bytes_eq}
use Rattle.std.specs.HashMap.{get}
use Rattle.correspondence.specs.Outlines.{held_names}
use Rattle.correspondence.specs.Links.{contour_places}
use Rattle.correspondence.specs.Named.{Finds}
use Rattle.correspondence.proofs.ContourPlaceSteps.{contour_places_more, section_names}
use Rattle.correspondence.proofs.contour_places.all_contour_places.Goals as goal

pub loop-section-preserved : goal.loop-section-preserved
loop-section-preserved c =
    let sections = c.args.sections.now in
    let names = map held_names sections in
    let s = c.loop-section.section in
    let own = section_names sections s c.index-sections-section.result c.as_slice-contours.result.now
    c.loop-section-test.true c.as_slice-contours.ensures.value in
    subst (Finds (get bytes_eq c.add_section.new.contour_places) names) (contour_places_more names s)
    (c.in_ok-add_section.ensures names (contour_places names s) own c.loop-section.invariant)
