use Rattle.std.proofs.Common.{◌∙◌, ap, arith, bytes_eq, slice_index_or}
use Rattle.std.specs.HashMap.{get}
use Rattle.correspondence.proofs.Nested.{few_contours}
use Rattle.correspondence.specs.Named.{lists_of}
use Rattle.correspondence.proofs.Held.{kept_flat, sections_within}
use Rattle.correspondence.proofs.CauseReads.{contour_place_found, depths_told}
use Rattle.correspondence.proofs.links.test_links.Goals as goal

pub all_depths-requires : goal.all_depths-requires
all_depths-requires c k d l =
    let all = c.sections-all in
    sections_within all.result.now c.args.sections.now all.ensures.parts (kept_flat all.result.now all.ensures.kept)
    all.ensures.accepted k d l

pub all_contour_places-requires-clause-contours : goal.all_contour_places-requires-clause-contours
all_contour_places-requires-clause-contours c k d l =
    let all = c.sections-all in
    let few = few_contours (slice_index_or all.result.now k d).contours.items
    (sections_within all.result.now c.args.sections.now all.ensures.parts
    (kept_flat all.result.now all.ensures.kept) all.ensures.accepted k d l) in
    omega (arith, few)

pub test_each-requires-clause-places : goal.test_each-requires-clause-places
test_each-requires-clause-places c name =
    let all = c.sections-all in
    contour_place_found c.args.sections.now all.result.now (get bytes_eq c.in_ok-contour_places.contour_places)
    all.ensures.parts c.in_ok-contour_places.ensures name

pub test_each-requires-clause-depths : goal.test_each-requires-clause-depths
test_each-requires-clause-depths c =
    let all = c.sections-all in
    ap lists_of c.deref.ensures.value ∙ c.in_ok-depths.ensures
    ∙ depths_told c.args.sections.now all.result.now all.ensures.parts (kept_flat all.result.now all.ensures.kept)
