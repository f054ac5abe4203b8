use Rattle.std.proofs.Common.{◌∙◌, ◌++◌, [], List, ℕ, map, ap, sym, subst, bytes_eq, slice_index_or, get_or, arith}
use Rattle.std.proofs.lemmas.List.{append-nil}
use Rattle.std.specs.List.{range_with_len}
use Rattle.std.specs.HashMap.{get}
use Rattle.section_core.specs.declared.parts.Contour.{Contour}
use Rattle.correspondence.proofs.ContourReads.{name_read}
use Rattle.correspondence.specs.Named.{Finds}
use Rattle.correspondence.proofs.ContourPlaceSteps.{standing, finds_push, places_more, contours_found}
use Rattle.correspondence.proofs.contour_places.add_section.Goals as goal

pub loop-place-init : goal.loop-place-init
loop-place-init c names places e h =
    subst (Finds (get bytes_eq c.args.contour_places.now) names) (sym (append-nil places)) h

pub loop-place-preserved : goal.loop-place-preserved
loop-place-preserved c names places e h =
    let contours = c.args.contours.now in
    let s = c.args.section in
    let k = c.loop-place.place in
    let item = c.index-contours-place.result in
    let name = ap (λ (x : Contour). x.name) (sym c.index-contours-place.is)
    ∙ name_read contours k item c.loop-place-test.true c.index-contours-place.is
    ∙ ap (λ (l : List (List ℕ)). slice_index_or l k []) (sym e) in
    subst (Finds (get bytes_eq c.add_contour_place.new.contour_places) names) (places_more s k places)
    (finds_push (get bytes_eq c.loop-place.contour_places) (get bytes_eq c.add_contour_place.new.contour_places) names
    (places ++ map (standing s) (range_with_len 0 k)) (get_or contours k item).name (standing s k)
    (c.loop-place.invariant names places e h) name c.in_ok-add_contour_place.ensures)

pub returns : goal.returns
returns c names places e h = contours_found (get bytes_eq c.loop-place.contour_places) names places c.args.section
    c.loop-place.place c.args.contours.now (omega arith) e (c.loop-place.invariant names places e h)
