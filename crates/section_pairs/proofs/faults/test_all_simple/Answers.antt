use Rattle.std.proofs.Common.{arith, ap, sym, subst, ◌∙◌, ◌++◌, map, take, drop, ◌+◌, List, Err}
use Rattle.std.specs.Prelude.{All}
use Rattle.std.proofs.lemmas.Result.{err_from_is_err_and}
use Rattle.std.proofs.lemmas.List.{take_all}
use Rattle.fku_types.specs.declared.fault.Fault.{Fault}
use Rattle.section_core.specs.declared.parts.Contour.{Contour}
use Rattle.section_core.specs.declared.parts.Section.{Section}
use Rattle.section_core.specs.Flat.{ContourData, contour_data, section_data}
use Rattle.section_pairs.specs.SectionFaults.{IsSimpleContour, HasSelfCrossing, IsFirstFault, data_contours}
use Rattle.section_pairs.proofs.Firsts.{first_left, first_right, told}
use Rattle.section_pairs.proofs.SectionData.{contours_at_split, simple_more, item_at, known_simple}
use Rattle.section_pairs.proofs.faults.test_all_simple.Goals.{then-not-is_same_at+in_ok-test_contours, else-not-is_same_at}
use Rattle.section_pairs.proofs.faults.test_all_simple.Goals as goal

pub returns-in_err-test_contours : goal.returns-in_err-test_contours
returns-in_err-test_contours c =
    let sections = c.args.sections.now in
    let i = c.loop-place.place in
    let s = c.index-sections-place.result in
    let fault = c.in_err-test_contours.field-0.0 in
    let exit = err_from_is_err_and c.from_residual.result c.from_residual.ensures.1 in
    let here : IsFirstFault IsSimpleContour HasSelfCrossing (map contour_data s.contours.items) fault =
    subst (λ (xs : List Contour). IsFirstFault IsSimpleContour HasSelfCrossing (map contour_data xs) fault)
    (c.deref.ensures.value ∙ ap (λ (x : Section). x.contours.items) (sym c.index-sections-place.is))
    c.in_err-test_contours.ensures in
    told c.from_residual.result fault (All IsSimpleContour (data_contours (map section_data sections)))
    (IsFirstFault IsSimpleContour HasSelfCrossing (data_contours (map section_data sections)))
    (exit.1 ∙ ap (λ (e : Fault). Err e) exit.2)
    (subst (λ (xs : List ContourData). IsFirstFault IsSimpleContour HasSelfCrossing xs fault)
    (sym (contours_at_split sections i s c.loop-place-test.true c.index-sections-place.is))
    (first_right IsSimpleContour HasSelfCrossing (data_contours (map section_data (take i sections)))
    (map contour_data s.contours.items ++ data_contours (map section_data (drop (i + 1) sections))) fault
    c.loop-place.invariant
    (first_left IsSimpleContour HasSelfCrossing (map contour_data s.contours.items)
    (data_contours (map section_data (drop (i + 1) sections))) fault here)))

pub loop-place-preserved : goal.loop-place-preserved
loop-place-preserved c =
    let sections = c.args.sections.now in
    let i = c.loop-place.place in
    elim c.if-not-is_same_at.branch [
      | then-not-is_same_at+in_ok-test_contours w ↦
          simple_more sections i w.index-sections-place.result c.loop-place-test.true w.index-sections-place.is
          c.loop-place.invariant
          (subst (λ (xs : List Contour). All IsSimpleContour (map contour_data xs))
          (w.deref.ensures.value ∙ ap (λ (x : Section). x.contours.items) (sym w.index-sections-place.is))
          w.in_ok-test_contours.ensures)
      | else-not-is_same_at w ↦
          let x = item_at sections i c.loop-place-test.true in
          simple_more sections i x.0 c.loop-place-test.true x.1 c.loop-place.invariant
          (known_simple c.args.known.now sections i x.0 c.loop-place-test.true x.1
          (c.is_same_at.ensures.same w.if-not-is_same_at.false) c.requires.known)
    ]

pub returns : goal.returns
returns c =
    subst (λ (xs : List Section). All IsSimpleContour (data_contours (map section_data xs)))
    (take_all c.loop-place.place c.args.sections.now (omega arith)) c.loop-place.invariant
