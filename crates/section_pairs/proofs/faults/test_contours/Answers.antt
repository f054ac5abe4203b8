use Rattle.std.proofs.Common.{arith, ap, ◌∙◌, map, Err}
use Rattle.std.specs.Prelude.{All}
use Rattle.std.proofs.lemmas.Result.{err_from_is_err_and}
use Rattle.fku_types.specs.declared.fault.Fault.{Fault}
use Rattle.section_core.specs.Flat.{contour_data}
use Rattle.section_pairs.specs.SectionFaults.{IsSimpleContour, HasSelfCrossing, IsFirstFault}
use Rattle.section_pairs.proofs.Firsts.{all_more, all_whole, first_here, told}
use Rattle.section_pairs.proofs.faults.test_contours.Goals as goal

pub returns-in_err-test_simple : goal.returns-in_err-test_simple
returns-in_err-test_simple c =
    let contours = c.args.contours.now in
    let exit = err_from_is_err_and c.from_residual.result c.from_residual.ensures.1 in
    told c.from_residual.result c.in_err-test_simple.field-0.0 (All IsSimpleContour (map contour_data contours))
    (IsFirstFault IsSimpleContour HasSelfCrossing (map contour_data contours))
    (exit.1 ∙ ap (λ (e : Fault). Err e) exit.2)
    (first_here contour_data IsSimpleContour HasSelfCrossing contours c.loop-contour.contour-index c.contour-item.result
    c.in_err-test_simple.field-0.0 c.loop-contour-test.true c.contour-item.is c.loop-contour.invariant
    c.in_err-test_simple.ensures)

pub loop-contour-preserved : goal.loop-contour-preserved
loop-contour-preserved c =
    all_more contour_data IsSimpleContour c.args.contours.now c.loop-contour.contour-index c.contour-item.result
    c.loop-contour-test.true c.contour-item.is c.loop-contour.invariant c.in_ok-test_simple.ensures

pub returns : goal.returns
returns c = all_whole contour_data IsSimpleContour c.args.contours.now c.loop-contour.contour-index (omega arith)
    c.loop-contour.invariant
