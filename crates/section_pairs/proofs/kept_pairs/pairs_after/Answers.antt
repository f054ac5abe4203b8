use Rattle.std.proofs.Common.{◌∙◌, ap, Err}
use Rattle.std.proofs.lemmas.Result.{err_from_is_err_and}
use Rattle.fku_types.specs.declared.fault.Fault.{Fault}
use Rattle.section_pairs.specs.SectionFaults.{IsPairsFault, IsLateMemory}
use Rattle.section_pairs.proofs.Sides.{err_told}
use Rattle.section_pairs.proofs.FoundCases.{found_in_contours, late_in_contours, always}
use Rattle.section_pairs.proofs.kept_pairs.pairs_after.Goals as goal

pub returns-in_err-test_sections_after-clause-fault : goal.returns-in_err-test_sections_after-clause-fault
returns-in_err-test_sections_after-clause-fault c =
    let S = c.args.sections.now in
    let fault = c.in_err-test_sections_after.field-0.0 in
    let exit = err_from_is_err_and c.from_residual.result c.from_residual.ensures.1 in
    err_told c.from_residual.result fault (IsPairsFault S) (exit.1 ∙ ap (λ (e : Fault). Err e) exit.2)
    (found_in_contours S fault c.in_err-test_sections_after.ensures)

pub returns-in_err-test_sections_after-clause-memory : goal.returns-in_err-test_sections_after-clause-memory
returns-in_err-test_sections_after-clause-memory c =
    let S = c.args.sections.now in
    let fault = c.in_err-test_sections_after.field-0.0 in
    let exit = err_from_is_err_and c.from_residual.result c.from_residual.ensures.1 in
    err_told c.from_residual.result fault (IsLateMemory S) (exit.1 ∙ ap (λ (e : Fault). Err e) exit.2)
    (late_in_contours S fault c.in_err-test_sections_after.ensures)

pub returns-clause-memory : goal.returns-clause-memory
returns-clause-memory c = always c.linked.result (IsLateMemory c.args.sections.now)
    (λ f e. c.in_ok-test_sections_after.ensures)
