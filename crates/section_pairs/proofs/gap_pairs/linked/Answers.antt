use Rattle.std.proofs.Common.{◌∙◌, ◌-◌, ap, Err, length}
use Rattle.std.proofs.lemmas.Result.{err_from_is_err_and}
use Rattle.fku_types.specs.declared.fault.Fault.{Fault}
use Rattle.section_pairs.specs.SectionFaults.{IsPairsFault}
use Rattle.section_pairs.proofs.Sides.{err_told}
use Rattle.section_pairs.proofs.FoundCases.{found_in_links}
use Rattle.section_pairs.proofs.RangeLaws.{last_gap, told_pairs, told_strips, told_gaps, told_count, told_fault}
use Rattle.section_pairs.proofs.gap_pairs.linked.Goals as goal

pub returns-in_err-test_links-clause-fault : goal.returns-in_err-test_links-clause-fault
returns-in_err-test_links-clause-fault c =
    let S = c.args.sections.now in
    let fault = c.in_err-test_links.field-0.0 in
    let exit = err_from_is_err_and c.from_residual.result c.from_residual.ensures.1 in
    err_told c.from_residual.result fault (IsPairsFault S) (exit.1 ∙ ap (λ (e : Fault). Err e) exit.2)
    (found_in_links S fault c.requires.sound c.in_err-test_links.ensures)

pub returns-clause-pairs : goal.returns-clause-pairs
returns-clause-pairs c =
    let S = c.args.sections.now in
    let read = c.sections-all.ensures in
    told_pairs S (length S.sections - 1) c.args.found (last_gap c.sections-all.result.now S read.«data» read.kept)
    (record { sound = c.requires.sound; links = c.in_ok-test_links.ensures }) c.requires.found

pub returns-clause-strips : goal.returns-clause-strips
returns-clause-strips c =
    let S = c.args.sections.now in
    told_strips S (length S.sections - 1) c.args.found c.requires.found

pub returns-clause-gaps : goal.returns-clause-gaps
returns-clause-gaps c =
    let S = c.args.sections.now in
    let read = c.sections-all.ensures in
    told_gaps S (length S.sections - 1) c.args.found (last_gap c.sections-all.result.now S read.«data» read.kept)
    c.requires.found

pub returns-clause-few : goal.returns-clause-few
returns-clause-few c =
    let S = c.args.sections.now in
    let ss = c.sections-all.result.now in
    let read = c.sections-all.ensures in
    told_count ss S (length S.sections - 1) c.args.found read.«data» read.kept.few_contours
    (last_gap ss S read.«data» read.kept) c.requires.found

pub returns-clause-fault : goal.returns-clause-fault
returns-clause-fault c =
    let S = c.args.sections.now in
    let read = c.sections-all.ensures in
    told_fault S (length S.sections - 1) c.args.found (last_gap c.sections-all.result.now S read.«data» read.kept)
    (record { sound = c.requires.sound; links = c.in_ok-test_links.ensures }) c.requires.found
