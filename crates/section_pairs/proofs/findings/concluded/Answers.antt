use Rattle.std.proofs.Common.{inl, inr, ap, ◌∙◌, Err}
use Rattle.std.proofs.lemmas.Result.{err_from_is_err_and}
use Rattle.fku_types.specs.declared.fault.Fault.{Fault}
use Rattle.section_pairs.specs.SectionFaults.{IsPairsFault}
use Rattle.section_pairs.proofs.Sides.{err_told}
use Rattle.section_pairs.proofs.FoundCases.{found_in_contours, of_ok, of_err}
use Rattle.section_pairs.proofs.findings.concluded.Goals as goal

pub returns-in_err-found-clause-fault : goal.returns-in_err-found-clause-fault
returns-in_err-found-clause-fault c =
    let S = c.args.sections.now in
    let fault = c.in_err-found.field-0.0 in
    let exit = err_from_is_err_and c.from_residual.result c.from_residual.ensures.1 in
    err_told c.from_residual.result fault (IsPairsFault S) (exit.1 ∙ ap (λ (e : Fault). Err e) exit.2)
    (found_in_contours S fault (inl (of_err c.args.found.simple fault _ _ c.in_err-found.was c.requires.simple)))

pub returns-in_err-found-2-clause-fault : goal.returns-in_err-found-2-clause-fault
returns-in_err-found-2-clause-fault c =
    let S = c.args.sections.now in
    let fault = c.in_err-found-2.field-0.0 in
    let exit = err_from_is_err_and c.from_residual-in_err-found-2.result c.from_residual-in_err-found-2.ensures.1 in
    err_told c.from_residual-in_err-found-2.result fault (IsPairsFault S) (exit.1 ∙ ap (λ (e : Fault). Err e) exit.2)
    (found_in_contours S fault (inr (record {
      simple = of_ok c.args.found.simple _ _ _ c.in_ok-found.was c.requires.simple;
      first = of_err c.args.found.apart fault _ _ c.in_err-found-2.was c.requires.apart;
    })))

pub linked-requires-clause-sound : goal.linked-requires-clause-sound
linked-requires-clause-sound c = record {
  simple = of_ok c.args.found.simple _ _ _ c.in_ok-found.was c.requires.simple;
  apart = of_ok c.args.found.apart _ _ _ c.in_ok-found-2.was c.requires.apart;
}
