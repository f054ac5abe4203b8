use Rattle.section_core.specs.Machine.{object}
use Rattle.section_core.specs.Steps.{first_broken}
use Rattle.section_text.specs.States.{state_of}
use Rattle.section_text.proofs.LineTakes.{admits_takes}
use Rattle.section_text.proofs.reading.next_object.Goals as goal

pub returns-in-Err-clause-takes : goal.returns-in-Err-clause-takes
returns-in-Err-clause-takes c f t =
    admits_takes state_of c.args.line c.in-Err.fault (first_broken f (object c.args.next)) _ _ _ _
    (c.in-Err.ensures f t)
