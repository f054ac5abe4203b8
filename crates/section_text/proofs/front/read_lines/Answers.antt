use Rattle.std.proofs.Common.{◌≡◌, ℕ, ◌+◌, drop, Result, Ok, Err, ap, sym, subst, ◌∙◌, refl, arith}
use Rattle.std.specs.Prelude.{slice_range, IfErr}
use Rattle.std.proofs.lemmas.Result.{err_from_is_err_and}
use Rattle.text_io.specs.Text.{lines, kept_from, kept_lines, words}
use Rattle.fku_types.specs.declared.fault.Fault.{Fault}
use Rattle.section_text.specs.declared.front.ObjectsFront.{ObjectsFront}
use Rattle.section_core.specs.Parts.{FileParts}
use Rattle.section_core.specs.Reading.{Breach}
use Rattle.section_core.specs.Machine.{State, at_version, ended}
use Rattle.section_core.specs.Reader.{AnswerOf, judge, goes_on, read_file}
use Rattle.section_core.specs.Views.{held_file}
use Rattle.section_text.specs.States.{state_of}
use Rattle.section_text.specs.Fronts.{Parses, objects_given, IsReadMemory}
use Rattle.section_text.proofs.FrontLemmas.{LineHere, taken_ok, taken_err, finished_ok, finished_err, line_here, end_here, file_here, judged_as, open_read, after_more, pass_one, used_to, end_line_is}
use Rattle.section_text.proofs.FourLines.{line_memory, end_memory}
use Rattle.section_text.proofs.front.read_lines.Goals as goal
use Rattle.section_text.proofs.front.read_lines.Goals.{After-take_line, After-unwrap-version}

-- the line that was taken is the next kept one
here : (c : After-take_line) → LineHere c.args.latest c.args.bytes.now (state_of c.loop-span.state)
    (c.loop-span.count + 1, words (slice_range c.args.bytes.now c.in-Some.span.first c.in-Some.span.end))
    (kept_from (c.loop-span.count + 1 + 1) (lines (drop c.in-Some.span.next c.args.bytes.now)))
here c = line_here c.args.latest c.args.bytes.now (state_of c.loop-span.state) (c.loop-span.count + 1)
    (lines (drop c.loop-span.at c.args.bytes.now)) _ _ c.in-Some.ensures.found.lines
    (sym c.is_kept.ensures ∙ c.if-is_kept.true) c.loop-span.invariant.same c.loop-span.invariant.passed

-- the line that was taken leads to the end
at_end : (c : After-unwrap-version) → judge c.args.latest (state_of c.loop-span.state)
    (words (slice_range c.args.bytes.now c.in-Some.span.first c.in-Some.span.end))
    ≡ Ok (ended (held_file c.unwrap-version.result.0 c.unwrap-version.result.1 c.unwrap-version.result.2.items))
at_end c = judged_as _ c.take_line.new.state c.ended_parts.result c.unwrap-version.result
    (taken_ok _ _ c.take_line.new.state c.take_line.new.tally
    (c.in_ok-take_line.ensures.takes c.loop-span.invariant.tallied)).0 c.ended_parts.ensures c.unwrap-version.ensures

pub returns-in_err-take_line-clause-parses : goal.returns-in_err-take_line-clause-parses
returns-in_err-take_line-clause-parses c =
    let bytes = c.args.bytes.now in
    let fault = c.in_err-take_line.field-0.0 in
    let exit = err_from_is_err_and c.from_residual.result c.from_residual.ensures.1 in
    subst (λ (r : Result ObjectsFront Fault).
    Parses bytes (read_file c.args.latest at_version (kept_lines bytes)) (objects_given r))
    (sym (exit.1 ∙ ap (λ (e : Fault). Err e) exit.2))
    (subst (λ (a : AnswerOf FileParts). Parses bytes a (objects_given (Err fault)))
    (here (goal.at.returns-in_err-take_line-clause-parses c).After-take_line).on
    (taken_err bytes _ _ _ _ fault c.take_line.new.tally
    (c.in_err-take_line.ensures.takes c.loop-span.invariant.tallied)))

pub returns-in_err-take_line-clause-memory : goal.returns-in_err-take_line-clause-memory
returns-in_err-take_line-clause-memory c =
    let fault = c.in_err-take_line.field-0.0 in
    let exit = err_from_is_err_and c.from_residual.result c.from_residual.ensures.1 in
    subst (λ (r : Result ObjectsFront Fault). IfErr r (IsReadMemory c.args.latest c.args.bytes.now))
    (sym (exit.1 ∙ ap (λ (e : Fault). Err e) exit.2))
    (line_memory c.args.latest c.args.bytes.now _ _ _ fault c.take_line.new.tally
    (here (goal.at.returns-in_err-take_line-clause-memory c).After-take_line).passed
    (c.in_err-take_line.ensures.takes c.loop-span.invariant.tallied) c.in_err-take_line.ensures.memory)

pub loop-span-preserved-else-is_ended : goal.loop-span-preserved-else-is_ended
loop-span-preserved-else-is_ended c =
    let n : ℕ = c.loop-span.count + 1 in
    let line = here (goal.at.loop-span-preserved-else-is_ended c).After-take_line in
    let tail = kept_from (n + 1) (lines (drop c.in-Some.span.next c.args.bytes.now)) in
    let taken = taken_ok n _ c.take_line.new.state c.take_line.new.tally
    (c.in_ok-take_line.ensures.takes c.loop-span.invariant.tallied) in
    let goes = ap (λ (r : Result State Breach). goes_on r n tail (λ next. read_file c.args.latest next tail)) taken.0 in
    let open' = open_read c.take_line.new.state n tail (λ next. read_file c.args.latest next tail)
    (sym c.is_ended.ensures ∙ c.if-is_ended.false) in
    record {
      within = c.in-Some.ensures.found.takes_bytes.1;
      counted = omega (arith, c.loop-span.invariant.counted, c.in-Some.ensures.found.takes_bytes.0);
      behind = after_more c.loop-span.count c.loop-span.at c.in-Some.span.next c.args.bytes.now
          c.loop-span.invariant.behind c.in-Some.ensures.found.rest;
      passed = pass_one c.args.latest _ _ _ _ (state_of c.take_line.new.state) taken.0 line.passed;
      flat = c.in_ok-take_line.ensures.flat c.loop-span.invariant.flat;
      tallied = taken.1;
      same = sym open' ∙ sym goes ∙ line.on;
    }

pub finished_objects-requires-clause-is_file : goal.finished_objects-requires-clause-is_file
finished_objects-requires-clause-is_file c =
    let steps = goal.at.finished_objects-requires-clause-is_file c in
    (file_here (here steps.After-take_line) (at_end steps.After-unwrap-version)).is_file

pub finished_objects-requires-clause-lawful : goal.finished_objects-requires-clause-lawful
finished_objects-requires-clause-lawful c =
    let steps = goal.at.finished_objects-requires-clause-lawful c in
    (file_here (here steps.After-take_line) (at_end steps.After-unwrap-version)).lawful

pub returns-in_err-objects-clause-parses : goal.returns-in_err-objects-clause-parses
returns-in_err-objects-clause-parses c =
    let steps = goal.at.returns-in_err-objects-clause-parses c in
    let bytes = c.args.bytes.now in
    let fault = c.in_err-objects.field-0.0 in
    let exit = err_from_is_err_and c.from_residual-in_err-objects.result c.from_residual-in_err-objects.ensures.1 in
    subst (λ (r : Result ObjectsFront Fault).
    Parses bytes (read_file c.args.latest at_version (kept_lines bytes)) (objects_given r))
    (sym (exit.1 ∙ ap (λ (e : Fault). Err e) exit.2))
    (subst (λ (a : AnswerOf FileParts). Parses bytes a (objects_given (Err fault)))
    (end_here (here steps.After-take_line) (at_end steps.After-unwrap-version))
    (finished_err bytes
    (held_file c.unwrap-version.result.0 c.unwrap-version.result.1 c.unwrap-version.result.2.items)
    (kept_from (c.loop-span.count + 1 + 1) (lines (drop c.in-Some.span.next bytes))) fault c.in_err-objects.ensures))

pub returns-in_err-objects-clause-memory : goal.returns-in_err-objects-clause-memory
returns-in_err-objects-clause-memory c =
    let steps = goal.at.returns-in_err-objects-clause-memory c in
    let exit = err_from_is_err_and c.from_residual-in_err-objects.result c.from_residual-in_err-objects.ensures.1 in
    subst (λ (r : Result ObjectsFront Fault). IfErr r (IsReadMemory c.args.latest c.args.bytes.now))
    (sym (exit.1 ∙ ap (λ (e : Fault). Err e) exit.2))
    (end_memory c.args.latest c.args.bytes.now _ _ c.in_err-objects.field-0.0
    (pass_one c.args.latest _ _ _ _ _ (at_end steps.After-unwrap-version) (here steps.After-take_line).passed))

pub returns-then-is_ended-clause-parses : goal.returns-then-is_ended-clause-parses
returns-then-is_ended-clause-parses c =
    let steps = goal.at.returns-then-is_ended-clause-parses c in
    let bytes = c.args.bytes.now in
    let line = slice_range bytes c.in-Some.span.first c.in-Some.span.end in
    let st : State = state_of c.loop-span.state in
    let here' = here steps.After-take_line in
    let end = at_end steps.After-unwrap-version in
    let front : ObjectsFront =
    record { objects = c.in_ok-objects.objects; used = c.in-Some.span.next; lines = c.loop-span.count + 1 } in
    let used = used_to c.args.latest st bytes c.loop-span.count c.loop-span.at
    c.in-Some.span.next line c.in-Some.ensures.found.takes_bytes.1
    (omega (arith, c.loop-span.invariant.counted, c.in-Some.ensures.found.takes_bytes.0))
    c.loop-span.invariant.behind c.in-Some.ensures.found.rest (end_line_is c.args.latest st (words line) _ end)
    here'.passed in
    subst (λ (a : AnswerOf FileParts). Parses bytes a (objects_given (Ok front))) (end_here here' end)
    (finished_ok bytes front _ _ c.in_ok-objects.ensures used refl)
