use Rattle.std.proofs.Common.{◌≡◌, ◌⊎◌, inl, inr, ◌≤◌, List, ℕ, Some, None, map, refl, sym, subst, ◌∙◌}
use Rattle.std.specs.Prelude.{◌≢◌, string_bytes}
use Rattle.surface_cli.specs.Words.{meaning}
use Rattle.command_replies.specs.declared.status.Status.{Status}
use Rattle.command_replies.specs.declared.status.Status.TheVariants.{Done, Refused, BadWords, ReadFault, WriteFault, NoMemory}
use Rattle.surface_cli.specs.Run.{IsToDensify, outside}
use Rattle.surface_cli.proofs.RunLemmas.{AnswersGiven, answers_out, ends_reading, has_meaning, is_run, runs_bad, runs_reply, work_bad, work_reply}
use Rattle.surface_cli.proofs.HeadlineLemmas.{check_headline, crossings_headline, headline, measure_headline, ring_headline, tilings_headline}
use Rattle.surface_cli.proofs.top.run_with.Goals as goal

-- a status that is that of bad words, unless the write failed
bad_or_unwritten : (s : Status) (X : Type 0) → (s ≢ WriteFault → (s ≡ BadWords) × X) → (s ≡ BadWords) ⊎ (s ≡ WriteFault)
bad_or_unwritten Done X h = inl ((h (λ e. absurd (cc e))).0)
bad_or_unwritten Refused X h = inl ((h (λ e. absurd (cc e))).0)
bad_or_unwritten BadWords X h = inl ((h (λ e. absurd (cc e))).0)
bad_or_unwritten ReadFault X h = inl ((h (λ e. absurd (cc e))).0)
bad_or_unwritten NoMemory X h = inl ((h (λ e. absurd (cc e))).0)
bad_or_unwritten WriteFault X h = inr refl

pub returns-in-Ok-None-clause-run : goal.returns-in-Ok-None-clause-run
returns-in-Ok-None-clause-run g c =
    let words = map string_bytes c.args.words.now in
    let none : meaning words ≡ None = sym c.in-Ok-None.ensures.meaning ∙ c.in-Ok-None.field-0-is in
    is_run words _ c.tell_usage.result
    (runs_bad words _ c.tell_usage.result none refl
    (record { whole = c.tell_usage.ensures.whole; front = λ e n. c.tell_usage.ensures.front e }))

pub returns-in-Ok-None-clause-work : goal.returns-in-Ok-None-clause-work
returns-in-Ok-None-clause-work g c =
    let words = map string_bytes c.args.words.now in
    let none : meaning words ≡ None = sym c.in-Ok-None.ensures.meaning ∙ c.in-Ok-None.field-0-is in
    let o = outside g.S.Source.left g.S.Source.faults c.args.input.now c.args.input.now g.K.Sink.held g.K.Sink.faults
    c.args.output.now c.tell_usage.new.output in
    work_bad words o _ c.tell_usage.result none
    (record { whole = c.tell_usage.ensures.whole; front = λ e n. c.tell_usage.ensures.front e })

pub returns-in-Ok-clause-run : goal.returns-in-Ok-clause-run
returns-in-Ok-clause-run g c =
    let words = map string_bytes c.args.words.now in
    let task = c.in-Ok-Some.task in
    let means : meaning words ≡ Some task = sym c.in-Ok-Some.ensures.meaning ∙ c.in-Ok-Some.field-0-is in
    let o = outside g.S.Source.left g.S.Source.faults c.args.input.now c.answer_of.new.input g.K.Sink.held
    g.K.Sink.faults c.args.output.now c.write.new.output in
    let before = g.P.PairSolver.solved_pairs c.set_workers.new.solver in
    let after = g.P.PairSolver.solved_pairs c.answer_of.new.solver in
    let status = c.in-Ok.answer.status in
    let text = c.bytes.result.now in
    let out = subst (λ (t : List ℕ). AnswersGiven task.command o.left before after status t) (sym c.bytes.ensures)
    c.in-Ok.ensures.answer in
    is_run words o c.write.result
    (runs_reply words o before after status c.write.result text c.in-Ok.ensures.reply (has_meaning words task means)
    (ends_reading words o task means c.in-Ok.ensures.end)
    (answers_out words o.left before after task status text means out)
    (record { whole = c.write.ensures.whole; front = c.write.ensures.front }))

pub returns-in-Ok-clause-work : goal.returns-in-Ok-clause-work
returns-in-Ok-clause-work g c =
    let words = map string_bytes c.args.words.now in
    let task = c.in-Ok-Some.task in
    let means : meaning words ≡ Some task = sym c.in-Ok-Some.ensures.meaning ∙ c.in-Ok-Some.field-0-is in
    let o = outside g.S.Source.left g.S.Source.faults c.args.input.now c.answer_of.new.input g.K.Sink.held
    g.K.Sink.faults c.args.output.now c.write.new.output in
    let before = g.P.PairSolver.solved_pairs c.args.solver.now in
    let middle = g.P.PairSolver.solved_pairs c.set_workers.new.solver in
    let after = g.P.PairSolver.solved_pairs c.answer_of.new.solver in
    let same : middle ≡ before = c.set_workers.ensures.same_count in
    let status = c.in-Ok.answer.status in
    let text = c.bytes.result.now in
    let told = subst (λ (t : List ℕ). AnswersGiven task.command o.left middle after status t) (sym c.bytes.ensures)
    c.in-Ok.ensures.answer in
    let out = subst (λ (n : ℕ). AnswersGiven task.command o.left n after status text) same told in
    work_reply words o task (record {
      solved_pairs = before;
      worker_count =
          g.P.PairSolver.worker_count c.args.solver.now;
    })
    (record { solved_pairs = after; worker_count = g.P.PairSolver.worker_count c.answer_of.new.solver }) status
    c.write.result text means c.in-Ok.ensures.reply
    (λ other e. c.in-Ok.ensures.refusal (λ d. other (subst IsToDensify (sym means) d)) e ∙ same)
    (subst (λ (n : ℕ). n ≤ after) same c.in-Ok.ensures.not_less)
    (answers_out words o.left before after task status text means out)
    (c.in-Ok.ensures.same_workers ∙ c.set_workers.ensures.set)
    (record { whole = c.write.ensures.whole; front = c.write.ensures.front })

pub returns-in-Ok-clause-headline : goal.returns-in-Ok-clause-headline
returns-in-Ok-clause-headline g c done asks = headline _ _ c.write.result (returns-in-Ok-clause-run g c).runs done asks

pub returns-in-Ok-clause-ring_headline : goal.returns-in-Ok-clause-ring_headline
returns-in-Ok-clause-ring_headline g c done asks =
    ring_headline _ _ c.write.result (returns-in-Ok-clause-run g c).runs done asks

pub returns-in-Ok-clause-measure_headline : goal.returns-in-Ok-clause-measure_headline
returns-in-Ok-clause-measure_headline g c done asks =
    measure_headline _ _ c.write.result (returns-in-Ok-clause-run g c).runs done asks

pub returns-in-Ok-clause-crossings_headline : goal.returns-in-Ok-clause-crossings_headline
returns-in-Ok-clause-crossings_headline g c done asks =
    crossings_headline _ _ c.write.result (returns-in-Ok-clause-run g c).runs done asks

pub returns-in-Ok-clause-tilings_headline : goal.returns-in-Ok-clause-tilings_headline
returns-in-Ok-clause-tilings_headline g c done asks =
    tilings_headline _ _ c.write.result (returns-in-Ok-clause-run g c).runs done asks

pub returns-in-Ok-clause-check_headline : goal.returns-in-Ok-clause-check_headline
returns-in-Ok-clause-check_headline g c done asks =
    check_headline _ _ c.write.result (returns-in-Ok-clause-run g c).runs done asks

pub returns-in-Ok-None-clause-unnamed : goal.returns-in-Ok-None-clause-unnamed
returns-in-Ok-None-clause-unnamed g c unnamed = bad_or_unwritten c.tell_usage.result _ c.tell_usage.ensures.whole
