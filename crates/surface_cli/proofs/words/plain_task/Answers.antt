use Rattle.std.proofs.Common.{◌∙◌, ap, refl, arith, map, string_bytes, Some}
use Rattle.clap.specs.Words.{app_of}
use Rattle.surface_cli.specs.Arguments.{plain_app, with_workers, workers_rule}
use Rattle.surface_cli.proofs.TakenLemmas.{taken_none, taken_some, taken_values}
use Rattle.surface_cli.proofs.words.plain_task.Goals as goal

pub returns-in_default-clause-meaning : goal.returns-in_default-clause-meaning
returns-in_default-clause-meaning c =
    taken_none (app_of c.in_ok-plain_command.field-0) (plain_app c.args.name.now) (with_workers c.args.command)
    (map string_bytes c.args.words.now) c.in_ok-matches.field-0
    c.in_ok-plain_command.ensures c.in_ok-matches.ensures c.in_default.is

pub with_workers-requires-clause-workers : goal.with_workers-requires-clause-workers
with_workers-requires-clause-workers c =
    let values = taken_values (app_of c.in_ok-plain_command.field-0) (plain_app c.args.name.now)
    (map string_bytes c.args.words.now) c.in_ok-matches.field-0 c.in-Some.matches
    c.in_ok-plain_command.ensures c.in_ok-matches.ensures c.in-Some.is in
    (omega arith, values 0 workers_rule (omega arith) _ refl refl)

pub returns-clause-meaning : goal.returns-clause-meaning
returns-clause-meaning c =
    ap Some c.with_workers.ensures.task
    ∙ taken_some (app_of c.in_ok-plain_command.field-0) (plain_app c.args.name.now) (with_workers c.args.command)
    (map string_bytes c.args.words.now) c.in_ok-matches.field-0 c.in-Some.matches
    c.in_ok-plain_command.ensures c.in_ok-matches.ensures c.in-Some.is
