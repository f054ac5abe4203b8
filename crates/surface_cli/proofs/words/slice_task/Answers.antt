use Rattle.std.proofs.Common.{◌≡◌, ◌∙◌, ap, refl, arith, map, string_bytes, Some, ℤ, rules, to_z, of_z, to_z-of_z, w32, FitsSigned}
use Rattle.clap.specs.Words.{app_of, found_of, rows_of}
use Rattle.surface_cli.specs.Arguments.{slice_app, slice_of, height_rule, with_workers, workers_rule}
use Rattle.surface_cli.specs.declared.commands.Command.TheVariants.{Slice}
use Rattle.surface_cli.proofs.TakenLemmas.{taken_none, taken_some, taken_values}
use Rattle.surface_cli.proofs.words.slice_task.Goals as goal

pub returns-in_default-clause-meaning : goal.returns-in_default-clause-meaning
returns-in_default-clause-meaning c =
    taken_none (app_of c.in_ok-slice_command.field-0) slice_app slice_of (map string_bytes c.args.words.now)
    c.in_ok-matches.field-0
    c.in_ok-slice_command.ensures c.in_ok-matches.ensures c.in_default.is

pub height_in-height-requires : goal.height_in-height-requires
height_in-height-requires c =
    let values = taken_values (app_of c.in_ok-slice_command.field-0) slice_app (map string_bytes c.args.words.now)
    c.in_ok-matches.field-0 c.in-Some.matches
    c.in_ok-slice_command.ensures c.in_ok-matches.ensures c.in-Some.is in
    values 0 height_rule (omega arith) _ refl refl

pub with_workers-requires-clause-workers : goal.with_workers-requires-clause-workers
with_workers-requires-clause-workers c =
    let values = taken_values (app_of c.in_ok-slice_command.field-0) slice_app (map string_bytes c.args.words.now)
    c.in_ok-matches.field-0 c.in-Some.matches
    c.in_ok-slice_command.ensures c.in_ok-matches.ensures c.in-Some.is in
    (omega arith, values 1 workers_rule (omega arith) _ refl refl)

pub returns-clause-meaning : goal.returns-clause-meaning
returns-clause-meaning c =
    let fits : FitsSigned w32 c.height_in-height.result = search rules in
    let passed : to_z w32 (of_z w32 c.height_in-height.result) ≡ c.height_in-height.result = to_z-of_z fits in
    let rows = rows_of (found_of c.in-Some.matches) in
    ap Some (c.with_workers.ensures.task
    ∙ ap (λ (z : ℤ). with_workers (Slice z) rows) (passed ∙ c.height_in-height.ensures.value))
    ∙ taken_some (app_of c.in_ok-slice_command.field-0) slice_app slice_of (map string_bytes c.args.words.now)
    c.in_ok-matches.field-0 c.in-Some.matches
    c.in_ok-slice_command.ensures c.in_ok-matches.ensures c.in-Some.is
