use Rattle.std.proofs.Common.{codes, ◌∙◌, ap, refl, arith, map, string_bytes, Some, ℕ}
use Rattle.clap.specs.Words.{app_of, found_of, rows_of}
use Rattle.surface_cli.specs.Arguments.{demo_app, demo_of, natural_of, sections_rule, seed_rule, vertices_rule, with_workers, workers_rule}
use Rattle.surface_cli.specs.declared.commands.Command.TheVariants.{Demo}
use Rattle.surface_cli.proofs.TakenLemmas.{taken_none, taken_some, taken_values}
use Rattle.surface_cli.proofs.words.demo_task.Goals as goal

pub returns-in_default-clause-meaning : goal.returns-in_default-clause-meaning
returns-in_default-clause-meaning c =
    taken_none (app_of c.in_ok-demo_command.field-0) demo_app demo_of (map string_bytes c.args.words.now)
    c.in_ok-matches.field-0
    c.in_ok-demo_command.ensures c.in_ok-matches.ensures c.in_default.is

pub natural_in-seed-requires : goal.natural_in-seed-requires
natural_in-seed-requires c =
    let values = taken_values (app_of c.in_ok-demo_command.field-0) demo_app (map string_bytes c.args.words.now)
    c.in_ok-matches.field-0 c.in-Some.matches
    c.in_ok-demo_command.ensures c.in_ok-matches.ensures c.in-Some.is in
    (0, 2147483647, (omega arith, values 0 seed_rule (omega arith) _ refl refl))

pub natural_in-sections-requires : goal.natural_in-sections-requires
natural_in-sections-requires c =
    let values = taken_values (app_of c.in_ok-demo_command.field-0) demo_app (map string_bytes c.args.words.now)
    c.in_ok-matches.field-0 c.in-Some.matches
    c.in_ok-demo_command.ensures c.in_ok-matches.ensures c.in-Some.is in
    (1, 64, (omega arith, values 1 sections_rule (omega arith) _ refl refl))

pub natural_in-vertices-requires : goal.natural_in-vertices-requires
natural_in-vertices-requires c =
    let values = taken_values (app_of c.in_ok-demo_command.field-0) demo_app (map string_bytes c.args.words.now)
    c.in_ok-matches.field-0 c.in-Some.matches
    c.in_ok-demo_command.ensures c.in_ok-matches.ensures c.in-Some.is in
    (3, 1000, (omega arith, values 2 vertices_rule (omega arith) _ refl refl))

pub with_workers-requires : goal.with_workers-requires
with_workers-requires c =
    let values = taken_values (app_of c.in_ok-demo_command.field-0) demo_app (map string_bytes c.args.words.now)
    c.in_ok-matches.field-0 c.in-Some.matches
    c.in_ok-demo_command.ensures c.in_ok-matches.ensures c.in-Some.is in
    record {
      workers = (omega arith, values 3 workers_rule (omega arith) _ refl refl);
      range = (
        (c.natural_in-seed.ensures.in_range 0 2147483647 (omega arith, values 0 seed_rule (omega arith) _ refl refl)).1,
        c.natural_in-sections.ensures.in_range 1 64 (omega arith, values 1 sections_rule (omega arith) _ refl refl),
        c.natural_in-vertices.ensures.in_range 3 1000 (omega arith, values 2 vertices_rule (omega arith) _ refl refl),
      );
    }

pub returns-clause-meaning : goal.returns-clause-meaning
returns-clause-meaning c =
    let rows = rows_of (found_of c.in-Some.matches) in
    let count = natural_of (codes "sections") rows in
    ap Some
    (c.with_workers.ensures.task
    ∙ ap (λ (n : ℕ). with_workers (Demo n c.natural_in-sections.result c.natural_in-vertices.result) rows)
    c.natural_in-seed.ensures.value
    ∙ ap (λ (n : ℕ). with_workers (Demo (natural_of (codes "seed") rows) n c.natural_in-vertices.result) rows)
    c.natural_in-sections.ensures.value
    ∙ ap (λ (n : ℕ). with_workers (Demo (natural_of (codes "seed") rows) count n) rows)
    c.natural_in-vertices.ensures.value)
    ∙ taken_some (app_of c.in_ok-demo_command.field-0) demo_app demo_of (map string_bytes c.args.words.now)
    c.in_ok-matches.field-0 c.in-Some.matches
    c.in_ok-demo_command.ensures c.in_ok-matches.ensures c.in-Some.is
