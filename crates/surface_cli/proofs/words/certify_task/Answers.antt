use Rattle.std.proofs.Common.{◌∙◌, ap, refl, arith, map, string_bytes, Some, ℕ}
use Rattle.clap.specs.Words.{app_of, found_of, rows_of}
use Rattle.fku_types.specs.declared.limits.TheConstants.{MAX_PAIRS}
use Rattle.surface_cli.specs.Arguments.{certify_app, certify_of, pair_rule, without_workers}
use Rattle.surface_cli.specs.declared.commands.Command.TheVariants.{Certify}
use Rattle.surface_cli.proofs.TakenLemmas.{taken_none, taken_some, taken_values}
use Rattle.surface_cli.proofs.words.certify_task.Goals as goal

pub returns-in_default-clause-meaning : goal.returns-in_default-clause-meaning
returns-in_default-clause-meaning c =
    taken_none (app_of c.in_ok-certify_command.field-0) certify_app certify_of (map string_bytes c.args.words.now)
    c.in_ok-matches.field-0
    c.in_ok-certify_command.ensures c.in_ok-matches.ensures c.in_default.is

pub natural_in-pair-requires : goal.natural_in-pair-requires
natural_in-pair-requires c =
    let values = taken_values (app_of c.in_ok-certify_command.field-0) certify_app (map string_bytes c.args.words.now)
    c.in_ok-matches.field-0 c.in-Some.matches
    c.in_ok-certify_command.ensures c.in_ok-matches.ensures c.in-Some.is in
    (1, MAX_PAIRS, (omega arith, values 0 pair_rule (omega arith) _ refl refl))

pub returns-clause-in_range : goal.returns-clause-in_range
returns-clause-in_range c =
    let values = taken_values (app_of c.in_ok-certify_command.field-0) certify_app (map string_bytes c.args.words.now)
    c.in_ok-matches.field-0 c.in-Some.matches
    c.in_ok-certify_command.ensures c.in_ok-matches.ensures c.in-Some.is in
    record {
      command = c.natural_in-pair.ensures.in_range 1 MAX_PAIRS
          (omega arith, values 0 pair_rule (omega arith) _ refl refl);
      workers = tt;
    }

pub returns-clause-meaning : goal.returns-clause-meaning
returns-clause-meaning c =
    let rows = rows_of (found_of c.in-Some.matches) in
    ap (λ (n : ℕ). Some (without_workers (Certify n) rows)) c.natural_in-pair.ensures.value
    ∙ taken_some (app_of c.in_ok-certify_command.field-0) certify_app certify_of (map string_bytes c.args.words.now)
    c.in_ok-matches.field-0 c.in-Some.matches
    c.in_ok-certify_command.ensures c.in_ok-matches.ensures c.in-Some.is
