use Rattle.std.proofs.Common.{map, string_bytes}
use Rattle.clap.specs.Words.{app_of, new_app}
use Rattle.surface_cli.specs.Arguments.{without_workers}
use Rattle.surface_cli.proofs.TakenLemmas.{taken_none, taken_some}
use Rattle.surface_cli.proofs.words.bare_task.Goals as goal

pub returns-in_default-clause-meaning : goal.returns-in_default-clause-meaning
returns-in_default-clause-meaning c =
    taken_none (app_of c.new.result) (new_app c.args.name.now) (without_workers c.args.command)
    (map string_bytes c.args.words.now) c.in_ok-_matches.field-0
    c.new.ensures.app c.in_ok-_matches.ensures c.in_default.is

pub returns-clause-meaning : goal.returns-clause-meaning
returns-clause-meaning c =
    taken_some (app_of c.new.result) (new_app c.args.name.now) (without_workers c.args.command)
    (map string_bytes c.args.words.now) c.in_ok-_matches.field-0 c.in-Some._matches
    c.new.ensures.app c.in_ok-_matches.ensures c.in-Some.is
