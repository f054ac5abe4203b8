-- What `clap` takes after the name of a command, and the task that it means.
use Rattle.std.specs.Prelude.{ℕ, ℤ, pos, List, [], ◌∷◌, None, Some, true, codes, unwrap_or, neg_ℤ}
use Rattle.std.specs.Str.Parse.{digits_value, signed_digits_value, without_leading_plus}
use Rattle.clap.specs.Words.{App, Row, Rule, Text, new_app, new_rule, one_of, with_rule}
use Rattle.clap.specs.declared.builder.action.ArgAction.TheVariants.{Set}
use Rattle.clap.specs.declared.builder.value_parser.ValueParser.TheVariants.{Signed}
use Rattle.fku_types.specs.declared.limits.TheConstants.{MAX_COORDINATE, MAX_DEMO_SECTIONS, MAX_DEMO_VERTICES, MAX_PAIRS, MAX_SEED, MAX_WORKERS}
use Rattle.surface_cli.specs.declared.commands.Command.{Command}
use Rattle.surface_cli.specs.declared.commands.Command.TheVariants.{Certify, Demo, Slice}
use Rattle.surface_cli.specs.declared.words.Task.{Task}

-- the option `--workers`, of one value from 1 on, with default 1
abbrev pub workers_rule : Rule
workers_rule = record (new_rule (codes "workers")) {
  long = Some (codes "workers");
  action = Some Set;
  parser = Some (Signed (pos 1) (pos MAX_WORKERS));
  defaults = codes "1" ∷ [];
}

-- the option `--height`, of one value that is a height, which is required
abbrev pub height_rule : Rule
height_rule = record (new_rule (codes "height")) {
  long = Some (codes "height");
  action = Some Set;
  parser = Some (Signed (neg_ℤ (pos MAX_COORDINATE)) (pos MAX_COORDINATE));
  required = true;
}

-- the option `--pair`, of one value from 1 on, with default 1
abbrev pub pair_rule : Rule
pair_rule = record (new_rule (codes "pair")) {
  long = Some (codes "pair");
  action = Some Set;
  parser = Some (Signed (pos 1) (pos MAX_PAIRS));
  defaults = codes "1" ∷ [];
}

-- a positional of one value in a range, which is required
abbrev pub positional_rule : Text → ℕ → ℕ → Rule
positional_rule name least most = record (new_rule name) {
  action = Some Set;
  parser = Some (Signed (pos least) (pos most));
  required = true;
}

-- the seed
abbrev pub seed_rule : Rule
seed_rule = positional_rule (codes "seed") 0 MAX_SEED

-- how many sections
abbrev pub sections_rule : Rule
sections_rule = positional_rule (codes "sections") 1 MAX_DEMO_SECTIONS

-- how many vertices in a section
abbrev pub vertices_rule : Rule
vertices_rule = positional_rule (codes "vertices") 3 MAX_DEMO_VERTICES

-- a command whose only option is `--workers`, as `clap` sees it
abbrev pub plain_app : Text → App
plain_app name = with_rule (new_app name) workers_rule

-- the commands with other arguments
abbrev pub certify_app : App
certify_app = with_rule (new_app (codes "certify")) pair_rule

abbrev pub slice_app : App
slice_app = with_rule (with_rule (new_app (codes "slice")) height_rule) workers_rule

abbrev pub demo_app : App
demo_app = with_rule (with_rule (with_rule (with_rule (new_app (codes "demo")) seed_rule) sections_rule) vertices_rule)
    workers_rule

-- the number that the matches have for an id, without a sign and with one; 0 if they have none
abbrev pub natural_of : Text → List Row → ℕ
natural_of id rows = digits_value 10 (without_leading_plus (unwrap_or (one_of id rows) []))

abbrev pub integer_of : Text → List Row → ℤ
integer_of id rows = signed_digits_value 10 (unwrap_or (one_of id rows) [])

-- a command that has `--workers`, with the number of its matches
abbrev pub with_workers : Command → List Row → Task
with_workers command rows = record { command = command; workers = Some (natural_of (codes "workers") rows) }

-- the commands with numbers of their own
abbrev pub slice_of : List Row → Task
slice_of rows = with_workers (Slice (integer_of (codes "height") rows)) rows

abbrev pub demo_of : List Row → Task
demo_of rows = with_workers (Demo (natural_of (codes "seed") rows) (natural_of (codes "sections") rows)
    (natural_of (codes "vertices") rows)) rows

-- a command without `--workers`
abbrev pub without_workers : Command → List Row → Task
without_workers command rows = record { command = command; workers = None }

abbrev pub certify_of : List Row → Task
certify_of rows = without_workers (Certify (natural_of (codes "pair") rows)) rows

-- a command: how `clap` sees it, and the task of its matches
pub record Entry : Type 0 where
  pub app : App
  pub task : List Row → Task

-- a command whose only option is `--workers`
abbrev pub plain : Text → Command → Entry
plain name command = record { app = plain_app name; task = with_workers command }

-- a command without arguments
abbrev pub bare : Text → Command → Entry
bare name command = record { app = new_app name; task = without_workers command }
