-- What `clap` finds in words, and for which commands each argument has a value.
use Rattle.std.specs.Prelude.{◌≡◌, ◌≢◌, ◌<◌, ◌^◌, ℕ, pos, ◌&&◌, ◌||◌, not, is_some, codes, map, Bool, true, false, List, [], ◌∷◌, Option, None, Some}
use Rattle.std.specs.List.{All, list_all, list_any}
use Rattle.std.specs.Str.{bytes_eq}
use Rattle.clap.specs.Words.{Accepts, App, Rule, Text, fault_of, found_of, is_simple_and_free, matches_of, one_text, read_as, reading_of, rows_of}
use Rattle.clap.specs.Walk.{is_empty}
use Rattle.clap.specs.declared.builder.action.ArgAction.{ArgAction}
use Rattle.clap.specs.declared.builder.action.ArgAction.TheVariants.{Set}
use Rattle.clap.specs.declared.builder.value_parser.ValueParser.{ValueParser}
use Rattle.clap.specs.declared.builder.value_parser.ValueParser.TheVariants.{Signed}
use Rattle.clap.specs.declared.parser.matches.ArgMatches.{ArgMatches}
use Rattle.clap.specs.declared.parser.matches.Found.{Found}
use Rattle.fku_types.specs.declared.limits.TheConstants.{MAX_WORKERS}

-- whether no two texts are the same
abbrev pub are_distinct : List Text → Bool
are_distinct [] = true
are_distinct (id ∷ ids) = not (list_any (λ other. bytes_eq id other) ids) && are_distinct ids

-- whether the action keeps the values of one use, which may not be repeated
abbrev pub is_set : Option ArgAction → Bool
is_set (Some Set) = true
is_set _ = false

-- whether the argument takes one value, is required or has a default, and has an id that `clap` gives to none of its
-- own
abbrev pub is_sure : Rule → Bool
is_sure r = (r.required || not (is_empty r.defaults)) && (is_set r.action && (not (is_some r.range)
    && (not (is_empty r.id) && (not (bytes_eq r.id (codes "help")) && not (bytes_eq r.id (codes "version"))))))

-- whether the command is simple, and each argument of it has a value if the words are taken
abbrev pub is_sure_app : App → Bool
is_sure_app app = is_simple_and_free app
    && (list_all (λ r. r.is_free) app.top.rules && (not app.top.subcommand_negates_reqs
    && (list_all is_sure app.top.rules && are_distinct (map (λ r. r.id) app.top.rules))))

-- the id has a value that passed the parser
abbrev pub HasValue : ValueParser → Text → Found → Type 0
HasValue parser id f = (t : Text) × (one_text f id ≡ Some (read_as (reading_of parser) t)) × Accepts false parser t

-- the id has a value that is a natural number in a range of `u32`
abbrev pub HasNatural : ℕ → ℕ → Text → Found → Type 0
HasNatural least most id f = (most < 2 ^ 32) × HasValue (Signed (pos least) (pos most)) id f

-- the number of workers exists
abbrev pub HasWorkers : Found → Type 0
HasWorkers f = HasNatural 1 MAX_WORKERS (codes "workers") f

-- each argument has a value that passed its parser
abbrev pub HasValues : List Rule → Found → Type 0
HasValues rules f = All (λ r. (parser : ValueParser) → r.parser ≡ Some parser → r.ignore_case ≡ false
    → HasValue parser r.id f) rules

-- `clap` names no kind of refusal, and gives its matches with a value for each argument; or it names one
abbrev pub IsTaken : App → List Text → Option ArgMatches → Type 0
IsTaken app words None = fault_of app words ≢ []
IsTaken app words (Some m) =
    (fault_of app words ≡ []) × (rows_of (found_of m) ≡ matches_of app words) × HasValues app.top.rules (found_of m)
