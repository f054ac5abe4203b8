-- From what `clap` makes of words to their meaning.
use Rattle.std.proofs.Common.{◌≡◌, ◌≢◌, ◌∙◌, ap, sym, refl, List, [], ◌∷◌, Option, Some, None}
use Rattle.clap.specs.Words.{App, Kinds, Row, Text, fault_of, found_of, matches_of, rows_of}
use Rattle.clap.specs.declared.parser.matches.ArgMatches.{ArgMatches}
use Rattle.surface_cli.specs.declared.words.Task.{Task}
use Rattle.surface_cli.specs.Words.{unless_refused, where_taken}
use Rattle.surface_cli.specs.Taking.{HasValues, IsTaken}

refused : (kinds : Kinds) (task : Task) → kinds ≢ [] → None ≡ unless_refused kinds task
refused [] task some = absurd (some refl)
refused (kind ∷ more) task some = refl

-- if `clap` refuses the words, they are a usage error
pub taken_none : (app wanted : App) (value : List Row → Task) (words : List Text) (o : Option ArgMatches) → app ≡ wanted
    → IsTaken app words o → o ≡ None → None ≡ where_taken wanted value words
unfolding where_taken
taken_none app wanted value words o is taken none =
    let here : IsTaken wanted words None = rw (is, none) at taken in
    refused (fault_of wanted words) (value (matches_of wanted words)) here

-- and if it takes them, they mean the command of its matches
pub taken_some : (app wanted : App) (value : List Row → Task) (words : List Text) (o : Option ArgMatches)
    (m : ArgMatches) → app ≡ wanted
    → IsTaken app words o → o ≡ Some m → Some (value (rows_of (found_of m))) ≡ where_taken wanted value words
unfolding where_taken
taken_some app wanted value words o m is taken some =
    let here : IsTaken wanted words (Some m) = rw (is, some) at taken in
    ap (λ rows. Some (value rows)) here.1
    ∙ ap (λ kinds. unless_refused kinds (value (matches_of wanted words))) (sym here.0)

-- there each argument has a value
pub taken_values : (app wanted : App) (words : List Text) (o : Option ArgMatches) (m : ArgMatches) → app ≡ wanted
    → IsTaken app words o → o ≡ Some m → HasValues wanted.top.rules (found_of m)
taken_values app wanted words o m is taken some =
    let here : IsTaken wanted words (Some m) = rw (is, some) at taken in
    here.2
