use Rattle.std.proofs.Common.{codes, ◌∙◌, ap, sym, w32, pos, rules, FitsSigned}
use Rattle.std.proofs.lemmas.Int.{to_z-of_z}
use Rattle.std.specs.Prelude.{unwrap_or}
use Rattle.std.specs.Str.Parse.{ExplainsSignedError, HasSignedDigitsIfOk, ParsesSigned}
use Rattle.clap.specs.Words.{found_of}
use Rattle.surface_cli.proofs.NumberLemmas.{height_read}
use Rattle.surface_cli.proofs.numbers.height_in.Goals as goal

pub returns-clause-value : goal.returns-clause-value
returns-clause-value c =
    let fits : FitsSigned w32 c.unwrap.result = search rules in
    let z = height_read _ (λ bs r. ParsesSigned w32 10 bs r × ExplainsSignedError 10 bs r × HasSignedDigitsIfOk bs r)
    (found_of c.args.matches.now) (codes "height")
    c.get_one.result c.requires c.get_one.ensures.value (λ u x g. g.0) in
    to_z-of_z w32 c.unwrap.result fits ∙ (ap (λ o. unwrap_or o (pos 0)) (sym c.unwrap.ensures ∙ z.1) ∙ z.2)
