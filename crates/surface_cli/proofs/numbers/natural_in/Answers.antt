use Rattle.std.proofs.Common.{◌∙◌, ap, sym}
use Rattle.std.specs.Prelude.{unwrap_or}
use Rattle.std.specs.Str.Parse.{ExplainsUnsignedError, HasUnsignedDigitsIfOk, ParsesUnsigned}
use Rattle.clap.specs.Words.{found_of}
use Rattle.surface_cli.proofs.NumberLemmas.{natural_read}
use Rattle.surface_cli.proofs.numbers.natural_in.Goals as goal

pub returns-clause-value : goal.returns-clause-value
returns-clause-value c =
    let n = natural_read _ (λ bs r. ParsesUnsigned 32 10 bs r × ExplainsUnsignedError 10 bs r
    × HasUnsignedDigitsIfOk bs r) (found_of c.args.matches.now) c.args.id.now
    c.requires.0 c.requires.1 c.get_one.result c.requires.2 c.get_one.ensures.value (λ u x g. g.0) in
    ap (λ o. unwrap_or o 0) (sym c.unwrap.ensures ∙ n.1) ∙ n.2
