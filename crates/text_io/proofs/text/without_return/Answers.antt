use Rattle.std.proofs.Common.{◌∙◌, ap}
use Rattle.text_io.proofs.TextLemmas.{return_stripped}
use Rattle.text_io.proofs.text.without_return.Goals as goal

pub returns : goal.returns
returns c = ap (λ b. b.now) c.unwrap_or.ensures ∙ return_stripped c.args.line _ c.strip_suffix.ensures.cases
