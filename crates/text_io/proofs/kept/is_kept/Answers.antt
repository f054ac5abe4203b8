use Rattle.std.proofs.Common.{◌≡◌, not, Some, None, ap, sym}
use Rattle.std.specs.Prelude.{position}
use Rattle.text_io.specs.Text.{is_kept, is_blank}
use Rattle.text_io.proofs.TextLemmas.{no_words, kept_by_first}
use Rattle.text_io.proofs.kept.is_kept.Goals as goal

pub returns-in-None : goal.returns-in-None
returns-in-None c =
    let e : position (λ b. not (is_blank b)) c.args.line.now ≡ None = cc in
    sym (ap is_kept (no_words c.args.line.now e))

pub returns-in-Some : goal.returns-in-Some
returns-in-Some c =
    let e : position (λ b. not (is_blank b)) c.args.line.now ≡ Some c.in-Some.first = cc in
    sym (kept_by_first c.args.line.now c.in-Some.first e)
