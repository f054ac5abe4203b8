use Rattle.std.proofs.Common.{◌≡◌, not, Some, None}
use Rattle.std.specs.Prelude.{position}
use Rattle.std.specs.List.{position_or_len}
use Rattle.text_io.specs.Text.{is_blank}
use Rattle.text_io.proofs.TextLemmas.{no_words, word_split, position_default}
use Rattle.text_io.proofs.words.split_word.Goals as goal

pub returns-in_default : goal.returns-in_default
returns-in_default c =
    let e : position (λ b. not (is_blank b)) c.args.line.now ≡ None = cc in
    no_words c.args.line.now e

pub returns : goal.returns
returns c =
    let e : position (λ b. not (is_blank b)) c.args.line.now ≡ Some c.in-Some.skipped = cc in
    let h = position_default is_blank c.split_at.result.1.now in
    let m : c.unwrap_or-length.result ≡ position_or_len is_blank c.split_at.result.1.now = cc in
    word_split c.args.line.now c.split_at.result.1.now c.split_at-2.result.0.now c.split_at-2.result.1.now
    c.in-Some.skipped c.unwrap_or-length.result e c.split_at.ensures.back m c.split_at-2.ensures.front
    c.split_at-2.ensures.back
