use Rattle.std.proofs.Common.{drop, arith}
use Rattle.text_io.specs.Text.{is_feed}
use Rattle.text_io.proofs.TextLemmas.{line_found, position_default}
use Rattle.text_io.proofs.text.line_at.Goals as goal

pub returns-clause-found : goal.returns-clause-found
returns-clause-found c =
    line_found c.args.bytes.now c.args.at c.unwrap_or-length.result c.min.result c.without_return-line.result.now
    (omega arith) (let h = position_default is_feed (drop c.args.at c.args.bytes.now) in cc) (cc) (grind arith)
