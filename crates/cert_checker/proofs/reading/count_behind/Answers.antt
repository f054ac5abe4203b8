use Rattle.text_io.specs.Text.{words}
use Rattle.cert_checker.proofs.HeadLines.{count_named}
use Rattle.cert_checker.proofs.reading.count_behind.Goals as goal

pub returns : goal.returns
returns c =
    count_named (words c.args.line.now) c.args.keyword.now (words c.in-Some.rest.now) c.args.least c.args.most
    c.split_count.result c.in-Some.ensures c.split_count.ensures
