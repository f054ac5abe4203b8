use Rattle.std.proofs.lemmas.Result.{on_ok_weaker as on_ok}
use Rattle.cert_checker.proofs.PrintedCerts.{row_put}
use Rattle.cert_checker.proofs.printing.put_row.Goals as goal

pub returns : goal.returns
returns c =
    on_ok c.put-2.result
    (λ e. row_put c.args.row.now c.in-Some.first.now c.in-Some.more.now c.args.out.now.items c.put_long.new.out.items
    c.put_more.new.out.items c.put-2.new.out.items c.in-Some.ensures.cases.0 c.in_ok-put_long.ensures
    c.in_ok-put_more.ensures e)
    c.put-2.ensures
