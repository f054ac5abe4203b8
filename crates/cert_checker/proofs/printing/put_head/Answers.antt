use Rattle.cert_checker.specs.CertTexts.{certificate_parts}
use Rattle.std.proofs.lemmas.Result.{on_ok_weaker as on_ok}
use Rattle.cert_checker.proofs.PrintedCerts.{head_text}
use Rattle.cert_checker.proofs.printing.put_head.Goals as goal

pub returns : goal.returns
returns c = on_ok c.put_start.result
    (λ e. head_text (certificate_parts c.args.text.now).head c.args.out.now.items c.put_sizes.new.out.items
    c.put_start.new.out.items c.in_ok-put_sizes.ensures e) c.put_start.ensures
