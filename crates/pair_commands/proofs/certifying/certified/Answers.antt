use Rattle.pair_commands.proofs.CertLemmas.{tells_cert}
use Rattle.pair_commands.proofs.certifying.certified.Goals as goal

pub returns-clause-text : goal.returns-clause-text
returns-clause-text g c =
    tells_cert c.args.number c.args.pair.now c.in_ok-solved.solved c.in_ok-text.text c.print_cert.result
    c.in_ok-solved.ensures.solved
    c.in_ok-text.ensures.parts c.in_ok-text.ensures.potential c.in_ok-text.ensures.holds c.print_cert.ensures.canonical
    c.print_cert.ensures.law
