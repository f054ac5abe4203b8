use Rattle.std.proofs.Common.{rules, subst, sym}
use Rattle.cert_checker.specs.CertTexts.{IsLawfulCertificate}
use Rattle.pair_commands.proofs.CertLemmas.{lawful_certificate}
use Rattle.pair_commands.proofs.certifying.certificate.Goals as goal

pub returns-clause-parts : goal.returns-clause-parts
returns-clause-parts c = search rules

pub returns-clause-lawful : goal.returns-clause-lawful
returns-clause-lawful c =
    let p = c.args.pair.now in
    let values = c.in_ok-pi.pi.items in
    let lawful = lawful_certificate c.args.number p c.args.solved values c.requires.some c.requires.few
    c.low.ensures.strip c.in_ok-pi.ensures.certifies in
    subst IsLawfulCertificate (sym (returns-clause-parts c)) lawful
