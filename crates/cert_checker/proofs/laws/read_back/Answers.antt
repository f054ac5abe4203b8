use Rattle.std.proofs.Common.{◌≡◌, ℕ, List, Result, Ok, Err, sym, subst}
use Rattle.std.specs.Prelude.{IfOk, IfErr}
use Rattle.fku_types.specs.declared.fault.Fault.{Fault}
use Rattle.fku_types.specs.declared.fault.Fault.TheVariants.{NoMemory}
use Rattle.cert_checker.specs.declared.certs.CertText.{CertText}
use Rattle.cert_checker.specs.CertTexts.{CertParts, certificate_parts}
use Rattle.text_io.specs.Formats.{kept_behind}
use Rattle.cert_checker.specs.CertReading.{ReadsAsCertificate, ReadsBackCertificate}
use Rattle.cert_checker.proofs.laws.read_back.Goals as goal

back : (C : CertParts) (r : Result CertText Fault) → ReadsBackCertificate C r → IfOk r (λ t. certificate_parts t ≡ C)
back C (Ok t) g = g
back C (Err f) g = tt

lost : (C : CertParts) (r : Result CertText Fault) → ReadsBackCertificate C r → IfErr r (λ f. f ≡ NoMemory)
lost C (Ok t) g = tt
lost C (Err f) g = g

pub returns-clause-ok : goal.returns-clause-ok
returns-clause-ok c =
    let C = certificate_parts c.args.text.now in
    back C c.parse_cert.result (c.parse_cert.ensures.given C
    (subst (λ (t : List ℕ). ReadsAsCertificate (kept_behind c.args.lines_before t) C) (sym c.deref.ensures.value)
    (c.in_ok-bytes.ensures.law c.args.lines_before)))

pub returns-clause-err : goal.returns-clause-err
returns-clause-err c =
    let C = certificate_parts c.args.text.now in
    lost C c.parse_cert.result (c.parse_cert.ensures.given C
    (subst (λ (t : List ℕ). ReadsAsCertificate (kept_behind c.args.lines_before t) C) (sym c.deref.ensures.value)
    (c.in_ok-bytes.ensures.law c.args.lines_before)))
