use Rattle.std.proofs.Common.{ℕ, List, Result, Ok, Err}
use Rattle.std.specs.Prelude.{IfOk, IfErr}
use Rattle.text_io.specs.WordLists.{Kept}
use Rattle.fku_types.specs.declared.fault.Fault.{Fault}
use Rattle.fku_types.specs.declared.fault.Fault.TheVariants.{CertForm}
use Rattle.cert_checker.specs.declared.certs.CertText.{CertText}
use Rattle.cert_checker.specs.CertTexts.{CertParts, certificate_parts}
use Rattle.text_io.specs.Formats.{kept_behind, last_line}
use Rattle.cert_checker.specs.CertReading.{ReadsAsCertificate, HasCertificateFault, IsCertificateFault, ReadsBackCertificate, TellsCertificateFault}
use Rattle.text_io.proofs.FormatLaws.{one_line_fault, no_line_fault}
use Rattle.cert_checker.proofs.TextLaws.{reads_one}
use Rattle.cert_checker.proofs.parsing.parse_cert.Goals as goal

given : (kept : List Kept) (last : ℕ) (C : CertParts) (r : Result CertText Fault)
    → IfOk r (λ t. ReadsAsCertificate kept (certificate_parts t)) → IfErr r (IsCertificateFault kept last)
    → ReadsAsCertificate kept C → ReadsBackCertificate C r
given kept last C (Ok t) f g h = reads_one kept (certificate_parts t) C f h
given kept last C (Err (CertForm n)) f g h = absurd (no_line_fault kept last n C h g)
given kept last C (Err fault) f g h = g

told : (kept : List Kept) (last n : ℕ) (r : Result CertText Fault)
    → IfOk r (λ t. ReadsAsCertificate kept (certificate_parts t)) → IfErr r (IsCertificateFault kept last)
    → HasCertificateFault kept last n → TellsCertificateFault n r
told kept last n (Ok t) f g h = no_line_fault kept last n (certificate_parts t) f h
told kept last n (Err (CertForm line)) f g h = one_line_fault kept last line n g h
told kept last n (Err fault) f g h = g

pub returns-clause-given : goal.returns-clause-given
returns-clause-given c C h =
    given (kept_behind c.args.lines_before c.args.bytes.now) (last_line c.args.lines_before c.args.bytes.now) C
    c.parse_text.result c.parse_text.ensures.found c.parse_text.ensures.fault h

pub returns-clause-told : goal.returns-clause-told
returns-clause-told c n h =
    told (kept_behind c.args.lines_before c.args.bytes.now) (last_line c.args.lines_before c.args.bytes.now) n
    c.parse_text.result c.parse_text.ensures.found c.parse_text.ensures.fault h
