use Rattle.std.proofs.Common.{◌≤◌, ◌+◌, ◌++◌, List, ℕ, length, ap, sym, subst, ◌∙◌}
use Rattle.std.specs.List.{AllZip}
use Rattle.fku_types.specs.declared.limits.TheConstants.{MAX_CHECK_BYTES}
use Rattle.text_io.specs.Text.{lines}
use Rattle.text_io.specs.WordLists.{Line, Matches}
use Rattle.cert_checker.specs.CertTexts.{cert_lines, cert_text, certificate_parts}
use Rattle.text_io.specs.Formats.{kept_behind}
use Rattle.cert_checker.specs.CertReading.{ReadsAsCertificate}
use Rattle.cert_checker.proofs.PrintedCerts.{lines_any, lines_writable}
use Rattle.cert_checker.proofs.PrintedSizes.{text_short}
use Rattle.cert_checker.proofs.printing.print_cert.Goals as goal

pub returns-clause-canonical : goal.returns-clause-canonical
returns-clause-canonical c = c.in_ok-put_cert.ensures
    ∙ ap (λ (o : List ℕ). o ++ cert_text (certificate_parts c.args.text.now)) c.in_ok-out.ensures.items

pub returns-clause-law : goal.returns-clause-law
returns-clause-law c passed =
    let C = certificate_parts c.args.text.now in
    let text = cert_text C in
    let matched = c.written_lines_are_read.ensures (cert_lines C) (lines_writable C c.requires) in
    subst (λ (t : List ℕ). ReadsAsCertificate (kept_behind passed t) C) (sym (returns-clause-canonical c))
    (record {
      lawful = c.requires;
      match =
          subst (λ (ls : List Line). AllZip Matches ls (cert_lines C)) (lines_any 1 (passed + 1) (lines text)) matched;
    })

pub returns-clause-short : goal.returns-clause-short
returns-clause-short c = let C = certificate_parts c.args.text.now in
    subst (λ (t : List ℕ). length t ≤ MAX_CHECK_BYTES) (sym (returns-clause-canonical c)) (text_short C c.requires)
