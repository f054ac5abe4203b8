-- Which texts read as a certificate, and where any other text has its fault.
use Rattle.std.specs.Prelude.{ℕ, ◌≡◌, List, [], ◌∷◌, Result, Ok, Err}
use Rattle.text_io.specs.WordLists.{Line, Kept}
use Rattle.text_io.specs.Formats.{ReadsAs, BeginsAny, HasLineFault}
use Rattle.fku_types.specs.declared.fault.Fault.{Fault}
use Rattle.fku_types.specs.declared.fault.Fault.TheVariants.{CertForm, NoMemory}
use Rattle.cert_checker.specs.declared.certs.CertText.{CertText}
use Rattle.cert_checker.specs.CertTexts.{CertParts, IsLawfulCertificate, cert_lines, certificate_parts}

-- The kept lines match the lines of this certificate.
abbrev pub ReadsAsCertificate : List Kept → CertParts → Type 0
ReadsAsCertificate kept C = ReadsAs IsLawfulCertificate cert_lines kept C

-- The lines match the first lines of some lawful certificate.
abbrev pub BeginsCertificate : List Line → Type 0
BeginsCertificate lines = BeginsAny IsLawfulCertificate cert_lines lines

-- A text of these kept lines, in an input of which this is the last line, has its fault at line n.
abbrev pub HasCertificateFault : List Kept → ℕ → ℕ → Type 0
HasCertificateFault kept last n = HasLineFault IsLawfulCertificate cert_lines kept last n

-- The text has this fault.
abbrev pub IsCertFault : List Kept → ℕ → Fault → Type 0
IsCertFault kept last fault = (n : ℕ) × HasCertificateFault kept last n × (fault ≡ CertForm n)

-- The text has this fault, or memory ran out.
abbrev pub IsCertificateFault : List Kept → ℕ → Fault → Type 0
IsCertificateFault kept last (CertForm n) = HasCertificateFault kept last n
IsCertificateFault kept last fault = fault ≡ NoMemory

-- The first kept line is that of a lawful certificate.
pub record HasFirstLine (kept : List Kept) : Type 0 where
  pub first : Kept
  pub more : List Kept
  pub split : kept ≡ first ∷ more
  pub begins : BeginsCertificate (first.1 ∷ [])

-- Memory runs out only there: the call asks for it after the first line.
abbrev pub IsCertMemory : List Kept → Fault → Type 0
IsCertMemory kept fault = fault ≡ NoMemory → HasFirstLine kept

-- This certificate is the result, unless memory runs out.
abbrev pub ReadsBackCertificate : CertParts → Result CertText Fault → Type 0
ReadsBackCertificate C (Ok t) = certificate_parts t ≡ C
ReadsBackCertificate C (Err fault) = fault ≡ NoMemory

-- The result reports the fault at line n, unless memory runs out.
abbrev pub TellsCertificateFault : ℕ → Result CertText Fault → Type 0
TellsCertificateFault n (Ok t) = ⊥
TellsCertificateFault n (Err (CertForm line)) = line ≡ n
TellsCertificateFault n (Err fault) = fault ≡ NoMemory
