-- `check`: the verdict on a certificate that follows sections.
use Rattle.std.specs.Prelude.{ℕ, ℤ, pos, ◌≡◌, ◌≤ℤ◌, List, [], ◌∷◌, ◌++◌, length, codes, decimal}
use Rattle.std.specs.Fmt.{signed_decimal}
use Rattle.text_io.specs.Text.{lines}
use Rattle.text_io.specs.WordLists.{Kept}
use Rattle.section_core.specs.Parts.{FileParts}
use Rattle.strip_graph.specs.declared.tilings.Step.{Step}
use Rattle.strip_graph.specs.Words.{word_cost}
use Rattle.strip_graph.specs.Tilings.{IsAcceptable}
use Rattle.strip_graph.specs.Strips.{Strip, rows, cols, arcs}
use Rattle.cert_checker.specs.declared.certs.Cert.{Cert}
use Rattle.cert_checker.specs.declared.certs.CertText.{CertText}
use Rattle.cert_checker.specs.declared.certs.Verdict.{Verdict}
use Rattle.cert_checker.specs.declared.certs.Verdict.TheVariants.{Accept, Size, Word, Cost, Arc, Turn}
use Rattle.cert_checker.specs.CertTexts.{letter, certificate_parts}
use Rattle.cert_checker.specs.CertReading.{ReadsAsCertificate, IsCertFault}
use Rattle.cert_checker.specs.Verdicts.{IsVerdict}
use Rattle.command_replies.specs.Reply.{Reply, Then, Tells}
use Rattle.command_replies.specs.Stages.{on_front, on_numbered}
use Rattle.pair_commands.specs.OnePair.{on_pair}

-- the line of a verdict on the certificate of a pair by its number, with its cost
abbrev pub verdict_text : ℕ → ℤ → Verdict → List ℕ
verdict_text k cost Accept =
    codes "ACCEPT PAIR " ++ (decimal k ++ (codes " COST " ++ (signed_decimal cost ++ codes "\n")))
verdict_text k cost Size = codes "REJECT SIZE\n"
verdict_text k cost Word = codes "REJECT WORD\n"
verdict_text k cost Cost = codes "REJECT COST\n"
verdict_text k cost (Arc row col step) =
    codes "REJECT ARC " ++ (decimal row
    ++ (codes " " ++ (decimal col ++ (codes " " ++ (letter step ∷ [] ++ codes "\n")))))
verdict_text k cost (Turn row) = codes "REJECT TURN " ++ (decimal row ++ codes "\n")

-- The tiling of a certificate is acceptable and costs what is stated, and no acceptable tiling of the strip, from any
-- start, costs less.
pub record HasLeastTiling (p : Strip) (k : Cert) : Type 0 where
  pub acceptable : IsAcceptable (rows p) (cols p) k.tiling.row 0 k.tiling.word.items
  pub cost : k.cost ≡ pos (word_cost (arcs p) k.tiling.row 0 k.tiling.word.items)
  pub least : (i j : ℕ) (word : List Step) → IsAcceptable (rows p) (cols p) i j word
      → k.cost ≤ℤ pos (word_cost (arcs p) i j word)

-- The reply is the verdict on the certificate, and there is no other one; if it is ACCEPT, the tiling is least. No pair
-- is counted.
pub record TellsVerdict (p : Strip) (t : CertText) (reply : Reply) : Type 0 where
  pub verdict : Verdict
  pub judges : IsVerdict p t.cert verdict
  pub only : (other : Verdict) → IsVerdict p t.cert other → other ≡ verdict
  pub sound : verdict ≡ Accept → HasLeastTiling p t.cert
  pub tells : Tells (verdict_text t.pair t.cert.cost verdict) 0 reply

-- the certificate that kept lines read as, in an input of so many lines
abbrev pub on_cert : ℕ → List Kept → (CertText → Reply → Type 0) → Reply → Type 0
on_cert last tail rule = Then (IsCertFault tail last) (λ t. ReadsAsCertificate tail (certificate_parts t)) rule

-- the reply for objects with a tail, in an input of so many lines: the verdict on the certificate of the pair that it
-- names
abbrev pub verdict : ℕ → FileParts → List Kept → Reply → Type 0
verdict last F tail =
    on_numbered F (λ pairs. on_cert last tail (λ t. on_pair pairs t.pair (λ p. TellsVerdict p.strip t)))

-- the reply for bytes
abbrev pub check : List ℕ → Reply → Type 0
check bytes = on_front (verdict (length (lines bytes))) bytes
