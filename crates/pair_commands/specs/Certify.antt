-- `certify`: a certificate that the chosen tiling of a pair is least.
use Rattle.std.specs.Prelude.{ℕ, ℤ, ◌*◌, List}
use Rattle.section_core.specs.Parts.{FileParts}
use Rattle.strip_graph.specs.Strips.{Strip, rows, cols, arcs}
use Rattle.strip_graph.specs.Certificates.{Certifies}
use Rattle.row_paths.specs.Solutions.{Solution, Solves}
use Rattle.strip_potential.specs.Rows.{HasRows}
use Rattle.cert_checker.specs.CertTexts.{CertParts, cert_text}
use Rattle.text_io.specs.Formats.{kept_behind}
use Rattle.cert_checker.specs.CertReading.{ReadsAsCertificate}
use Rattle.command_replies.specs.Reply.{Reply, Then, NoFault, Tells}
use Rattle.command_replies.specs.Stages.{on_numbered}
use Rattle.pair_commands.specs.OnePair.{on_pair}

-- the certificate of the pair of number k: its rows and columns, the cost and tiling of its solution, and some values
abbrev pub certificate : ℕ → Strip → Solution → List ℤ → CertParts
certificate k p s values = record {
  head = record { pair = k; rows = rows p; cols = cols p; cost = s.cost; start = s.row };
  word = s.word;
  values = values;
}

-- The text of the reply is the canonical text of the pair's certificate, whose values are the potential of its strip:
-- 2m rows of n + 1. This certificate is valid, and the text reads as it, after any number of lines. One pair is
-- counted.
pub record TellsCert (k : ℕ) (p : Strip) (s : Solution) (reply : Reply) : Type 0 where
  pub values : List ℤ
  pub potential : HasRows p (2 * rows p) values
  pub holds : Certifies (arcs p) (rows p) (cols p) (rows p) (cols p) s.cost s.row s.word values
  pub reads : (passed : ℕ)
      → ReadsAsCertificate (kept_behind passed (cert_text (certificate k p s values))) (certificate k p s values)
  pub tells : Tells (cert_text (certificate k p s values)) 1 reply

-- the solution of a strip: its chosen tiling, which costs no more than any acceptable tiling from any start
abbrev pub on_solution : Strip → (Solution → Reply → Type 0) → Reply → Type 0
on_solution p rule = Then NoFault (Solves p) rule

-- the reply for objects: the certificate of their pair of number k
abbrev pub certify : ℕ → FileParts → Reply → Type 0
certify k F = on_numbered F (λ pairs. on_pair pairs k (λ p. on_solution p.strip (TellsCert k p.strip)))
