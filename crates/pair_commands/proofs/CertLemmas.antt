-- A text can hold the certificate of a solved pair.
use Rattle.std.proofs.Common.{◌≡◌, ℕ, ◌+◌, ◌*◌, ◌-◌, ◌<◌, ◌≤◌, ℤ, List, [], ◌∷◌, length, Option, Some, Result, Ok, Err, Vec, slice_index_or, ap, sym, subst, ◌∙◌, arith}
use Rattle.std.specs.Prelude.{IfOk}
use Rattle.std.specs.Global.{Global}
use Rattle.fku_types.specs.declared.limits.TheConstants.{MAX_PAIRS}
use Rattle.strip_graph.specs.Strips.{Strip, IsStrip, rows, cols, arcs}
use Rattle.strip_graph.specs.Certificates.{Certifies}
use Rattle.strip_graph.proofs.WordLaws.{length-letters}
use Rattle.row_paths.specs.Solutions.{Solution, Solves}
use Rattle.pair_pool.specs.Solvers.{SolvesEach}
use Rattle.strip_potential.specs.Rows.{HasRows}
use Rattle.cert_checker.specs.declared.certs.CertText.{CertText}
use Rattle.cert_checker.specs.CertTexts.{CertParts, IsLawfulCertificate, cert_text, certificate_parts}
use Rattle.text_io.specs.Formats.{kept_behind}
use Rattle.cert_checker.specs.CertReading.{ReadsAsCertificate}
use Rattle.cert_checker.specs.Verdicts.{Holds}
use Rattle.command_replies.specs.Reply.{told}
use Rattle.pair_commands.specs.Certify.{TellsCert, certificate}

-- the printed text of a certificate is the reply
pub tells_cert : {E : Type 0} (k : ℕ) (p : Strip) (s : Solution) (t : CertText) (r : Result (Vec ℕ Global) E)
    → Solves p s → certificate_parts t ≡ certificate k p s t.cert.pi.items
    → HasRows p (2 * rows p) t.cert.pi.items → Holds p t.cert → IfOk r (λ v. v.items ≡ cert_text (certificate_parts t))
    → IfOk r (λ v. (passed : ℕ) → ReadsAsCertificate (kept_behind passed v.items) (certificate_parts t))
    → IfOk r (λ v. (x : Solution) × Solves p x × TellsCert k p x (told v.items 1))
tells_cert k p s t (Err e) solves is rows_are holds canonical law = tt
tells_cert k p s t (Ok v) solves is rows_are holds canonical law =
    let text : v.items ≡ cert_text (certificate k p s t.cert.pi.items) = canonical ∙ ap cert_text is in (
      s,
      solves,
      record {
        values = t.cert.pi.items;
        potential = rows_are;
        holds = subst (λ (C : CertParts). Certifies (arcs p) (rows p) (cols p) C.head.rows C.head.cols C.head.cost
            C.head.start C.word C.values) is holds;
        reads = λ passed. subst (λ (b : List ℕ).
            ReadsAsCertificate (kept_behind passed b) (certificate k p s t.cert.pi.items)) text
            (subst (ReadsAsCertificate (kept_behind passed v.items)) is (law passed));
        tells = ap (λ (b : List ℕ). told b 1) text;
      },
    )

-- the solution of the only strip
pub only_solution : (p : Strip) (ps : List Strip) (xs : List Solution) (n : ℕ) (o : Option Solution) (s : Solution)
    → ps ≡ p ∷ [] → SolvesEach ps xs → n ≡ length xs
    → ((d : Solution) → 0 < n → o ≡ Some (slice_index_or xs (n - 1) d)) → o ≡ Some s → Solves p s
only_solution p ps xs n o s one solved count last is =
    let each = subst (λ (qs : List Strip). SolvesEach qs xs) one solved in
    let single : n ≡ 1 = omega (arith, count, each.count) in
    let first : Some s ≡ Some (slice_index_or xs 0 s) = sym is
    ∙ subst (λ (k : ℕ). o ≡ Some (slice_index_or xs (k - 1) s)) single (last s (omega (arith, single))) in
    let same : s ≡ slice_index_or xs 0 s = cc in
    subst (Solves p) (sym same) (each.each 0 p s (omega arith))

pub lawful_certificate : (k : ℕ) (p : Strip) (s : Solution) (values : List ℤ) → 1 ≤ k → k ≤ MAX_PAIRS → IsStrip p
    → Certifies (arcs p) (rows p) (cols p) (rows p) (cols p) s.cost s.row s.word values
    → IsLawfulCertificate (certificate k p s values)
lawful_certificate k p s values some few strip holds =
    let letters = holds.acceptable.letters in
    let long : length s.word ≡ rows p + cols p = omega (arith, length-letters s.word, letters.v, letters.h) in
    record {
      head = record {
        pair = (some, few);
        rows = (strip.low.enough, strip.low.few);
        cols = (strip.high.enough, strip.high.few);
        cost = holds.cost_modest;
        start = omega (arith, holds.acceptable.row, strip.low.few);
      };
      word = (omega (arith, long, strip.low.enough), omega (arith, long, strip.low.few, strip.high.few));
      count = holds.size;
      values = holds.values_modest;
    }
