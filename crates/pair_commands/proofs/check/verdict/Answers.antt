use Rattle.std.proofs.Common.{inr, refl, arith, ℕ, ◌+◌, List, map, length, drop, ap, subst}
use Rattle.text_io.specs.Text.{lines, kept_from, kept_lines}
use Rattle.section_core.specs.Reading.{HasFileFault}
use Rattle.section_core.specs.declared.parts.Version.TheVariants.{Two}
use Rattle.cert_checker.specs.CertTexts.{certificate_parts}
use Rattle.cert_checker.specs.CertReading.{IsCertFault, ReadsAsCertificate}
use Rattle.surface_core.specs.Objects.{IsFoundIn}
use Rattle.section_pairs.specs.Pairs.{PairParts, pair_parts}
use Rattle.section_pairs.specs.declared.gap_pairs.GapPair.{GapPair}
use Rattle.command_replies.specs.Reply.{told}
use Rattle.command_replies.specs.Stages.{AreNumbered, IsFront}
use Rattle.pair_commands.specs.OnePair.{IsNoPair, IsPairOf, on_pair}
use Rattle.pair_commands.specs.Check.{TellsVerdict, on_cert, verdict}
use Rattle.command_replies.proofs.ReplyLemmas.{failed, gives_unsolved, went_on}
use Rattle.command_replies.proofs.TailLemmas.{front_fault, with_front}
use Rattle.pair_commands.proofs.CertTails.{cert_fault, cert_read, cert_told}
use Rattle.fku_types.proofs.AnswerLaws.{err_is}
use Rattle.section_text.specs.Fronts.{IsReadMemory}
use Rattle.command_replies.proofs.FourFirst.{at_front}
use Rattle.pair_commands.proofs.check.verdict.Goals as goal

pub returns-in_err-front-clause-reply : goal.returns-in_err-front-clause-reply
returns-in_err-front-clause-reply c n =
    let input = c.args.input.now in
    let fault = c.in_err-front.field-0.0 in
    failed (HasFileFault Two (kept_lines input)) (IsFront input) (λ f. verdict (length (lines input)) f.0 f.1) n n
    c.from_residual.result fault c.from_residual.ensures.1
    (front_fault input fault c.in_err-front.ensures.fault) (inr refl) (omega arith)

pub returns-in_err-pairs-clause-reply : goal.returns-in_err-pairs-clause-reply
returns-in_err-pairs-clause-reply c n =
    let input = c.args.input.now in
    let last = length (lines input) in
    let f = c.in_ok-front.front in
    let F = f.objects in
    let tail = kept_from (f.lines + 1) (lines (drop f.used input)) in
    let out = c.from_residual-in_err-pairs in
    with_front (verdict last) input n n out.result f c.in_ok-front.ensures.found
    (failed (IsFoundIn F) (AreNumbered F)
    (λ ps. on_cert last tail (λ t. on_pair ps t.pair (λ p. TellsVerdict p.strip t))) n n out.result
    c.in_err-pairs.field-0.0 out.ensures.1 c.in_err-pairs.ensures.fault (inr refl) (omega arith))

pub returns-in_err-text-clause-reply : goal.returns-in_err-text-clause-reply
returns-in_err-text-clause-reply c n =
    let input = c.args.input.now in
    let last = length (lines input) in
    let f = c.in_ok-front.front in
    let F = f.objects in
    let tail = kept_from (f.lines + 1) (lines (drop f.used input)) in
    let ps = map pair_parts c.in_ok-pairs.pairs.items in
    let out = c.from_residual-in_err-text in
    let fault = c.in_err-text.field-0.0 in
    let bad = cert_fault input f.used f.lines fault c.in_ok-front.ensures.found.used c.in_err-text.ensures.fault in
    with_front (verdict last) input n n out.result f c.in_ok-front.ensures.found
    (went_on (IsFoundIn F) (AreNumbered F)
    (λ ps. on_cert last tail (λ t. on_pair ps t.pair (λ p. TellsVerdict p.strip t))) n n out.result ps
    c.in_ok-pairs.ensures.pairs
    (failed (IsCertFault tail last) (λ t. ReadsAsCertificate tail (certificate_parts t))
    (λ t. on_pair ps t.pair (λ p. TellsVerdict p.strip t)) n n out.result fault out.ensures.1
    (cert_told tail last fault bad) (inr refl) (omega arith)))

pub returns-in_err-pair-clause-reply : goal.returns-in_err-pair-clause-reply
returns-in_err-pair-clause-reply c n =
    let input = c.args.input.now in
    let last = length (lines input) in
    let f = c.in_ok-front.front in
    let F = f.objects in
    let tail = kept_from (f.lines + 1) (lines (drop f.used input)) in
    let ps = map pair_parts c.in_ok-pairs.pairs.items in
    let t = c.in_ok-text.text in
    let out = c.from_residual-in_err-pair in
    let fault = c.in_err-pair.field-0.0 in
    let none = subst (λ (gs : List GapPair). IsNoPair (map pair_parts gs) t.pair fault) c.deref.ensures.value
    c.in_err-pair.ensures.fault in
    with_front (verdict last) input n n out.result f c.in_ok-front.ensures.found
    (went_on (IsFoundIn F) (AreNumbered F)
    (λ ps. on_cert last tail (λ t. on_pair ps t.pair (λ p. TellsVerdict p.strip t))) n n out.result ps
    c.in_ok-pairs.ensures.pairs
    (went_on (IsCertFault tail last) (λ t. ReadsAsCertificate tail (certificate_parts t))
    (λ t. on_pair ps t.pair (λ p. TellsVerdict p.strip t)) n n out.result t
    (cert_read input f.used f.lines (certificate_parts t) c.in_ok-text.ensures.found)
    (failed (IsNoPair ps t.pair) (IsPairOf ps t.pair) (λ p. TellsVerdict p.strip t) n n out.result fault out.ensures.1
    (inr none) (inr refl) (omega arith))))

pub returns-clause-reply : goal.returns-clause-reply
returns-clause-reply c n =
    let input = c.args.input.now in
    let last = length (lines input) in
    let f = c.in_ok-front.front in
    let F = f.objects in
    let tail = kept_from (f.lines + 1) (lines (drop f.used input)) in
    let ps = map pair_parts c.in_ok-pairs.pairs.items in
    let t = c.in_ok-text.text in
    let p : PairParts = pair_parts c.in_ok-pair.pair.now in
    let is_pair = subst (λ (gs : List GapPair). IsPairOf (map pair_parts gs) t.pair p) c.deref.ensures.value
    c.in_ok-pair.ensures.found in
    let says = c.check-verdict.ensures in
    with_front (verdict last) input n n _ f c.in_ok-front.ensures.found
    (went_on (IsFoundIn F) (AreNumbered F)
    (λ ps. on_cert last tail (λ t. on_pair ps t.pair (λ p. TellsVerdict p.strip t))) n n _ ps
    c.in_ok-pairs.ensures.pairs
    (went_on (IsCertFault tail last) (λ t. ReadsAsCertificate tail (certificate_parts t))
    (λ t. on_pair ps t.pair (λ p. TellsVerdict p.strip t)) n n _ t
    (cert_read input f.used f.lines (certificate_parts t) c.in_ok-text.ensures.found)
    (went_on (IsNoPair ps t.pair) (IsPairOf ps t.pair) (λ p. TellsVerdict p.strip t) n n _ p is_pair
    (gives_unsolved (TellsVerdict p.strip t) n c.in_ok-line.line (record {
      verdict = c.check-verdict.result;
      judges = says.verdict;
      only = says.only;
      sound = λ e. record { acceptable = says.acceptable e; cost = says.cost e; least = says.least e };
      tells = ap (λ (line : List ℕ). told line 0) c.in_ok-line.ensures;
    })))))

pub returns-in_err-front-clause-memory : goal.returns-in_err-front-clause-memory
returns-in_err-front-clause-memory c =
    err_is (IsReadMemory Two c.args.input.now) c.from_residual.result c.in_err-front.field-0.0 c.from_residual.ensures.1
    c.in_err-front.ensures.memory

pub returns-in_err-pairs-clause-memory : goal.returns-in_err-pairs-clause-memory
returns-in_err-pairs-clause-memory c =
    at_front c.args.input.now c.in_ok-front.front c.from_residual-in_err-pairs.result c.in_ok-front.ensures.found

pub returns-in_err-text-clause-memory : goal.returns-in_err-text-clause-memory
returns-in_err-text-clause-memory c =
    at_front c.args.input.now c.in_ok-front.front c.from_residual-in_err-text.result c.in_ok-front.ensures.found

pub returns-in_err-pair-clause-memory : goal.returns-in_err-pair-clause-memory
returns-in_err-pair-clause-memory c =
    at_front c.args.input.now c.in_ok-front.front c.from_residual-in_err-pair.result c.in_ok-front.ensures.found

pub returns-in_err-line-clause-memory : goal.returns-in_err-line-clause-memory
returns-in_err-line-clause-memory c =
    at_front c.args.input.now c.in_ok-front.front c.from_residual-in_err-line.result c.in_ok-front.ensures.found
