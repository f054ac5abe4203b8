use Rattle.std.proofs.Common.{inr, refl, arith, List, map, subst}
use Rattle.row_paths.specs.Solutions.{Solves}
use Rattle.surface_core.specs.Objects.{IsFoundIn}
use Rattle.section_pairs.specs.Pairs.{PairParts, pair_parts}
use Rattle.section_pairs.specs.declared.gap_pairs.GapPair.{GapPair}
use Rattle.command_replies.specs.Reply.{NoFault}
use Rattle.command_replies.specs.Stages.{AreNumbered}
use Rattle.pair_commands.specs.OnePair.{IsNoPair, IsPairOf, on_pair}
use Rattle.pair_commands.specs.Certify.{TellsCert, certify, on_solution}
use Rattle.command_replies.proofs.ReplyLemmas.{failed, gives, no_text, went_on, with_text}
use Rattle.fku_types.proofs.AnswerLaws.{err_is}
use Rattle.section_core.specs.declared.parts.Version.TheVariants.{Two}
use Rattle.section_text.specs.Fronts.{IsReadMemory}
use Rattle.command_replies.proofs.FourFirst.{at_text}
use Rattle.pair_commands.proofs.certifying.certify.Goals as goal

pub returns-in_err-objects-clause-reply : goal.returns-in_err-objects-clause-reply
returns-in_err-objects-clause-reply g c =
    no_text (certify c.args.number) c.args.input.now (g.P.PairSolver.solved_pairs c.args.solver.now)
    c.from_residual.result c.in_err-objects.field-0.0 c.from_residual.ensures.1 c.in_err-objects.ensures.fault

pub returns-in_err-pairs-clause-reply : goal.returns-in_err-pairs-clause-reply
returns-in_err-pairs-clause-reply g c =
    let F = c.in_ok-objects.objects in
    let k = c.args.number in
    let n = g.P.PairSolver.solved_pairs c.args.solver.now in
    let out = c.from_residual-in_err-pairs in
    with_text (certify k) c.args.input.now n n out.result F c.in_ok-objects.ensures.text
    (failed (IsFoundIn F) (AreNumbered F) (λ ps. on_pair ps k (λ p. on_solution p.strip (TellsCert k p.strip))) n n
    out.result c.in_err-pairs.field-0.0 out.ensures.1 c.in_err-pairs.ensures.fault (inr refl) (omega arith))

pub returns-in_err-pair-clause-reply : goal.returns-in_err-pair-clause-reply
returns-in_err-pair-clause-reply g c =
    let F = c.in_ok-objects.objects in
    let k = c.args.number in
    let n = g.P.PairSolver.solved_pairs c.args.solver.now in
    let ps = map pair_parts c.in_ok-pairs.pairs.items in
    let out = c.from_residual-in_err-pair in
    let fault = c.in_err-pair.field-0.0 in
    let none = subst (λ (gs : List GapPair). IsNoPair (map pair_parts gs) k fault) c.deref.ensures.value
    c.in_err-pair.ensures.fault in
    with_text (certify k) c.args.input.now n n out.result F c.in_ok-objects.ensures.text
    (went_on (IsFoundIn F) (AreNumbered F) (λ ps. on_pair ps k (λ p. on_solution p.strip (TellsCert k p.strip))) n n
    out.result ps c.in_ok-pairs.ensures.pairs
    (failed (IsNoPair ps k) (IsPairOf ps k) (λ p. on_solution p.strip (TellsCert k p.strip)) n n out.result fault
    out.ensures.1 (inr none) (inr refl) (omega arith)))

pub returns-clause-reply : goal.returns-clause-reply
returns-clause-reply g c =
    let F = c.in_ok-objects.objects in
    let k = c.args.number in
    let before = g.P.PairSolver.solved_pairs c.args.solver.now in
    let after = g.P.PairSolver.solved_pairs c.certified.new.solver in
    let ps = map pair_parts c.in_ok-pairs.pairs.items in
    let p : PairParts = pair_parts c.in_ok-pair.pair.now in
    let is_pair = subst (λ (gs : List GapPair). IsPairOf (map pair_parts gs) k p) c.deref.ensures.value
    c.in_ok-pair.ensures.found in
    let told = c.in_ok-text.ensures.text in
    with_text (certify k) c.args.input.now before after _ F c.in_ok-objects.ensures.text
    (went_on (IsFoundIn F) (AreNumbered F) (λ ps. on_pair ps k (λ p. on_solution p.strip (TellsCert k p.strip))) before
    after _ ps c.in_ok-pairs.ensures.pairs
    (went_on (IsNoPair ps k) (IsPairOf ps k) (λ p. on_solution p.strip (TellsCert k p.strip)) before after _ p is_pair
    (went_on NoFault (Solves p.strip) (TellsCert k p.strip) before after _ told.0 told.1
    (gives (TellsCert k p.strip told.0) before after 1 c.in_ok-text.text told.2 c.in_ok-text.ensures.counted
    c.certified.ensures.not_less))))

pub returns-in_err-objects-clause-memory : goal.returns-in_err-objects-clause-memory
returns-in_err-objects-clause-memory g c =
    err_is (IsReadMemory Two c.args.input.now) c.from_residual.result c.in_err-objects.field-0.0
    c.from_residual.ensures.1 c.in_err-objects.ensures.memory

pub returns-in_err-pairs-clause-memory : goal.returns-in_err-pairs-clause-memory
returns-in_err-pairs-clause-memory g c =
    at_text c.args.input.now c.in_ok-objects.objects c.from_residual-in_err-pairs.result c.in_ok-objects.ensures.text

pub returns-in_err-pair-clause-memory : goal.returns-in_err-pair-clause-memory
returns-in_err-pair-clause-memory g c =
    at_text c.args.input.now c.in_ok-objects.objects c.from_residual-in_err-pair.result c.in_ok-objects.ensures.text

pub returns-in_err-text-clause-memory : goal.returns-in_err-text-clause-memory
returns-in_err-text-clause-memory g c =
    at_text c.args.input.now c.in_ok-objects.objects c.from_residual-in_err-text.result c.in_ok-objects.ensures.text
