use Rattle.std.proofs.Common.{inr, refl, arith, rules, List, length, subst, ◌≡◌, ◌∙◌, ap}
use Rattle.std.proofs.lemmas.List.{length-map}
use Rattle.strip_graph.specs.Strips.{Strip}
use Rattle.surface_core.specs.Objects.{AreAllPairs, IsFoundIn, alone, numbered, objects_in, pair_lists}
use Rattle.section_pairs.specs.SectionFaults.{ArePairs}
use Rattle.surface_core.proofs.ObjectSteps.{zip_length}
use Rattle.command_replies.proofs.ObjectTexts.{held}
use Rattle.section_pairs.specs.Pairs.{PairParts}
use Rattle.surface_core.specs.Surfaces.{strips_in}
use Rattle.pair_pool.proofs.Referents.{count_referents}
use Rattle.pair_pool.specs.Solvers.{SolvesEach, raised_by, referents}
use Rattle.command_replies.specs.Reply.{NoFault, Tells}
use Rattle.command_replies.specs.Stages.{on_solutions}
use Rattle.pair_commands.specs.Tilings.{tilings, tilings_text}
use Rattle.command_replies.proofs.ReplyLemmas.{failed, no_text, tells, went_on, with_text}
use Rattle.fku_types.proofs.AnswerLaws.{err_is}
use Rattle.section_core.specs.declared.parts.Version.TheVariants.{Two}
use Rattle.section_text.specs.Fronts.{IsReadMemory}
use Rattle.command_replies.proofs.FourFirst.{at_text}
use Rattle.pair_commands.proofs.listing.tilings.Goals as goal

pub tilings_text-requires-clause-objects : goal.tilings_text-requires-clause-objects
tilings_text-requires-clause-objects g c =
    let F = c.in_ok-objects.objects in
    let each = zip_length ArePairs (objects_in F) (pair_lists c.in_ok-pairs.pairs.items) c.in_ok-pairs.ensures.pairs in
    omega (
      arith,
      each,
      length-map F.objects (alone F),
      length-map c.in_ok-pairs.pairs.items held,
      ap length c.deref-3.ensures.value,
    )

pub returns-in_err-objects-clause-reply : goal.returns-in_err-objects-clause-reply
returns-in_err-objects-clause-reply g c =
    no_text tilings c.args.input.now (g.P.PairSolver.solved_pairs c.args.solver.now) c.from_residual.result
    c.in_err-objects.field-0.0 c.from_residual.ensures.1 c.in_err-objects.ensures.fault

pub returns-in_err-pairs-clause-reply : goal.returns-in_err-pairs-clause-reply
returns-in_err-pairs-clause-reply g c =
    let F = c.in_ok-objects.objects in
    let n = g.P.PairSolver.solved_pairs c.args.solver.now in
    let out = c.from_residual-in_err-pairs in
    with_text tilings c.args.input.now n n out.result F c.in_ok-objects.ensures.text
    (failed (IsFoundIn F) (AreAllPairs F)
    (λ pss. on_solutions (numbered pss) (λ xs. Tells (tilings_text F pss xs) (length (numbered pss)))) n n
    out.result c.in_err-pairs.field-0.0 out.ensures.1 c.in_err-pairs.ensures.fault (inr refl) (omega arith))

pub returns-clause-reply : goal.returns-clause-reply
returns-clause-reply g c =
    let F = c.in_ok-objects.objects in
    let pss = pair_lists c.in_ok-pairs.pairs.items in
    let ps = numbered pss in
    let xs = c.in_ok-solved.solved.items in
    let before = g.P.PairSolver.solved_pairs c.args.solver.now in
    let after = g.P.PairSolver.solved_pairs c.solve_each.new.self in
    let strips : referents c.in_ok-strips.strips.items ≡ strips_in ps = search rules in
    let solved : SolvesEach (strips_in ps) xs = subst (λ (ss : List Strip). SolvesEach ss xs) strips (search rules) in
    let count : length c.in_ok-strips.strips.items ≡ length ps =
    count_referents c.in_ok-strips.strips.items (strips_in ps) strips
    ∙ length-map ps (λ (p : PairParts). p.strip) in
    let raised : after ≡ raised_by (length ps) before = search (rules, count) in
    with_text tilings c.args.input.now before after _ F c.in_ok-objects.ensures.text
    (went_on (IsFoundIn F) (AreAllPairs F)
    (λ pss. on_solutions (numbered pss) (λ xs. Tells (tilings_text F pss xs) (length (numbered pss)))) before after
    _ pss c.in_ok-pairs.ensures.pairs
    (went_on NoFault (SolvesEach (strips_in ps)) (λ xs. Tells (tilings_text F pss xs) (length ps)) before after _ xs
    solved
    (tells (tilings_text F pss xs) before after (length ps) c.in_ok-text.text (search rules) raised
    c.solve_each.ensures.not_less)))

pub returns-in_err-objects-clause-memory : goal.returns-in_err-objects-clause-memory
returns-in_err-objects-clause-memory g c =
    err_is (IsReadMemory Two c.args.input.now) c.from_residual.result c.in_err-objects.field-0.0
    c.from_residual.ensures.1 c.in_err-objects.ensures.memory

pub returns-in_err-pairs-clause-memory : goal.returns-in_err-pairs-clause-memory
returns-in_err-pairs-clause-memory g c =
    at_text c.args.input.now c.in_ok-objects.objects c.from_residual-in_err-pairs.result c.in_ok-objects.ensures.text

pub returns-in_err-strips-clause-memory : goal.returns-in_err-strips-clause-memory
returns-in_err-strips-clause-memory g c =
    at_text c.args.input.now c.in_ok-objects.objects c.from_residual-in_err-strips.result c.in_ok-objects.ensures.text

pub returns-in_err-solved-clause-memory : goal.returns-in_err-solved-clause-memory
returns-in_err-solved-clause-memory g c =
    at_text c.args.input.now c.in_ok-objects.objects c.from_residual-in_err-solved.result c.in_ok-objects.ensures.text

pub returns-in_err-text-clause-memory : goal.returns-in_err-text-clause-memory
returns-in_err-text-clause-memory g c =
    at_text c.args.input.now c.in_ok-objects.objects c.from_residual-in_err-text.result c.in_ok-objects.ensures.text
