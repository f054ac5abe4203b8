use Rattle.std.proofs.Common.{◌≡◌, ◌∙◌, ℤ, inr, refl, ap, sym, arith, subst, length}
use Rattle.std.specs.Prelude.{sum_by}
use Rattle.std.specs.List.{AllZip}
use Rattle.std.proofs.lemmas.List.{length-map}
use Rattle.plane_geom.proofs.Signed.{passed_i32}
use Rattle.surface_core.specs.Objects.{AreAllPairs, IsFoundIn, alone, objects_in, pair_lists}
use Rattle.surface_core.proofs.ObjectSteps.{zip_length}
use Rattle.command_replies.specs.Reply.{Tells, Then}
use Rattle.surface_commands.specs.Slice.{AreCuts, IsHeightFaultOfAll, cuts_text, slice}
use Rattle.surface_commands.specs.SliceSteps.{FitsHeight}
use Rattle.section_slices.specs.Slices.{IsCut, loop_count}
use Rattle.command_replies.proofs.ReplyLemmas.{counted_raised, failed, no_text, tells_counted, went_on, with_text}
use Rattle.fku_types.proofs.AnswerLaws.{err_is}
use Rattle.section_core.specs.declared.parts.Version.TheVariants.{Two}
use Rattle.section_text.specs.Fronts.{IsReadMemory}
use Rattle.command_replies.proofs.FourFirst.{at_text}
use Rattle.surface_commands.proofs.slices.loops.Goals as goal

pub returns-in_err-objects-clause-reply : goal.returns-in_err-objects-clause-reply
returns-in_err-objects-clause-reply g c =
    no_text (slice c.args.height) c.args.input.now (g.P.PairSolver.solved_pairs c.args.solver.now)
    c.from_residual.result c.in_err-objects.field-0.0 c.from_residual.ensures.1 c.in_err-objects.ensures.fault

pub returns-in_err-pairs-clause-reply : goal.returns-in_err-pairs-clause-reply
returns-in_err-pairs-clause-reply g c =
    let F = c.in_ok-objects.objects in
    let z = c.args.height in
    let n = g.P.PairSolver.solved_pairs c.args.solver.now in
    let out = c.from_residual-in_err-pairs in
    with_text (slice z) c.args.input.now n n out.result F c.in_ok-objects.ensures.text
    (failed (IsFoundIn F) (AreAllPairs F)
    (λ pss. Then (IsHeightFaultOfAll F z) (AreCuts F z)
    (λ cuts. Tells (cuts_text F.version z F.objects cuts) (sum_by loop_count cuts))) n n out.result
    c.in_err-pairs.field-0.0 out.ensures.1 c.in_err-pairs.ensures.fault (inr refl) (omega arith))

pub returns-in_err-test_heights-clause-reply : goal.returns-in_err-test_heights-clause-reply
returns-in_err-test_heights-clause-reply g c =
    let F = c.in_ok-objects.objects in
    let z = c.args.height in
    let n = g.P.PairSolver.solved_pairs c.args.solver.now in
    let out = c.from_residual-in_err-test_heights in
    let fault = c.in_err-test_heights.field-0.0 in
    let bad = subst (λ (w : ℤ). IsHeightFaultOfAll F w fault) (passed_i32 z c.requires.height)
    c.in_err-test_heights.ensures.fault in
    with_text (slice z) c.args.input.now n n out.result F c.in_ok-objects.ensures.text
    (went_on (IsFoundIn F) (AreAllPairs F)
    (λ pss. Then (IsHeightFaultOfAll F z) (AreCuts F z)
    (λ cuts. Tells (cuts_text F.version z F.objects cuts) (sum_by loop_count cuts))) n n out.result
    (pair_lists c.in_ok-pairs.pairs.items) c.in_ok-pairs.ensures.pairs
    (failed (IsHeightFaultOfAll F z) (AreCuts F z)
    (λ cuts. Tells (cuts_text F.version z F.objects cuts) (sum_by loop_count cuts)) n n out.result fault
    out.ensures.1 (inr bad) (inr refl) (omega arith)))

pub returns-clause-reply : goal.returns-clause-reply
returns-clause-reply g c =
    let F = c.in_ok-objects.objects in
    let z = c.args.height in
    let before = g.P.PairSolver.solved_pairs c.args.solver.now in
    let after = g.P.PairSolver.solved_pairs c.slice_all.new.solver in
    let cuts = c.in_ok-cuts.cuts.items in
    let text = c.in_ok-text.text in
    let same = passed_i32 z c.requires.height in
    let each = subst (λ (w : ℤ). AllZip (IsCut w) (objects_in F) cuts) same c.in_ok-cuts.ensures.cuts in
    let some = (subst (λ (w : ℤ). FitsHeight F w) same c.in_ok-test_heights.ensures.fits).some in
    let is = subst (λ (w : ℤ). text.items ≡ cuts_text F.version w F.objects c.deref-2.result.now) same
    c.in_ok-text.ensures ∙ ap (cuts_text F.version z F.objects) c.deref-2.ensures.value in
    with_text (slice z) c.args.input.now before after _ F c.in_ok-objects.ensures.text
    (went_on (IsFoundIn F) (AreAllPairs F)
    (λ pss. Then (IsHeightFaultOfAll F z) (AreCuts F z)
    (λ cuts. Tells (cuts_text F.version z F.objects cuts) (sum_by loop_count cuts))) before after _
    (pair_lists c.in_ok-pairs.pairs.items) c.in_ok-pairs.ensures.pairs
    (went_on (IsHeightFaultOfAll F z) (AreCuts F z)
    (λ cuts. Tells (cuts_text F.version z F.objects cuts) (sum_by loop_count cuts)) before after _ cuts
    (record { each = each; some = some })
    (tells_counted (cuts_text F.version z F.objects cuts) before after (sum_by loop_count cuts) text is
    (counted_raised (sum_by loop_count cuts) before after c.in_ok-cuts.ensures.counted c.slice_all.ensures.not_less)
    c.slice_all.ensures.not_less)))

pub returns-in_err-objects-clause-memory : goal.returns-in_err-objects-clause-memory
returns-in_err-objects-clause-memory g c =
    err_is (IsReadMemory Two c.args.input.now) c.from_residual.result c.in_err-objects.field-0.0
    c.from_residual.ensures.1 c.in_err-objects.ensures.memory

pub returns-in_err-pairs-clause-memory : goal.returns-in_err-pairs-clause-memory
returns-in_err-pairs-clause-memory g c =
    at_text c.args.input.now c.in_ok-objects.objects c.from_residual-in_err-pairs.result c.in_ok-objects.ensures.text

pub returns-in_err-test_heights-clause-memory : goal.returns-in_err-test_heights-clause-memory
returns-in_err-test_heights-clause-memory g c =
    at_text c.args.input.now c.in_ok-objects.objects c.from_residual-in_err-test_heights.result
    c.in_ok-objects.ensures.text

pub returns-in_err-text-clause-memory : goal.returns-in_err-text-clause-memory
returns-in_err-text-clause-memory g c =
    at_text c.args.input.now c.in_ok-objects.objects c.from_residual-in_err-text.result c.in_ok-objects.ensures.text

pub returns-in_err-cuts-clause-memory : goal.returns-in_err-cuts-clause-memory
returns-in_err-cuts-clause-memory g c =
    at_text c.args.input.now c.in_ok-objects.objects c.from_residual-in_err-cuts.result c.in_ok-objects.ensures.text

pub cuts_text-requires : goal.cuts_text-requires
cuts_text-requires g c =
    let F = c.in_ok-objects.objects in
    let cuts = c.in_ok-cuts.cuts.items in
    ap length c.deref-2.ensures.value ∙ sym (zip_length (IsCut _) (objects_in F) cuts c.in_ok-cuts.ensures.cuts)
    ∙ length-map F.objects (alone F)
