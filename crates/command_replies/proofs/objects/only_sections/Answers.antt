use Rattle.std.proofs.Common.{◌<◌, ℕ, inr, length, subst, sym, arith}
use Rattle.section_pairs.specs.SectionFaults.{OrNoMemory}
use Rattle.fku_types.proofs.AnswerLaws.{err_is}
use Rattle.fku_types.specs.declared.fault.Fault.TheVariants.{OneObject}
use Rattle.command_replies.specs.Stages.{AreSeveral, too_many}
use Rattle.command_replies.proofs.ObjectTexts.{always, object_count, several_found}
use Rattle.command_replies.proofs.objects.only_sections.Goals as goal

pub returns-in_err-pairs_all-clause-fault : goal.returns-in_err-pairs_all-clause-fault
returns-in_err-pairs_all-clause-fault g c =
    let F = c.args.objects in
    let fault = c.in_err-pairs_all.field-0.0 in
    let count = object_count F c.items-count.result.now c.items-count.ensures.parts in
    let several : 1 < length F.objects = omega (arith, count, c.if-count-gt1.true) in
    err_is (OrNoMemory (AreSeveral F)) c.from_residual.result fault c.from_residual.ensures.1
    (several_found F fault several c.in_err-pairs_all.ensures.fault)

pub returns-then-count-gt1-clause-fault : goal.returns-then-count-gt1-clause-fault
returns-then-count-gt1-clause-fault g c =
    let F = c.args.objects in
    let count = object_count F c.items-count.result.now c.items-count.ensures.parts in
    let several : 1 < length F.objects = omega (arith, count, c.if-count-gt1.true) in
    inr (subst (λ (n : ℕ). AreSeveral F (OneObject n)) (sym count) (too_many _ several c.in_ok-pairs_all.ensures.pairs))

pub returns-in_err-pairs_all-clause-several : goal.returns-in_err-pairs_all-clause-several
returns-in_err-pairs_all-clause-several g c =
    let F = c.args.objects in
    let count = object_count F c.items-count.result.now c.items-count.ensures.parts in
    let several : 1 < length F.objects = omega (arith, count, c.if-count-gt1.true) in
    always c.from_residual.result several

pub returns-then-count-gt1-clause-several : goal.returns-then-count-gt1-clause-several
returns-then-count-gt1-clause-several g c =
    let F = c.args.objects in
    omega (arith, object_count F c.items-count.result.now c.items-count.ensures.parts, c.if-count-gt1.true)
