use Rattle.std.proofs.Common.{◌≡◌, ◌++◌, List, Vec, ap, ◌∙◌, sym, subst, Err}
use Rattle.std.specs.Global.{Global}
use Rattle.std.proofs.lemmas.Result.{err_from_is_err_and}
use Rattle.fku_types.specs.declared.fault.Fault.{Fault}
use Rattle.section_pairs.specs.declared.gap_pairs.GapPair.{GapPair}
use Rattle.section_pairs.specs.Ranges.{AreHeldIn, IsSideFaultIn}
use Rattle.section_pairs.specs.SectionFaults.{OrNoMemory}
use Rattle.section_pairs.proofs.FoundCases.{of_ok, of_err, of_err_back}
use Rattle.section_pairs.proofs.RangeLaws.{held_joined, told_right}
use Rattle.section_pairs.proofs.ranges.pairs_before.Goals as goal

pub returns-in_err-more : goal.returns-in_err-more
returns-in_err-more c = λ S b m e h k.
    let fault = c.in_err-more.field-0.0 in
    let exit = err_from_is_err_and c.from_residual.result c.from_residual.ensures.1 in
    of_err_back c.from_residual.result fault (λ (v : Vec GapPair Global). AreHeldIn S b e v.items)
    (OrNoMemory (IsSideFaultIn S b e)) (exit.1 ∙ ap (λ (x : Fault). Err x) exit.2)
    (told_right S b m e fault c.args.pairs.items h
    (of_err c.args.back fault (λ (v : Vec GapPair Global). AreHeldIn S m e v.items) (OrNoMemory (IsSideFaultIn S m e))
    c.in_err-more.was k))

pub returns : goal.returns
returns c = λ S b m e h k.
    let old = c.args.pairs.items in
    let more = c.in_ok-more.more in
    let whole : c.append.new.self.items ≡ old ++ more.items = c.in_ok-append.ensures.items in
    subst (λ (ps : List GapPair). AreHeldIn S b e ps) (sym whole)
    (held_joined S b m e old more.items h
    (of_ok c.args.back more (λ (v : Vec GapPair Global). AreHeldIn S m e v.items) (OrNoMemory (IsSideFaultIn S m e))
    c.in_ok-more.was k))
