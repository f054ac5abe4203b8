use Rattle.std.proofs.Common.{Vec, map, ◌∙◌, sym}
use Rattle.std.specs.Global.{Global}
use Rattle.std.proofs.lemmas.Bool.{false≢true}
use Rattle.section_pairs.specs.declared.gap_pairs.GapPair.{GapPair}
use Rattle.section_pairs.specs.Pairs.{pair_parts}
use Rattle.section_pairs.specs.Ranges.{AreHeldIn, IsSideFaultIn}
use Rattle.section_pairs.specs.SectionFaults.{OrNoMemory}
use Rattle.section_pairs.proofs.FoundCases.{of_ok, of_err}
use Rattle.section_pairs.proofs.RangeLaws.{told_left, told_first}
use Rattle.section_pairs.proofs.ranges.fault_before.Goals as goal

pub returns-in-Ok : goal.returns-in-Ok
returns-in-Ok c = λ S b m e h k.
    let found = c.in-Ok.field-0 in
    let held = of_ok c.args.back.now found (λ (v : Vec GapPair Global). AreHeldIn S m e v.items)
    (OrNoMemory (IsSideFaultIn S m e)) c.in-Ok.is k in
    told_left S b m e c.args.fault (map pair_parts found.items) h held.0

pub returns-else-wants_memory : goal.returns-else-wants_memory
returns-else-wants_memory c = λ S b m e h k.
    let other = c.in-Err.other in
    told_first S b m e c.args.fault other h
    (of_err c.args.back.now other (λ (v : Vec GapPair Global). AreHeldIn S m e v.items)
    (OrNoMemory (IsSideFaultIn S m e)) c.in-Err.is k)
    (λ q. false≢true (sym c.if-wants_memory.false ∙ c.wants_memory.ensures.no q))
