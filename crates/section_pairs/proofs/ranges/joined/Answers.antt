use Rattle.std.proofs.Common.{Vec}
use Rattle.std.specs.Global.{Global}
use Rattle.section_pairs.specs.declared.gap_pairs.GapPair.{GapPair}
use Rattle.section_pairs.specs.Ranges.{AreHeldIn, IsSideFaultIn}
use Rattle.section_pairs.specs.SectionFaults.{OrNoMemory}
use Rattle.section_pairs.proofs.FoundCases.{of_ok, of_err}
use Rattle.section_pairs.proofs.ranges.joined.Goals as goal

pub returns-in-Ok : goal.returns-in-Ok
returns-in-Ok c = λ S b m e h k.
    c.pairs_before.ensures S b m e (of_ok c.args.front c.in-Ok.pairs
    (λ (v : Vec GapPair Global). AreHeldIn S b m v.items) (OrNoMemory (IsSideFaultIn S b m)) c.in-Ok.is h) k

pub returns-in-Err : goal.returns-in-Err
returns-in-Err c = λ S b m e h k.
    c.fault_before.ensures S b m e (of_err c.args.front c.in-Err.fault
    (λ (v : Vec GapPair Global). AreHeldIn S b m v.items) (OrNoMemory (IsSideFaultIn S b m)) c.in-Err.is h) k
