use Rattle.surface_commands.proofs.MeshLemmas.{measures_more}
use Rattle.surface_commands.proofs.measuring.measures_text.Goals as goal

pub loop-place-preserved : goal.loop-place-preserved
loop-place-preserved c =
    measures_more c.args.parts.now c.loop-place.place _ c.loop-place.text.items c.put_measures.new.out.items _
    c.loop-place-test.true c.in_ok-put_measures.ensures c.loop-place.invariant
