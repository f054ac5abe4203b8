use Rattle.std.proofs.Common.{◌++◌, ◌∙◌, List, Vec, ap}
use Rattle.std.specs.Global.{Global}
use Rattle.strip_graph.specs.declared.slices.Cut.{Cut}
use Rattle.surface_commands.specs.Slice.{loop_text}
use Rattle.fku_types.proofs.LoopSteps.{put_next, put_all}
use Rattle.surface_commands.proofs.slices.put_loops.Goals as goal

pub loop-cuts-preserved : goal.loop-cuts-preserved
loop-cuts-preserved c =
    put_next (λ (v : Vec Cut Global). loop_text v.items) c.args.loops.now c.loop-cuts.cuts-index c.cuts-item.result
    c.args.out.now.items c.loop-cuts.out.items c.put_loop.new.out.items c.loop-cuts-test.true c.cuts-item.is
    c.loop-cuts.invariant
    (c.in_ok-put_loop.ensures ∙ ap (λ (xs : List Cut). c.loop-cuts.out.items ++ loop_text xs) c.deref.ensures.value)

pub returns : goal.returns
returns c = put_all (λ (v : Vec Cut Global). loop_text v.items) c.args.loops.now c.loop-cuts.cuts-index _ _
    c.loop-cuts-test.false c.loop-cuts.invariant
