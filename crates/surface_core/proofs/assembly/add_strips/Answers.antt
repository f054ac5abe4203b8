use Rattle.std.proofs.Common.{arith, ◌++◌, List, ℕ, map}
use Rattle.section_pairs.specs.Pairs.{pair_parts}
use Rattle.surface_core.specs.Surfaces.{strip_triangles}
use Rattle.surface_core.proofs.StripSteps.{solves_at, same_count, strips_step, strips_end}
use Rattle.surface_core.proofs.assembly.add_strips.Goals as goal

pub add_strip-requires : goal.add_strip-requires
add_strip-requires c =
    solves_at c.args.pairs.now c.args.solved.now c.requires c.loop-place.place c.index-pairs-place.result
    c.index-solved-place.result c.loop-place-test.true c.index-pairs-place.is c.index-solved-place.is

pub loop-place-preserved : goal.loop-place-preserved
loop-place-preserved c =
    let ps = c.args.pairs.now in
    let xs = c.args.solved.now in
    let whole : List (List ℕ) = c.args.triangles.now.items ++ strip_triangles c.args.gap (map pair_parts ps) xs in
    strips_step c.args.gap ps xs c.loop-place.place c.index-pairs-place.result c.index-solved-place.result
    c.loop-place.triangles.items c.add_strip.new.triangles.items whole c.loop-place-test.true
    (omega (arith, same_count ps xs c.requires, c.loop-place-test.true)) c.index-pairs-place.is
    c.index-solved-place.is c.in_ok-add_strip.ensures.triangles c.loop-place.invariant

pub returns : goal.returns
returns c =
    let ps = c.args.pairs.now in
    let xs = c.args.solved.now in
    strips_end c.args.gap ps xs c.loop-place.place c.loop-place.triangles.items
    (c.args.triangles.now.items ++ strip_triangles c.args.gap (map pair_parts ps) xs)
    (omega (arith, c.loop-place-test.false)) c.loop-place.invariant
