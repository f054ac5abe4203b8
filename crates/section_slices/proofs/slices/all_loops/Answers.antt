use Rattle.std.proofs.Common.{arith, ℕ, List, ◌∙◌, Bor, length, sym, ap, ap₂}
use Rattle.std.proofs.lemmas.List.{length-map}
use Rattle.strip_graph.specs.declared.tilings.Step.{Step}
use Rattle.strip_graph.specs.Strips.{Strip}
use Rattle.strip_graph.specs.Slices.{slice_loop}
use Rattle.pair_pool.specs.Solvers.{referents}
use Rattle.pair_pool.proofs.Referents.{referent_at}
use Rattle.section_slices.specs.Slices.{loops_at}
use Rattle.section_slices.proofs.GapPairs.{points_of, row_there, loops_step, loops_end}
use Rattle.section_slices.proofs.LoopReads.{length-loops_at}
use Rattle.section_slices.proofs.slices.all_loops.Goals as goal

pub slice_points-requires-clause-row : goal.slice_points-requires-clause-row
slice_points-requires-clause-row c =
    let there = row_there (referents c.args.pairs.now) c.args.solved.now c.requires.solved c.loop-place.place
    c.index-pairs-place.result.now c.index-solved-place.result
    (omega (arith, c.loop-place-test.true, length-map c.args.pairs.now (λ (q : Bor Strip). q.now)))
    (sym (referent_at c.args.pairs.now c.loop-place.place c.index-pairs-place.result _ c.loop-place-test.true
    c.index-pairs-place.is)) c.index-solved-place.is in
    omega (arith, there, c.tiling-tiling.ensures.row)

pub loop-place-preserved : goal.loop-place-preserved
loop-place-preserved c =
    let ps = referents c.args.pairs.now in
    let xs = c.args.solved.now in
    let b = c.index-pairs-place.result in
    let x = c.index-solved-place.result in
    let count = length-map c.args.pairs.now (λ (q : Bor Strip). q.now) in
    loops_step c.args.den c.args.part ps xs c.loop-place.place b.now x c.in_ok-slice_points.field-0
    c.loop-place.loops.items c.push.new.self.items (loops_at c.args.den c.args.part ps xs)
    (omega (arith, c.loop-place-test.true, count))
    (omega (arith, c.loop-place-test.true, count, c.requires.solved.count))
    (sym (referent_at c.args.pairs.now c.loop-place.place b b.now c.loop-place-test.true c.index-pairs-place.is))
    c.index-solved-place.is
    (c.in_ok-slice_points.ensures.points
    ∙ ap₂ (λ (r : ℕ) (w : List Step). slice_loop b.now c.args.den c.args.part r 0 w) c.tiling-tiling.ensures.row
    c.tiling-tiling.ensures.word)
    c.in_ok-push.ensures.items c.loop-place.invariant

pub returns-clause-one_a_pair : goal.returns-clause-one_a_pair
returns-clause-one_a_pair c =
    let made = loops_end c.args.den c.args.part (referents c.args.pairs.now) c.args.solved.now c.loop-place.place
    (points_of c.loop-place.loops.items)
    (loops_at c.args.den c.args.part (referents c.args.pairs.now) c.args.solved.now)
    (omega (arith, c.loop-place-test.false, length-map c.args.pairs.now (λ (q : Bor Strip). q.now)))
    c.loop-place.invariant in
    sym (length-map c.loop-place.loops.items (λ l. l.items)) ∙ ap length made
    ∙ length-loops_at c.args.den c.args.part (referents c.args.pairs.now) c.args.solved.now c.requires.solved.count
    ∙ length-map c.args.pairs.now (λ (q : Bor Strip). q.now)
