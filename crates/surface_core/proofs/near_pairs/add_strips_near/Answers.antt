use Rattle.std.proofs.Common.{◌≡◌, ◌++◌, ℕ, List, OnOk, subst, arith}
use Rattle.surface_core.proofs.NearPairs.{near_strips, near_solved}
use Rattle.surface_core.proofs.StripSteps.{same_count}
use Rattle.surface_core.proofs.near_pairs.add_strips_near.Goals as goal

pub add_strips-requires : goal.add_strips-requires
add_strips-requires c = near_solved c.places-begin.result.0 c.places-begin.result.1 c.args.pairs.now c.args.solved.now
    c.requires.solved

pub returns : goal.returns
returns c =
    let here = c.places-begin.ensures in
    let same = near_strips c.args.gap c.places-begin.result.0 c.places-begin.result.1 c.args.pairs.now c.args.solved.now
    (same_count c.args.pairs.now c.args.solved.now c.requires.solved) here.order
    (λ k d l. omega (arith, here.before k d l, c.from.ensures))
    (λ k d m l. omega (arith, here.after k d m l, c.from-2.ensures)) in
    subst (λ (ts : List (List ℕ)). OnOk c.add_strips.result
    (c.add_strips.new.triangles.items ≡ c.args.triangles.now.items ++ ts)) same c.add_strips.ensures
