use Rattle.std.proofs.Common.{pos, ◌≤ℤ◌, arith}
use Rattle.std.proofs.lemmas.Int.{ints}
use Rattle.strip_graph.specs.Strips.{arcs}
use Rattle.strip_graph.specs.Words.{word_cost}
use Rattle.round_sweeps.proofs.CountedLaws.{chosen_counted, cost_counted}
use Rattle.round_sweeps.proofs.tile_choices.counted_whole.Goals as goal
use Rattle.round_sweeps.proofs.tile_choices.counted_whole.Goals.{Else-tiling_cost-from}

-- the tiling costs no more than what is counted
low : (c : Else-tiling_cost-from)
    → pos (word_cost (arcs c.args.pair.now) c.args.choice.row 0 c.args.choice.word.items) ≤ℤ c.args.choice.cost
low c = omega (arith, ints, c.if-tiling_cost-from.false, c.from.ensures, c.tiling_cost.ensures, c.requires.costs)

pub returns-clause-chosen : goal.returns-clause-chosen
returns-clause-chosen c =
    let t = c.args.choice in
    chosen_counted c.args.pair.now t.row t.word.items t.cost c.requires
    (low (goal.at.returns-clause-chosen c).Else-tiling_cost-from)

pub returns-clause-cost : goal.returns-clause-cost
returns-clause-cost c =
    let t = c.args.choice in
    let le = low (goal.at.returns-clause-cost c).Else-tiling_cost-from in
    omega (arith, ints, cost_counted c.args.pair.now t.row t.word.items t.cost c.requires le, le, c.requires.costs)
