use Rattle.std.proofs.Common.{rules, arith, ◌≡◌, ℕ, ◌+◌, ◌/◌, map, ap, get_or}
use Rattle.strip_graph.specs.Strips.{arcs, rows, cols}
use Rattle.row_paths.specs.Turns.{end_of, cost_of}
use Rattle.row_paths.proofs.AmountLaws.{read_is}
use Rattle.row_paths.proofs.OffsetLaws.{cost_small}
use Rattle.row_paths.proofs.TurnLaws.{costs_more}
use Rattle.row_paths.proofs.gaps.push_turns.Given as given
use Rattle.row_paths.proofs.gaps.push_turns.Goals as goal
use Rattle.row_paths.proofs.gaps.push_turns.Goals.{After-wide-in-loop-turn}

-- the cost of a turn is read from both tables
sum : (g : given.Over) (c : After-wide-in-loop-turn g)
    → c.wide.result + c.wide-in-loop-turn.result
    ≡ cost_of (arcs c.args.strip.now) (rows c.args.strip.now) (cols c.args.strip.now) c.loop-turn.turn
sum g c =
    let value = g.C.Sum.Amount.value in
    let p = c.args.strip.now in
    let q = c.loop-turn.turn in
    let m' : c.rows-rows.result ≡ rows p = search rules in
    let e : (q + 1) / 2 + c.rows-rows.result ≡ end_of (rows p) q = omega (arith, m') in
    let start = read_is value c.args.starts.now (q / 2) c.index-starts-turn.result c.index-starts-turn.is
    (omega (arith, c.requires.starts, c.requires.gap.last, c.loop-turn-test.true)) in
    let end = read_is value c.args.ends.now ((q + 1) / 2 + c.rows-rows.result) c.index-ends-turn.result
    c.index-ends-turn.is (omega (arith, m', c.requires.ends, c.requires.gap.last, c.loop-turn-test.true)) in
    omega (
      arith,
      start,
      end,
      c.wide.ensures,
      c.wide-in-loop-turn.ensures,
      c.requires.turns q (omega (arith, c.loop-turn.auto.turn, c.loop-turn-test.true, c.requires.gap.order))
          c.loop-turn-test.true,
      ap (λ (k : ℕ). get_or (map value c.args.ends.now) k 0) e,
    )

pub overflow_add-wide : goal.overflow_add-wide
overflow_add-wide g c =
    omega (
      arith,
      sum g (goal.at.overflow_add-wide g c).After-wide-in-loop-turn,
      cost_small c.args.strip.now c.loop-turn.turn c.rows-rows.ensures.strip,
    )

pub loop-turn-preserved : goal.loop-turn-preserved
loop-turn-preserved g c =
    let p = c.args.strip.now in
    costs_more (arcs p) (rows p) (cols p) c.loop-turn.turn (c.wide.result + c.wide-in-loop-turn.result)
    c.loop-turn.costs.items c.push.new.self.items c.in_ok-push.ensures.items
    (sum g (goal.at.loop-turn-preserved g c).After-wide-in-loop-turn) c.loop-turn.invariant
