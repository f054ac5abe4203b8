use Rattle.std.proofs.Common.{arith, ◌≡◌, ℕ, ◌+◌, ◌-◌, ◌*◌, ◌≤◌, subst}
use Rattle.strip_graph.specs.Strips.{arcs, rows, cols}
use Rattle.row_paths.specs.Turns.{AreCosts}
use Rattle.row_paths.proofs.TurnLaws.{costs_more}
use Rattle.row_paths.proofs.turns.turn_costs.Goals as goal

-- the bound pays what was left over
paid : (new spare old left r all : ℕ) → new + spare ≤ old + left + r → left + r ≤ all → new ≤ old + all
paid new spare old left r all count le = omega arith

next : (q m : ℕ) → q + 2 ≡ 2 * m → q + 1 ≡ 2 * m - 1
next q m e = omega arith

pub returns-in_err-between-clause-count : goal.returns-in_err-between-clause-count
returns-in_err-between-clause-count g c = paid _ _ _ _ _ _ c.between.ensures.count c.spare_readings-spare.ensures

pub returns-in_err-push-2-clause-count : goal.returns-in_err-push-2-clause-count
returns-in_err-push-2-clause-count g c = paid _ _ _ _ _ _ c.between.ensures.count c.spare_readings-spare.ensures

pub returns-clause-count : goal.returns-clause-count
returns-clause-count g c = paid _ _ _ _ _ _ c.between.ensures.count c.spare_readings-spare.ensures

pub returns-clause-costs : goal.returns-clause-costs
returns-clause-costs g c =
    let p = c.args.strip.now in
    let q = c.args.gap.now.last in
    subst (λ (k : ℕ). AreCosts (arcs p) (rows p) (cols p) k c.push-2.new.self.items) (next q (rows p) c.requires.to)
    (costs_more (arcs p) (rows p) (cols p) q c.args.last c.between.new.costs.items c.push-2.new.self.items
    c.in_ok-push-2.ensures.items c.requires.last c.in_ok-between.ensures.costs)
