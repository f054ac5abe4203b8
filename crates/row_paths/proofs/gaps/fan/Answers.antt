use Rattle.std.proofs.Common.{arith, refl, ◌≤◌, get_or}
use Rattle.strip_graph.specs.Strips.{arcs, rows, cols}
use Rattle.row_paths.specs.Searches.{bound_at, last_at}
use Rattle.row_paths.proofs.GapLaws.{enters_between, part_within}
use Rattle.row_paths.proofs.gaps.fan.Given as given
use Rattle.row_paths.proofs.gaps.fan.Goals as goal
use Rattle.row_paths.proofs.gaps.fan.Goals.{In-Some}

-- the first word enters the shared row between the bounds
enters : (g : given.Over) (c : In-Some g)
    → (bound_at c.args.gap.now.lo.now c.in-Some.row ≤ get_or c.args.gap.now.hi.now c.in-Some.row 0)
    × (get_or c.args.gap.now.hi.now c.in-Some.row 0 ≤ last_at c.args.gap.now.hi.now c.in-Some.row)
enters g c =
    enters_between (arcs c.args.strip.now) (rows c.args.strip.now) (cols c.args.strip.now) c.args.gap.now.first
    c.args.gap.now.last c.in-Some.row c.args.gap.now.lo.now c.args.gap.now.hi.now (omega (arith, c.requires.gap.order))
    (omega (arith, c.in-Some.ensures.to, c.requires.gap.hi, c.requires.gap.order, c.requires.gap.last))
    c.requires.gap.from c.requires.gap.to

pub fill_place-requires-clause-left : goal.fill_place-requires-clause-left
fill_place-requires-clause-left g c = (enters g (goal.at.fill_place-requires-clause-left g c).In-Some).0

pub fill_place-requires-clause-right : goal.fill_place-requires-clause-right
fill_place-requires-clause-right g c = (enters g (goal.at.fill_place-requires-clause-right g c).In-Some).1

pub fill_place-requires-clause-gap : goal.fill_place-requires-clause-gap
fill_place-requires-clause-gap g c =
    part_within c.args.strip.now c.args.gap.now c.args.gap.now c.requires.gap refl refl (omega arith)
    c.requires.gap.order (omega arith)
