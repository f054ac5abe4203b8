use Rattle.correspondence.proofs.Beside.{beside_outside}
use Rattle.correspondence.proofs.Enclosed.{bounds_meet}
use Rattle.correspondence.proofs.Levels.{not_met, parted, part_beside}
use Rattle.correspondence.proofs.bounds.Bounds.lie_apart.Goals as goal

pub returns-clause-touch : goal.returns-clause-touch
returns-clause-touch c t one next e f w =
    not_met c.args.self c.args.other (c.levels_part.ensures t) (bounds_meet c.args.self c.args.other one next e f w)

pub returns-clause-inside : goal.returns-clause-inside
returns-clause-inside c t p ring w e i =
    beside_outside c.args.other p ring e (part_beside c.args.self c.args.other p (c.levels_part.ensures t) w) i

pub returns-clause-other_inside : goal.returns-clause-other_inside
returns-clause-other_inside c t p ring w e i =
    beside_outside c.args.self p ring e
    (part_beside c.args.other c.args.self p (parted c.args.self c.args.other (c.levels_part.ensures t)) w) i
