use Rattle.std.proofs.Common.{map, arith}
use Rattle.std.proofs.lemmas.List.{length-map}
use Rattle.correspondence.specs.Contours.{points_of}
use Rattle.ring_caps.proofs.Families.{level_at, level_count}
use Rattle.ring_caps.proofs.groups.level.Goals as goal

pub returns : goal.returns
returns c = level_at (map points_of c.args.contours.now) c.args.levels.now c.args.place c.requires.levels
    (omega (arith, c.requires.place, length-map c.args.contours.now points_of))

pub bounds-levels-place : goal.bounds-levels-place
bounds-levels-place c =
    let contours = c.args.contours.now in
    omega (
      arith,
      c.requires.place,
      level_count (map points_of contours) c.args.levels.now c.requires.levels,
      length-map contours points_of,
    )
