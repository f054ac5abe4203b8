use Rattle.std.proofs.Common.{arith, rules, w32, to_z-of_z}
use Rattle.std.proofs.lemmas.Int.{fits_signed_mul}
use Rattle.demo_stack.proofs.generator.drawn.Goals as goal

pub returns : goal.returns
returns c =
    let f = c.ranges.radius in let g = c.ranges.direction in
    let h = fits_signed_mul w32 c.args.radius c.args.direction 199 1000 c.requires.radius c.requires.direction
    (search (rules, arith)) in
    simp to_z-of_z
