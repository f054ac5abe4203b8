use Rattle.std.proofs.Common.{◌≡◌, ℤ, to_z, of_z, to_z-of_z, rules, SFits, w32}
use Rattle.plane_geom.proofs.Tests.{both, at_most_test}
use Rattle.correspondence.proofs.bounds.Bounds.meet.Goals as goal

passed : (x : ℤ) → SFits w32 x → to_z w32 (of_z w32 x) ≡ x
passed x f = to_z-of_z f

pub returns : goal.returns
returns c =
    let a = c.args.self in
    let b = c.args.other in
    let left = at_most_test _ _ a.min_x b.max_x (passed a.min_x (search rules)) (passed b.max_x (search rules)) in
    let right = at_most_test _ _ b.min_x a.max_x (passed b.min_x (search rules)) (passed a.max_x (search rules)) in
    let bottom = at_most_test _ _ a.min_y b.max_y (passed a.min_y (search rules)) (passed b.max_y (search rules)) in
    let top = at_most_test _ _ b.min_y a.max_y (passed b.min_y (search rules)) (passed a.max_y (search rules)) in
    let all = both _ _ _ _ (both _ _ _ _ left right) (both _ _ _ _ bottom top) in (
      λ t. let w = all.0 t in record { left = w.0.0; right = w.0.1; bottom = w.1.0; top = w.1.1 },
      λ w. all.1 ((w.left, w.right), (w.bottom, w.top)),
    )
