use Rattle.std.proofs.Common.{arith, T, ◌≡◌, ℤ, ◌*◌, ◌*ℤ◌, ◌≤◌, pos, unsigned_abs, ap, sym, subst, mul-le-mul, ◌∙◌, to_z, of_z, to_z-of_z, Fits, SFits}
use Rattle.std.specs.Int.{w128}
use Rattle.std.specs.Int.Signed.{non_neg}
use Rattle.std.proofs.Math.IntN.{pos-*ℤ-pos, negsuc-*ℤ-negsuc}
use Rattle.std.proofs.lemmas.Int.{ints}
use Rattle.fku_types.specs.Points.{square}
use Rattle.strip_graph.proofs.EdgeLaws.{passed_side}
use Rattle.plane_geom.proofs.Signed.{squared}
use Rattle.strip_graph.proofs.areas.square.Goals as goal

-- a square of at most that of 16 * 10 ^ 12 fits
fits : (x : ℤ) → unsigned_abs x ≤ 16000000000000
    → to_z w128 (of_z w128 (to_z w128 (of_z w128 x) *ℤ to_z w128 (of_z w128 x))) ≡ pos (unsigned_abs x * unsigned_abs x)
fits x h =
    let small : SFits w128 x = omega (arith, ints) in
    let whole : SFits w128 (pos (unsigned_abs x * unsigned_abs x)) = omega (arith, ints, mul-le-mul h h) in
    ap (λ (y : ℤ). to_z w128 (of_z w128 (y *ℤ y))) (to_z-of_z small)
    ∙ ap (λ (y : ℤ). to_z w128 (of_z w128 y)) (squared x) ∙ to_z-of_z whole

pub overflow_cast-result : goal.overflow_cast-result
overflow_cast-result c =
    let e = c.from-wide.ensures ∙ passed_side c.args.size c.requires in
    let h : unsigned_abs c.from-wide.result ≤ 16000000000000 = omega (arith, ap unsigned_abs e, c.requires) in
    let few : Fits w128 (unsigned_abs c.from-wide.result * unsigned_abs c.from-wide.result) =
    omega (arith, mul-le-mul h h) in
    subst (λ z. T (non_neg z) × Fits w128 (unsigned_abs z)) (sym (fits c.from-wide.result h)) (tt, few)

pub returns-clause-value : goal.returns-clause-value
unfolding square
returns-clause-value c =
    let e = c.from-wide.ensures ∙ passed_side c.args.size c.requires in
    let h : unsigned_abs c.from-wide.result ≤ 16000000000000 = omega (arith, ap unsigned_abs e, c.requires) in
    ap unsigned_abs (fits c.from-wide.result h) ∙ ap square e

pub returns-clause-range : goal.returns-clause-range
returns-clause-range c =
    let e = c.from-wide.ensures ∙ passed_side c.args.size c.requires in
    let h : unsigned_abs c.from-wide.result ≤ 16000000000000 = omega (arith, ap unsigned_abs e, c.requires) in
    omega (arith, ap unsigned_abs (fits c.from-wide.result h), mul-le-mul h h)
