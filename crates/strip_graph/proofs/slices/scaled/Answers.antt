use Rattle.std.proofs.Common.{arith, ◌≤◌, ◌≡◌, ℕ, ℤ, pos, ◌*ℤ◌, ◌+ℤ◌, ◌-ℤ◌, unsigned_abs, to_z, of_z, to_z-of_z, SFits, ap, ap₂, ◌∙◌}
use mir.Syntax.{w64}
use Rattle.std.proofs.lemmas.Int.{ints}
use Rattle.fku_types.specs.Points.{IsCoordinate}
use Rattle.strip_graph.proofs.Betweens.{within_between}
use Rattle.strip_graph.proofs.slices.scaled.Goals as goal

-- the sum fits
sum : (x y a b : ℤ) → unsigned_abs x ≤ 4000000000000 → unsigned_abs y ≤ 4000000000000 → x ≡ a → y ≡ b
    → to_z w64 (of_z w64 (to_z w64 (of_z w64 x) +ℤ to_z w64 (of_z w64 y))) ≡ a +ℤ b
sum x y a b p q e f =
    let g : SFits w64 x = omega (arith, ints) in
    let h : SFits w64 y = omega (arith, ints) in
    let k : SFits w64 (x +ℤ y) = omega (arith, ints) in
    ap₂ (λ (u v : ℤ). to_z w64 (of_z w64 (u +ℤ v))) (to_z-of_z g) (to_z-of_z h) ∙ to_z-of_z k
    ∙ ap₂ (λ (u v : ℤ). u +ℤ v) e f

-- the factors fit
factors : (p u v a b : ℤ) → p ≡ to_z w64 (of_z w64 u) *ℤ to_z w64 (of_z w64 v) → u ≡ a → v ≡ b → SFits w64 a
    → SFits w64 b → p ≡ a *ℤ b
factors p u v a b e f g h k = e ∙ ap₂ (λ (x y : ℤ). x *ℤ y) (ap (λ (x : ℤ). to_z w64 (of_z w64 x)) f ∙ to_z-of_z h)
    (ap (λ (x : ℤ). to_z w64 (of_z w64 x)) g ∙ to_z-of_z k)

difference : (u v a b : ℤ) → u ≡ a → v ≡ b → SFits w64 a → SFits w64 b
    → to_z w64 (of_z w64 u) -ℤ to_z w64 (of_z w64 v) ≡ a -ℤ b
difference u v a b e f h k = ap₂ (λ (x y : ℤ). x -ℤ y) (ap (λ (x : ℤ). to_z w64 (of_z w64 x)) e ∙ to_z-of_z h)
    (ap (λ (x : ℤ). to_z w64 (of_z w64 x)) f ∙ to_z-of_z k)

number_fits : (n : ℕ) → n ≤ 1999998 → SFits w64 (pos n)
number_fits n h = omega (arith, ints)

fits : (a : ℤ) → IsCoordinate a → SFits w64 a
fits a h = omega (arith, ints)

difference_fits : (a b : ℤ) → IsCoordinate a → IsCoordinate b → SFits w64 (a -ℤ b)
difference_fits a b h k = omega (arith, ints)

pub returns-clause-value : goal.returns-clause-value
returns-clause-value c =
    let from = c.args.from in
    let to = c.args.to in
    let read_from : c.from-from.result ≡ from = c.from-from.ensures ∙ to_z-of_z c.ranges.from in
    let read_to : c.from-to.result ≡ to = c.from-to.ensures ∙ to_z-of_z c.ranges.to in
    let first = factors c.product.result c.from.result c.from-from.result (pos c.args.den) from c.product.ensures.value
    c.from.ensures read_from (number_fits c.args.den c.requires.den) (fits from c.requires.from) in
    let apart = difference c.from-to.result c.from-from.result to from read_to read_from (fits to c.requires.to)
    (fits from c.requires.from) in
    let second = factors c.product-2.result c.from-2.result
    (to_z w64 (of_z w64 c.from-to.result) -ℤ to_z w64 (of_z w64 c.from-from.result)) (pos c.args.part) (to -ℤ from)
    c.product-2.ensures.value c.from-2.ensures apart
    (number_fits c.args.part (omega (arith, c.requires.part, c.requires.den)))
    (difference_fits to from c.requires.to c.requires.from) in
    sum c.product.result c.product-2.result (pos c.args.den *ℤ from) (pos c.args.part *ℤ (to -ℤ from))
    c.product.ensures.range c.product-2.ensures.range first second

pub returns-clause-range : goal.returns-clause-range
returns-clause-range c = omega (
  arith,
  ap unsigned_abs (returns-clause-value c),
  within_between c.args.den c.args.part c.args.from c.args.to c.requires.part c.requires.from c.requires.to,
)
