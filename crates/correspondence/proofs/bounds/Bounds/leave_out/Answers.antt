use Rattle.std.proofs.Common.{◌≡◌, ◌↔◌, ℤ, ◌<ℤ◌, Bool, IsTrue, to_z, of_z, to_z-of_z, rules, SFits, w32, refl, arith}
use Rattle.std.proofs.lemmas.Int.{ints}
use Rattle.correspondence.proofs.Rules.{untrue}
use Rattle.correspondence.specs.Bounding.{left, right, below, above}
use Rattle.correspondence.proofs.bounds.Bounds.leave_out.Goals as goal

passed : (x : ℤ) → SFits w32 x → to_z w32 (of_z w32 x) ≡ x
passed x f = to_z-of_z f

less : (r : Bool) (a b l x y m : ℤ) → a ≡ x → b ≡ y → l ≡ m → IsTrue r ↔ ((a <ℤ l) × (b <ℤ l))
    → IsTrue r ↔ ((x <ℤ m) × (y <ℤ m))
less r a b l x y m e f g h = (
  λ t. let w = h.0 t in (omega (arith, ints, w.0, e, g), omega (arith, ints, w.1, f, g)),
  λ w. h.1 (omega (arith, ints, w.0, e, g), omega (arith, ints, w.1, f, g)),
)

more : (r : Bool) (a b l x y m : ℤ) → a ≡ x → b ≡ y → l ≡ m → IsTrue r ↔ ((l <ℤ a) × (l <ℤ b))
    → IsTrue r ↔ ((m <ℤ x) × (m <ℤ y))
more r a b l x y m e f g h = (
  λ t. let w = h.0 t in (omega (arith, ints, w.0, e, g), omega (arith, ints, w.1, f, g)),
  λ w. h.1 (omega (arith, ints, w.0, e, g), omega (arith, ints, w.1, f, g)),
)

pub returns-then-are_more : goal.returns-then-are_more
returns-then-are_more c =
    let b = c.args.self in
    let p = c.args.a in
    let q = c.args.b in
    let beyond = more c.are_more.result _ _ _ p.x q.x b.max_x (passed p.x (search rules)) (passed q.x (search rules))
    (passed b.max_x (search rules)) c.are_more.ensures in
    let w = beyond.0 c.if-are_more.true in
    (λ _. right w.0 w.1, λ _. refl)

pub returns-then-are_less-2 : goal.returns-then-are_less-2
returns-then-are_less-2 c =
    let b = c.args.self in
    let p = c.args.a in
    let q = c.args.b in
    let beyond = less c.are_less-2.result _ _ _ p.y q.y b.min_y (passed p.y (search rules)) (passed q.y (search rules))
    (passed b.min_y (search rules)) c.are_less-2.ensures in
    let w = beyond.0 c.if-are_less-2.true in
    (λ _. below w.0 w.1, λ _. refl)

pub returns : goal.returns
returns c =
    let b = c.args.self in
    let p = c.args.a in
    let q = c.args.b in
    let lefts = less c.are_less.result _ _ _ p.x q.x b.min_x (passed p.x (search rules)) (passed q.x (search rules))
    (passed b.min_x (search rules)) c.are_less.ensures in
    let rights = more c.are_more.result _ _ _ p.x q.x b.max_x (passed p.x (search rules)) (passed q.x (search rules))
    (passed b.max_x (search rules)) c.are_more.ensures in
    let belows = less c.are_less-2.result _ _ _ p.y q.y b.min_y (passed p.y (search rules)) (passed q.y (search rules))
    (passed b.min_y (search rules)) c.are_less-2.ensures in
    let aboves = more c.are_more-2.result _ _ _ p.y q.y b.max_y (passed p.y (search rules)) (passed q.y (search rules))
    (passed b.max_y (search rules)) c.are_more-2.ensures in (
      λ t. let w = aboves.0 t in above w.0 w.1,
      λ h. elim h [
        | left m n ↦ absurd (untrue c.are_less.result c.if-are_less.false (lefts.1 (m, n)))
        | right m n ↦ absurd (untrue c.are_more.result c.if-are_more.false (rights.1 (m, n)))
        | below m n ↦ absurd (untrue c.are_less-2.result c.if-are_less-2.false (belows.1 (m, n)))
        | above m n ↦ aboves.1 (m, n)
      ],
    )
