-- Determinants: what they are as seen from another point.
use Rattle.std.proofs.Common.{◌≡◌, ℤ, pos, ◌+ℤ◌, ◌-ℤ◌, ◌*ℤ◌, sym, ap, ap₂, ◌∙◌, arith}
use Rattle.std.proofs.lemmas.Int.{ints}
use Rattle.fku_types.specs.declared.points.Point.{Point}
use Rattle.plane_geom.specs.Planes.{cross_product}
use Rattle.plane_geom.proofs.Vectors.{sub-mul, mul-sub, mul-comm, mul-assoc}
use Rattle.triangle_meshes.specs.Volumes.{seen_from, determinant}
use Rattle.ring_polygons.proofs.SignedSums.{Turns}

-- the factors of a product of three, each moved by one place
pub three_turned : (a b c : ℤ) → a *ℤ (b *ℤ c) ≡ b *ℤ (c *ℤ a)
three_turned a b c = mul-comm a (b *ℤ c) ∙ sym (mul-assoc b c a)

-- the determinant by its first point
first_from : (o p q r : Point) → determinant (seen_from o p) q r ≡ determinant p q r -ℤ determinant o q r
first_from o p q r =
    omega (
      arith,
      ints,
      sub-mul p.x o.x (cross_product q.y q.z r.y r.z),
      sub-mul p.y o.y (cross_product q.z q.x r.z r.x),
      sub-mul p.z o.z (cross_product q.x q.y r.x r.y),
    )

-- the points moved by one place
pub moved_on : (p q r : Point) → determinant p q r ≡ determinant q r p
moved_on p q r =
    omega (
      arith,
      ints,
      mul-sub p.x (q.y *ℤ r.z) (q.z *ℤ r.y),
      mul-sub p.y (q.z *ℤ r.x) (q.x *ℤ r.z),
      mul-sub p.z (q.x *ℤ r.y) (q.y *ℤ r.x),
      mul-sub q.x (r.y *ℤ p.z) (r.z *ℤ p.y),
      mul-sub q.y (r.z *ℤ p.x) (r.x *ℤ p.z),
      mul-sub q.z (r.x *ℤ p.y) (r.y *ℤ p.x),
      three_turned p.x q.y r.z,
      three_turned p.x q.z r.y,
      three_turned p.y q.z r.x,
      three_turned p.y q.x r.z,
      three_turned p.z q.x r.y,
      three_turned p.z q.y r.x,
    )

-- two equal points
pub same_two : (p q : Point) → determinant p q q ≡ pos 0
same_two p q =
    omega (
      arith,
      ints,
      mul-sub p.x (q.y *ℤ q.z) (q.z *ℤ q.y),
      mul-sub p.y (q.z *ℤ q.x) (q.x *ℤ q.z),
      mul-sub p.z (q.x *ℤ q.y) (q.y *ℤ q.x),
      ap (λ (k : ℤ). p.x *ℤ k) (mul-comm q.y q.z),
      ap (λ (k : ℤ). p.y *ℤ k) (mul-comm q.z q.x),
      ap (λ (k : ℤ). p.z *ℤ k) (mul-comm q.x q.y),
    )

-- the last two points exchanged
pub determinant-turns : (o : Point) → Turns (determinant o)
determinant-turns o a b =
    omega (
      arith,
      ints,
      mul-sub o.x (a.y *ℤ b.z) (a.z *ℤ b.y),
      mul-sub o.y (a.z *ℤ b.x) (a.x *ℤ b.z),
      mul-sub o.z (a.x *ℤ b.y) (a.y *ℤ b.x),
      mul-sub o.x (b.y *ℤ a.z) (b.z *ℤ a.y),
      mul-sub o.y (b.z *ℤ a.x) (b.x *ℤ a.z),
      mul-sub o.z (b.x *ℤ a.y) (b.y *ℤ a.x),
      ap (λ (k : ℤ). o.x *ℤ k) (mul-comm b.y a.z),
      ap (λ (k : ℤ). o.x *ℤ k) (mul-comm b.z a.y),
      ap (λ (k : ℤ). o.y *ℤ k) (mul-comm b.z a.x),
      ap (λ (k : ℤ). o.y *ℤ k) (mul-comm b.x a.z),
      ap (λ (k : ℤ). o.z *ℤ k) (mul-comm b.x a.y),
      ap (λ (k : ℤ). o.z *ℤ k) (mul-comm b.y a.x),
    )

-- the determinant by its second and its third point
second_from : (o p q r : Point) → determinant p (seen_from o q) r ≡ determinant p q r -ℤ determinant p o r
second_from o p q r = moved_on p (seen_from o q) r ∙ first_from o q r p
    ∙ ap₂ ◌-ℤ◌ (sym (moved_on p q r)) (sym (moved_on p o r))

third_from : (o p q r : Point) → determinant p q (seen_from o r) ≡ determinant p q r -ℤ determinant p q o
third_from o p q r = moved_on p q (seen_from o r) ∙ second_from o q r p
    ∙ ap₂ ◌-ℤ◌ (sym (moved_on p q r)) (sym (moved_on p q o))

pub same_ends : (p q : Point) → determinant p q p ≡ pos 0
same_ends p q = moved_on p q p ∙ same_two q p

same_first : (p q : Point) → determinant p p q ≡ pos 0
same_first p q = moved_on p p q ∙ same_ends p q

less_three : (a b c d z : ℤ) → z ≡ pos 0 → (a -ℤ b) -ℤ (c -ℤ z) ≡ a -ℤ b -ℤ c
less_three a b c d z e = omega (arith, ints)

last_two_from : (o p q r : Point) → determinant p (seen_from o q) (seen_from o r)
    ≡ determinant p q r -ℤ determinant p q o -ℤ determinant p o r
last_two_from o p q r =
    second_from o p q (seen_from o r) ∙ ap₂ ◌-ℤ◌ (third_from o p q r) (third_from o p o r)
    ∙ less_three (determinant p q r) (determinant p q o) (determinant p o r) (pos 0) (determinant p o o) (same_two p o)

all_less : (whole t b c d e g x y a : ℤ) → whole ≡ (t -ℤ b -ℤ c) -ℤ (d -ℤ e -ℤ g) → e ≡ pos 0 → g ≡ pos 0 → x ≡ b
    → y ≡ c → whole +ℤ (x +ℤ (d +ℤ y)) ≡ t
all_less whole t b c d e g x y a h ez gz xb yc = omega (arith, ints)

-- all three points as seen from another: minus what the edges make with it
pub seen_sum : (o u v w : Point) → determinant (seen_from o u) (seen_from o v) (seen_from o w) +ℤ
    (determinant o u v +ℤ (determinant o v w +ℤ determinant o w u)) ≡ determinant u v w
seen_sum o u v w =
    all_less (determinant (seen_from o u) (seen_from o v) (seen_from o w)) (determinant u v w) (determinant u v o)
    (determinant u o w) (determinant o v w) (determinant o v o) (determinant o o w) (determinant o u v)
    (determinant o w u) (pos 0)
    (first_from o u (seen_from o v) (seen_from o w) ∙ ap₂ ◌-ℤ◌ (last_two_from o u v w) (last_two_from o o v w))
    (same_ends o v) (same_first o w) (moved_on o u v) (moved_on o w u ∙ moved_on w u o)
