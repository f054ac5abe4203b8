-- A scaled coordinate as a difference and as a mixture, and the sides of the ends of two segments as cross products.
use Rattle.std.proofs.Common.{◌≡◌, ℕ, ◌+◌, ◌*◌, ℤ, pos, neg_ℤ, ◌+ℤ◌, ◌-ℤ◌, ◌*ℤ◌, arith, ap, ap₂, ◌∙◌}
use Rattle.std.proofs.lemmas.Int.{ints}
use borrow.Author.Differences.{up, down}
use Rattle.fku_types.specs.declared.points.Point.{Point}
use Rattle.plane_geom.specs.Planes.{cross_product, side}
use Rattle.plane_geom.specs.Segments.{scaled}
use Rattle.plane_geom.proofs.Vectors.{neg-mul, mul-comm, mul-add, mul-sub}

-- ---- a scaled coordinate as a difference and as a mixture
pub difference_of : (s t e : ℕ) (a b c d : ℤ) → scaled e s a b ≡ scaled e t c d
    → pos s *ℤ (b -ℤ a) ≡ (pos e *ℤ (c -ℤ a)) +ℤ (pos t *ℤ (d -ℤ c))
difference_of s t e a b c d h = omega (arith, ints, mul-sub (pos e) c a)

pub scaled_of : (s t e : ℕ) (a b c d : ℤ) → pos s *ℤ (b -ℤ a) ≡ (pos e *ℤ (c -ℤ a)) +ℤ (pos t *ℤ (d -ℤ c))
    → scaled e s a b ≡ scaled e t c d
scaled_of s t e a b c d h = omega (arith, ints, mul-sub (pos e) c a)

pub mixture : (s f e : ℕ) (a b : ℤ) → e ≡ f + s → scaled e s a b ≡ (pos f *ℤ a) +ℤ (pos s *ℤ b)
mixture s f e a b h = omega (arith, ints, mul-sub (pos s) b a, ap (λ n. n * up a) h, ap (λ n. n * down a) h)

-- ---- the four sides
pub over_sum : (ux uy vx vy wx wy : ℤ)
    → cross_product ux uy (wx +ℤ vx) (wy +ℤ vy) ≡ cross_product ux uy wx wy +ℤ cross_product ux uy vx vy
over_sum ux uy vx vy wx wy = omega (arith, ints, mul-add ux wy vy, mul-add uy wx vx)

-- the sides of d, a and b by those of the vectors
pub side_d : (a b c d : Point) → side a b d
    ≡ side a b c +ℤ cross_product (b.x -ℤ a.x) (b.y -ℤ a.y) (d.x -ℤ c.x) (d.y -ℤ c.y)
side_d a b c d =
    let ex : d.x -ℤ a.x ≡ (c.x -ℤ a.x) +ℤ (d.x -ℤ c.x) = omega (arith, ints) in
    let ey : d.y -ℤ a.y ≡ (c.y -ℤ a.y) +ℤ (d.y -ℤ c.y) = omega (arith, ints) in
    ap₂ (λ (x y : ℤ). cross_product (b.x -ℤ a.x) (b.y -ℤ a.y) x y) ex ey
    ∙ over_sum (b.x -ℤ a.x) (b.y -ℤ a.y) (d.x -ℤ c.x) (d.y -ℤ c.y) (c.x -ℤ a.x) (c.y -ℤ a.y)

pub cross_flip : (vx vy wx wy : ℤ) → cross_product vx vy (neg_ℤ wx) (neg_ℤ wy) ≡ cross_product wx wy vx vy
cross_flip vx vy wx wy = omega (
  arith,
  ints,
  neg-mul wy vx,
  neg-mul wx vy,
  mul-comm vx (neg_ℤ wy),
  mul-comm vy (neg_ℤ wx),
  mul-comm wx vy,
  mul-comm wy vx,
)

pub side_a : (a c d : Point) → side c d a ≡ cross_product (c.x -ℤ a.x) (c.y -ℤ a.y) (d.x -ℤ c.x) (d.y -ℤ c.y)
side_a a c d =
    let ex : a.x -ℤ c.x ≡ neg_ℤ (c.x -ℤ a.x) = omega (arith, ints) in
    let ey : a.y -ℤ c.y ≡ neg_ℤ (c.y -ℤ a.y) = omega (arith, ints) in
    ap₂ (λ (x y : ℤ). cross_product (d.x -ℤ c.x) (d.y -ℤ c.y) x y) ex ey
    ∙ cross_flip (d.x -ℤ c.x) (d.y -ℤ c.y) (c.x -ℤ a.x) (c.y -ℤ a.y)

pub cross_turn : (ux uy vx vy : ℤ) → cross_product vx vy ux uy ≡ neg_ℤ (cross_product ux uy vx vy)
cross_turn ux uy vx vy = omega (arith, ints, mul-comm vx uy, mul-comm vy ux)

pub side_b : (a b c d : Point) → side c d b +ℤ cross_product (b.x -ℤ a.x) (b.y -ℤ a.y) (d.x -ℤ c.x) (d.y -ℤ c.y)
    ≡ side c d a
side_b a b c d =
    let ex : b.x -ℤ c.x ≡ (a.x -ℤ c.x) +ℤ (b.x -ℤ a.x) = omega (arith, ints) in
    let ey : b.y -ℤ c.y ≡ (a.y -ℤ c.y) +ℤ (b.y -ℤ a.y) = omega (arith, ints) in
    let e : side c d b ≡ side c d a +ℤ cross_product (d.x -ℤ c.x) (d.y -ℤ c.y) (b.x -ℤ a.x) (b.y -ℤ a.y) =
    ap₂ (λ (x y : ℤ). cross_product (d.x -ℤ c.x) (d.y -ℤ c.y) x y) ex ey
    ∙ over_sum (d.x -ℤ c.x) (d.y -ℤ c.y) (b.x -ℤ a.x) (b.y -ℤ a.y) (a.x -ℤ c.x) (a.y -ℤ c.y) in
    let t : cross_product (d.x -ℤ c.x) (d.y -ℤ c.y) (b.x -ℤ a.x) (b.y -ℤ a.y)
    ≡ neg_ℤ (cross_product (b.x -ℤ a.x) (b.y -ℤ a.y) (d.x -ℤ c.x) (d.y -ℤ c.y)) =
    cross_turn (b.x -ℤ a.x) (b.y -ℤ a.y) (d.x -ℤ c.x) (d.y -ℤ c.y) in
    omega (arith, ints)
