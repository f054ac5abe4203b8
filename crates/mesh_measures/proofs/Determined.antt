-- Cramer's rule: four vectors of space depend on one another, through the determinants of three of them.
use Rattle.std.proofs.Common.{◌≡◌, ℤ, neg_ℤ, ◌+ℤ◌, ◌-ℤ◌, ◌*ℤ◌, sym, ap, ap₂, ◌∙◌, arith}
use Rattle.std.proofs.lemmas.Int.{ints}
use Rattle.fku_types.specs.declared.points.Point.{Point}
use Rattle.plane_geom.specs.Planes.{cross_product}
use Rattle.plane_geom.proofs.Vectors.{add-mul, sub-mul, mul-sub, mul-comm, ends, mul-neg}
use Rattle.triangle_meshes.specs.Volumes.{determinant}
use Rattle.triangle_meshes.proofs.Determinants.{three_turned}

-- the cross product of two vectors, ignoring x
abbrev pub plane : Point → Point → ℤ
plane p q = cross_product p.y p.z q.y q.z

-- a determinant, from the x of its points
pub by_x : (a b c : Point) → determinant a b c ≡ (a.x *ℤ plane b c) +ℤ (b.x *ℤ plane c a) +ℤ (c.x *ℤ plane a b)
by_x a b c =
    omega (
      arith,
      ints,
      mul-sub a.y (b.z *ℤ c.x) (b.x *ℤ c.z),
      mul-sub a.z (b.x *ℤ c.y) (b.y *ℤ c.x),
      mul-sub b.x (c.y *ℤ a.z) (c.z *ℤ a.y),
      mul-sub c.x (a.y *ℤ b.z) (a.z *ℤ b.y),
      three_turned c.x a.y b.z,
      three_turned a.y b.x c.z,
      three_turned a.z b.x c.y,
      three_turned c.x a.z b.y,
    )

plane_turns : (p q : Point) → plane p q ≡ neg_ℤ (plane q p)
plane_turns p q = omega (arith, ints, mul-comm p.y q.z, mul-comm p.z q.y)

plus_neg : (x y z : ℤ) → (x +ℤ neg_ℤ y) +ℤ z ≡ (x -ℤ y) +ℤ z
plus_neg x y z = omega (arith, ints)

-- the same with the middle one turned
by_x_turned : (u b c : Point) → determinant u b c ≡ ((u.x *ℤ plane b c) -ℤ (b.x *ℤ plane u c)) +ℤ (c.x *ℤ plane u b)
by_x_turned u b c =
    by_x u b c
    ∙ ap (λ (k : ℤ). ((u.x *ℤ plane b c) +ℤ k) +ℤ (c.x *ℤ plane u b))
    (ap (λ (k : ℤ). b.x *ℤ k) (plane_turns c u) ∙ mul-neg b.x (plane u c))
    ∙ plus_neg (u.x *ℤ plane b c) (b.x *ℤ plane u c) (c.x *ℤ plane u b)

sum-mul : (x y z w : ℤ) → ((x +ℤ y) +ℤ z) *ℤ w ≡ ((x *ℤ w) +ℤ (y *ℤ w)) +ℤ (z *ℤ w)
sum-mul x y z w = add-mul (x +ℤ y) z w ∙ ap (λ (k : ℤ). k +ℤ (z *ℤ w)) (add-mul x y w)

part-mul : (x y z w : ℤ) → ((x -ℤ y) +ℤ z) *ℤ w ≡ ((x *ℤ w) -ℤ (y *ℤ w)) +ℤ (z *ℤ w)
part-mul x y z w = add-mul (x -ℤ y) z w ∙ ap (λ (k : ℤ). k +ℤ (z *ℤ w)) (sub-mul x y w)

-- nine products, of which three cancel
nine : (t x y z a b c d e f g h i l m n : ℤ) → t ≡ (x +ℤ y) +ℤ z → l ≡ (a -ℤ b) +ℤ c → m ≡ (d -ℤ e) +ℤ f
    → n ≡ (g -ℤ h) +ℤ i → x ≡ a → y ≡ d → z ≡ g → b ≡ f → c ≡ h → e ≡ i → t ≡ (l +ℤ m) +ℤ n
nine t x y z a b c d e f g h i l m n p q r s j k o v w aa = omega (arith, ints)

numbers : (u a b c kab kbc kca kua kub kuc : ℤ) → (((a *ℤ kbc) +ℤ (b *ℤ kca)) +ℤ (c *ℤ kab)) *ℤ u
    ≡ (((((u *ℤ kbc) -ℤ (b *ℤ kuc)) +ℤ (c *ℤ kub)) *ℤ a) +ℤ ((((u *ℤ kca) -ℤ (c *ℤ kua)) +ℤ (a *ℤ kuc)) *ℤ b)) +ℤ
    ((((u *ℤ kab) -ℤ (a *ℤ kub)) +ℤ (b *ℤ kua)) *ℤ c)
numbers u a b c kab kbc kca kua kub kuc =
    nine _ ((a *ℤ kbc) *ℤ u) ((b *ℤ kca) *ℤ u) ((c *ℤ kab) *ℤ u)
    ((u *ℤ kbc) *ℤ a) ((b *ℤ kuc) *ℤ a) ((c *ℤ kub) *ℤ a)
    ((u *ℤ kca) *ℤ b) ((c *ℤ kua) *ℤ b) ((a *ℤ kuc) *ℤ b)
    ((u *ℤ kab) *ℤ c) ((a *ℤ kub) *ℤ c) ((b *ℤ kua) *ℤ c)
    _ _ _
    (sum-mul (a *ℤ kbc) (b *ℤ kca) (c *ℤ kab) u)
    (part-mul (u *ℤ kbc) (b *ℤ kuc) (c *ℤ kub) a)
    (part-mul (u *ℤ kca) (c *ℤ kua) (a *ℤ kuc) b)
    (part-mul (u *ℤ kab) (a *ℤ kub) (b *ℤ kua) c)
    (ends a kbc u) (ends b kca u) (ends c kab u) (ends b kuc a) (ends c kub a) (ends c kua b)

-- the x of a vector times the determinant of three others, from the determinants in which it replaces one of them
pub cramer : (u a b c : Point) → determinant a b c *ℤ u.x
    ≡ ((determinant u b c *ℤ a.x) +ℤ (determinant u c a *ℤ b.x)) +ℤ (determinant u a b *ℤ c.x)
cramer u a b c =
    ap (λ (k : ℤ). k *ℤ u.x) (by_x a b c)
    ∙ numbers u.x a.x b.x c.x (plane a b) (plane b c) (plane c a) (plane u a) (plane u b) (plane u c)
    ∙ sym (ap₂ ◌+ℤ◌ (ap₂ ◌+ℤ◌ (ap (λ (k : ℤ). k *ℤ a.x) (by_x_turned u b c))
    (ap (λ (k : ℤ). k *ℤ b.x) (by_x_turned u c a))) (ap (λ (k : ℤ). k *ℤ c.x) (by_x_turned u a b)))
