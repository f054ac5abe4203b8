-- Triangles on two sides of a plane across an axis do not cross.
use Rattle.std.proofs.Common.{◌≡◌, ◌&&◌, ◌||◌, false, sym, ap, ap₂, ◌∙◌, ℤ, ◌+ℤ◌, ◌-ℤ◌, ◌*ℤ◌, ◌≤ℤ◌, arith}
use Rattle.std.proofs.lemmas.Int.{ints}
use Rattle.fku_types.specs.declared.points.Point.{Point}
use Rattle.plane_geom.specs.Planes.{cross_product as product}
use Rattle.mesh_measures.specs.declared.crossing.Corners.{Corners}
use Rattle.triangle_meshes.specs.Volumes.{seen_from, determinant}
use Rattle.mesh_measures.specs.Turns.{turn}
use Rattle.mesh_measures.specs.Crossings.{are_opposite, have_one_sign, passes, pierces, cross}
use Rattle.mesh_measures.proofs.Weights.{mean_x}
use Rattle.mesh_measures.proofs.Parted.{parted_x}

-- the axes turned: y becomes x, z becomes y and x becomes z
abbrev moved : Point → Point
moved p = record { x = p.y; y = p.z; z = p.x }

abbrev moved_corners : Corners → Corners
moved_corners t = record { a = moved t.a; b = moved t.b; c = moved t.c }

last_first : (x y z : ℤ) → (y +ℤ z) +ℤ x ≡ (x +ℤ y) +ℤ z
last_first x y z = omega (arith, ints)

determinant_moved : (p q r : Point) → determinant (moved p) (moved q) (moved r) ≡ determinant p q r
determinant_moved p q r = last_first (p.x *ℤ product q.y q.z r.y r.z) (p.y *ℤ product q.z q.x r.z r.x)
    (p.z *ℤ product q.x q.y r.x r.y)

turn_moved : (a b c d : Point) → turn (moved a) (moved b) (moved c) (moved d) ≡ turn a b c d
unfolding turn
turn_moved a b c d = determinant_moved (seen_from a b) (seen_from a c) (seen_from a d)

-- the point where an edge meets the plane of a triangle, in y and in z
pub mean_y : (p q a b c : Point) → determinant (seen_from p a) (seen_from p b) (seen_from p c) *ℤ (q.y -ℤ p.y)
    ≡ ((turn p q b c *ℤ (a.y -ℤ p.y)) +ℤ (turn p q c a *ℤ (b.y -ℤ p.y))) +ℤ (turn p q a b *ℤ (c.y -ℤ p.y))
mean_y p q a b c =
    sym (ap (λ (k : ℤ). k *ℤ (q.y -ℤ p.y)) (determinant_moved (seen_from p a) (seen_from p b) (seen_from p c)))
    ∙ mean_x (moved p) (moved q) (moved a) (moved b) (moved c)
    ∙ ap₂ ◌+ℤ◌ (ap₂ ◌+ℤ◌ (ap (λ (k : ℤ). k *ℤ (a.y -ℤ p.y)) (turn_moved p q b c))
    (ap (λ (k : ℤ). k *ℤ (b.y -ℤ p.y)) (turn_moved p q c a))) (ap (λ (k : ℤ). k *ℤ (c.y -ℤ p.y)) (turn_moved p q a b))

pub mean_z : (p q a b c : Point) → determinant (seen_from p a) (seen_from p b) (seen_from p c) *ℤ (q.z -ℤ p.z)
    ≡ ((turn p q b c *ℤ (a.z -ℤ p.z)) +ℤ (turn p q c a *ℤ (b.z -ℤ p.z))) +ℤ (turn p q a b *ℤ (c.z -ℤ p.z))
mean_z p q a b c =
    sym (ap (λ (k : ℤ). k *ℤ (q.z -ℤ p.z)) (determinant_moved (seen_from p a) (seen_from p b) (seen_from p c)))
    ∙ mean_y (moved p) (moved q) (moved a) (moved b) (moved c)
    ∙ ap₂ ◌+ℤ◌ (ap₂ ◌+ℤ◌ (ap (λ (k : ℤ). k *ℤ (a.z -ℤ p.z)) (turn_moved p q b c))
    (ap (λ (k : ℤ). k *ℤ (b.z -ℤ p.z)) (turn_moved p q c a))) (ap (λ (k : ℤ). k *ℤ (c.z -ℤ p.z)) (turn_moved p q a b))

pub three : (l m n l' m' n' : ℤ) → l ≡ l' → m ≡ m' → n ≡ n' → have_one_sign l m n ≡ have_one_sign l' m' n'
three l m n l' m' n' e f g = ap₂ (λ (x y : ℤ). have_one_sign x y n) e f ∙ ap (λ (z : ℤ). have_one_sign l' m' z) g

passes_moved : (p q : Point) (t : Corners) → passes (moved p) (moved q) (moved_corners t) ≡ passes p q t
unfolding passes
passes_moved p q t =
    ap₂ ◌&&◌ (ap₂ are_opposite (turn_moved t.a t.b t.c p) (turn_moved t.a t.b t.c q))
    (three _ _ _ _ _ _ (turn_moved p q t.a t.b) (turn_moved p q t.b t.c) (turn_moved p q t.c t.a))

pierces_moved : (s t : Corners) → pierces (moved_corners s) (moved_corners t) ≡ pierces s t
unfolding pierces
pierces_moved s t = ap₂ ◌||◌ (ap₂ ◌||◌ (passes_moved s.a s.b t) (passes_moved s.b s.c t)) (passes_moved s.c s.a t)

cross_moved : (s t : Corners) → cross (moved_corners s) (moved_corners t) ≡ cross s t
unfolding cross
cross_moved s t = ap₂ ◌||◌ (pierces_moved s t) (pierces_moved t s)

-- in one coordinate, all corners of the first are at most m, and all corners of the second at least m
pub record Parted (f : Point → ℤ) (s t : Corners) (m : ℤ) : Type 0 where
  pub sa : f s.a ≤ℤ m
  pub sb : f s.b ≤ℤ m
  pub sc : f s.c ≤ℤ m
  pub ta : m ≤ℤ f t.a
  pub tb : m ≤ℤ f t.b
  pub tc : m ≤ℤ f t.c

pub apart_x : (s t : Corners) (m : ℤ) → Parted (λ p. p.x) s t m → cross s t ≡ false
apart_x s t m h = parted_x s t m (record { a = h.sa; b = h.sb; c = h.sc }) (record { a = h.ta; b = h.tb; c = h.tc })

pub apart_y : (s t : Corners) (m : ℤ) → Parted (λ p. p.y) s t m → cross s t ≡ false
apart_y s t m h = sym (cross_moved s t)
    ∙ parted_x (moved_corners s) (moved_corners t) m (record { a = h.sa; b = h.sb; c = h.sc })
    (record { a = h.ta; b = h.tb; c = h.tc })

pub apart_z : (s t : Corners) (m : ℤ) → Parted (λ p. p.z) s t m → cross s t ≡ false
apart_z s t m h = sym (cross_moved s t)
    ∙ apart_y (moved_corners s) (moved_corners t) m
    (record { sa = h.sa; sb = h.sb; sc = h.sc; ta = h.ta; tb = h.tb; tc = h.tc })
