-- The point where the line of an edge meets the plane of a triangle: a weighted mean of both, by the volumes between
-- four of the five points.
use Rattle.std.proofs.Common.{◌≡◌, ℤ, pos, neg_ℤ, ◌+ℤ◌, ◌-ℤ◌, ◌*ℤ◌, sym, ap, ap₂, ◌∙◌, arith}
use Rattle.std.proofs.lemmas.Int.{ints}
use Rattle.fku_types.specs.declared.points.Point.{Point}
use Rattle.plane_geom.specs.Rings.{origin}
use Rattle.triangle_meshes.specs.Volumes.{seen_from, determinant}
use Rattle.mesh_measures.specs.Turns.{turn}
use Rattle.triangle_meshes.proofs.Determinants.{moved_on, determinant-turns, seen_sum}
use Rattle.mesh_measures.proofs.Determined.{by_x, cramer, plane}

same_point : (x x' y y' z z' : ℤ) → x ≡ x' → y ≡ y' → z ≡ z'
    → (let p : Point = record { x = x; y = y; z = z } in let q : Point = record { x = x'; y = y'; z = z' } in p ≡ q)
same_point x x' y y' z z' e f g = cc

less_same : (o a b : ℤ) → (b -ℤ o) -ℤ (a -ℤ o) ≡ b -ℤ a
less_same o a b = omega (arith, ints)

-- one point as seen from another, both as seen from a third
seen_again : (o a b : Point) → seen_from (seen_from o a) (seen_from o b) ≡ seen_from a b
seen_again o a b = same_point _ _ _ _ _ _ (less_same o.x a.x b.x) (less_same o.y a.y b.y) (less_same o.z a.z b.z)

none_less : (a : ℤ) → a -ℤ a ≡ pos 0
none_less a = omega (arith, ints)

pub seen_itself : (p : Point) → seen_from p p ≡ origin
seen_itself p = same_point _ _ _ _ _ _ (none_less p.x) (none_less p.y) (none_less p.z)

-- the volume between four points, all as seen from a fifth
turn_seen : (o a b c d : Point) → turn a b c d
    ≡ determinant (seen_from (seen_from o a) (seen_from o b)) (seen_from (seen_from o a) (seen_from o c))
    (seen_from (seen_from o a) (seen_from o d))
unfolding turn
turn_seen o a b c d =
    sym (ap (λ (p : Point). determinant p (seen_from (seen_from o a) (seen_from o c))
    (seen_from (seen_from o a) (seen_from o d))) (seen_again o a b)
    ∙ ap (λ (p : Point). determinant (seen_from a b) p (seen_from (seen_from o a) (seen_from o d))) (seen_again o a c)
    ∙ ap (λ (p : Point). determinant (seen_from a b) (seen_from a c) p) (seen_again o a d))

times_none : (k : ℤ) → k *ℤ pos 0 ≡ pos 0
times_none k = omega (arith, ints)

flat : (a : Point) → (plane a origin ≡ pos 0) × (plane origin a ≡ pos 0)
flat a = (omega (arith, ints), omega (arith, ints))

pub with_origin : (a b : Point) → determinant a b origin ≡ pos 0
with_origin a b = moved_on a b origin ∙ moved_on b origin a ∙ by_x origin a b
    ∙ none a.x b.x (plane a b) (plane b origin) (plane origin a) (flat b).0 (flat a).1
  where
    none : (x y k l m : ℤ) → l ≡ pos 0 → m ≡ pos 0 → ((pos 0 *ℤ k) +ℤ (x *ℤ l)) +ℤ (y *ℤ m) ≡ pos 0
    none x y k l m e f = omega (
      arith,
      ints,
      ap (λ (j : ℤ). x *ℤ j) e,
      ap (λ (j : ℤ). y *ℤ j) f,
      times_none x,
      times_none y,
    )

-- the volume between four points, from the determinants of three of them as seen from a fifth
four : (w t k l m : ℤ) → w +ℤ (k +ℤ (l +ℤ m)) ≡ t → w ≡ ((t -ℤ k) -ℤ l) -ℤ m
four w t k l m e = omega (arith, ints)

turn_from : (o a b c d : Point) → turn a b c d
    ≡ ((determinant (seen_from o b) (seen_from o c) (seen_from o d) -ℤ determinant (seen_from o a) (seen_from o b)
    (seen_from o c)) -ℤ determinant (seen_from o a) (seen_from o c) (seen_from o d)) -ℤ determinant (seen_from o a)
    (seen_from o d) (seen_from o b)
turn_from o a b c d = turn_seen o a b c d
    ∙ four _ _ _ _ _ (seen_sum (seen_from o a) (seen_from o b) (seen_from o c) (seen_from o d))

first_left : (t k l m : ℤ) → t ≡ pos 0 → l ≡ pos 0 → m ≡ pos 0 → ((t -ℤ k) -ℤ l) -ℤ m ≡ neg_ℤ k
first_left t k l m e f g = omega (arith, ints)

-- the begin of an edge on one side of the plane
pub before : (p a b c : Point) → turn a b c p ≡ neg_ℤ (determinant (seen_from p a) (seen_from p b) (seen_from p c))
before p a b c =
    turn_from p a b c p
    ∙ first_left _ _ _ _
    (ap (determinant (seen_from p b) (seen_from p c)) (seen_itself p) ∙ with_origin (seen_from p b) (seen_from p c))
    (ap (determinant (seen_from p a) (seen_from p c)) (seen_itself p) ∙ with_origin (seen_from p a) (seen_from p c))
    (moved_on (seen_from p a) (seen_from p p) (seen_from p b) ∙ moved_on (seen_from p p) (seen_from p b) (seen_from p a)
    ∙ ap (determinant (seen_from p b) (seen_from p a)) (seen_itself p)
    ∙ with_origin (seen_from p b) (seen_from p a))

all_left : (t k l m x y z : ℤ) → x ≡ t → l ≡ neg_ℤ y → m ≡ neg_ℤ z → ((t -ℤ k) -ℤ l) -ℤ m ≡ ((z +ℤ x) +ℤ y) -ℤ k
all_left t k l m x y z e f g = omega (arith, ints)

-- the end of an edge on the other side
pub after : (p q a b c : Point) → turn a b c q
    ≡ ((turn p q a b +ℤ turn p q b c) +ℤ turn p q c a) -ℤ determinant (seen_from p a) (seen_from p b) (seen_from p c)
unfolding turn
after p q a b c =
    turn_from p a b c q
    ∙ all_left _ _ _ _ _ _ _
    (moved_on (seen_from p q) (seen_from p b) (seen_from p c))
    (moved_on (seen_from p a) (seen_from p c) (seen_from p q) ∙ moved_on (seen_from p c) (seen_from p q) (seen_from p a)
    ∙ determinant-turns (seen_from p q) (seen_from p c) (seen_from p a))
    (moved_on (seen_from p a) (seen_from p q) (seen_from p b)
    ∙ determinant-turns (seen_from p q) (seen_from p a) (seen_from p b))

-- the point where the edge meets the plane, in x: from the ends of the edge and from the corners
pub mean_x : (p q a b c : Point) → determinant (seen_from p a) (seen_from p b) (seen_from p c) *ℤ (q.x -ℤ p.x)
    ≡ ((turn p q b c *ℤ (a.x -ℤ p.x)) +ℤ (turn p q c a *ℤ (b.x -ℤ p.x))) +ℤ (turn p q a b *ℤ (c.x -ℤ p.x))
unfolding turn
mean_x p q a b c = cramer (seen_from p q) (seen_from p a) (seen_from p b) (seen_from p c)

-- four points in one plane across x have no volume between them
pub flat_x : (p a b c : Point) → a.x -ℤ p.x ≡ pos 0 → b.x -ℤ p.x ≡ pos 0 → c.x -ℤ p.x ≡ pos 0 → turn a b c p ≡ pos 0
flat_x p a b c e f g =
    let a' = seen_from p a in
    let b' = seen_from p b in
    let c' = seen_from p c in
    before p a b c ∙ ap neg_ℤ (by_x a' b' c'
    ∙ ap₂ ◌+ℤ◌ (ap₂ ◌+ℤ◌ (gone a'.x (plane b' c') e) (gone b'.x (plane c' a') f)) (gone c'.x (plane a' b') g))
  where
    gone : (x k : ℤ) → x ≡ pos 0 → x *ℤ k ≡ pos 0
    gone x k e = ap (λ (j : ℤ). j *ℤ k) e ∙ (let z : pos 0 *ℤ k ≡ pos 0 = omega (arith, ints) in z)
