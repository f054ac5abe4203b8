-- An edge passes through a triangle exactly if a point strictly between its ends lies strictly inside the triangle, and
-- the edge does not lie in its plane.
use Rattle.std.proofs.Common.{◌≡◌, ◌↔◌, inl, inr, ℕ, ◌+◌, ◌<◌, true, ◌||◌, ℤ, pos, neg_ℤ, ◌+ℤ◌, ◌-ℤ◌, ◌*ℤ◌, ◌≤ℤ◌, ◌<ℤ◌, sym, ap, ap₂, ◌∙◌, arith}
use Rattle.std.proofs.lemmas.Int.{ints, by_lt_z}
use Rattle.std.proofs.lemmas.Bool.{and_from, or_cases, or_left, or_right}
use Rattle.fku_types.specs.declared.points.Point.{Point}
use Rattle.plane_geom.specs.Planes.{cross_product as product}
use Rattle.plane_geom.proofs.Vectors.{add-mul, mul-add, mul-sub, mul-assoc, le-mul, mul-neg}
use Rattle.mesh_measures.specs.declared.crossing.Corners.{Corners}
use Rattle.triangle_meshes.specs.Volumes.{seen_from, determinant}
use Rattle.mesh_measures.specs.Turns.{turn}
use Rattle.mesh_measures.specs.Crossings.{are_opposite, have_one_sign, passes, pierces, cross}
use Rattle.mesh_measures.specs.Meetings.{SameMean, MeetsInside, PassesThrough, Pierces, Cross}
use Rattle.triangle_meshes.proofs.Determinants.{moved_on, determinant-turns}
use Rattle.mesh_measures.proofs.Weights.{before, after, mean_x}
use Rattle.mesh_measures.proofs.Parted.{passed_weights, ends_apart, apart, sum_split, not_less, not_more, at_least}
use Rattle.mesh_measures.proofs.Axes.{mean_y, mean_z}
use Rattle.mesh_measures.proofs.Mutual.{first_in_plane, second_in_plane, third_in_plane}
use Rattle.fku_types.proofs.TruthLaws.{int_lt_test}

-- ---- what an edge that passes through a triangle has
-- a mean as seen from p, and the same as seen from anywhere
absolute : (sp rp rq rd la lp ld mb mp md nc np nd : ℤ) → rd ≡ rq -ℤ rp → ld ≡ la -ℤ lp → md ≡ mb -ℤ mp → nd ≡ nc -ℤ np
    → rp +ℤ sp ≡ (lp +ℤ mp) +ℤ np → rd ≡ (ld +ℤ md) +ℤ nd → sp +ℤ rq ≡ (la +ℤ mb) +ℤ nc
absolute sp rp rq rd la lp ld mb mp md nc np nd e f g h k w = omega (arith, ints)

whole_mean : (s r l m n : ℕ) (p q a b c : ℤ) → r + s ≡ (l + m) + n
    → pos r *ℤ (q -ℤ p) ≡ ((pos l *ℤ (a -ℤ p)) +ℤ (pos m *ℤ (b -ℤ p))) +ℤ (pos n *ℤ (c -ℤ p))
    → SameMean s r l m n p q a b c
whole_mean s r l m n p q a b c sum e =
    absolute (pos s *ℤ p) (pos r *ℤ p) (pos r *ℤ q) _ (pos l *ℤ a) (pos l *ℤ p) _ (pos m *ℤ b) (pos m *ℤ p) _
    (pos n *ℤ c) (pos n *ℤ p) _
    (mul-sub (pos r) q p) (mul-sub (pos l) a p) (mul-sub (pos m) b p) (mul-sub (pos n) c p) (sum_split l m n r s p sum)
    e

not_none : (m n : ℤ) → are_opposite m n ≡ true → m ≡ pos 0 → ⊥
not_none m n h e = elim (apart m n h)
    [ inl w ↦ (let k = w.0 in omega (arith, ints)) | inr w ↦ (let k = w.0 in omega (arith, ints)) ]

swapped : (a b : ℕ) → a + b ≡ b + a
swapped a b = omega arith

pub through : (p q : Point) (t : Corners) → passes p q t ≡ true → PassesThrough p q t
through p q t e =
    let w = passed_weights p q t e in
    record {
      meets = record {
        s = w.s;
        r = w.r;
        l = w.i;
        m = w.j;
        n = w.k;
        some_s = w.some_s;
        some_r = w.some_r;
        some_l = w.some_i;
        some_m = w.some_j;
        some_n = w.some_k;
        sum = swapped w.s w.r ∙ w.sum;
        x = whole_mean w.s w.r w.i w.j w.k p.x q.x t.a.x t.b.x t.c.x w.sum (w.mean _ _ _ _ (mean_x p q t.a t.b t.c));
        y = whole_mean w.s w.r w.i w.j w.k p.y q.y t.a.y t.b.y t.c.y w.sum (w.mean _ _ _ _ (mean_y p q t.a t.b t.c));
        z = whole_mean w.s w.r w.i w.j w.k p.z q.z t.a.z t.b.z t.c.z w.sum (w.mean _ _ _ _ (mean_z p q t.a t.b t.c));
      };
      aside = not_none (turn t.a t.b t.c p) (turn t.a t.b t.c q) (ends_apart p q t e);
    }

-- ---- a volume by its last point
scaled : (k x y z u v w : ℤ) → k *ℤ (((x *ℤ u) +ℤ (y *ℤ v)) +ℤ (z *ℤ w))
    ≡ (((k *ℤ x) *ℤ u) +ℤ ((k *ℤ y) *ℤ v)) +ℤ ((k *ℤ z) *ℤ w)
scaled k x y z u v w =
    mul-add k ((x *ℤ u) +ℤ (y *ℤ v)) (z *ℤ w)
    ∙ ap₂ ◌+ℤ◌ (mul-add k (x *ℤ u) (y *ℤ v) ∙ ap₂ ◌+ℤ◌ (mul-assoc k x u) (mul-assoc k y v)) (mul-assoc k z w)

-- one coordinate as seen from o
seen_mean : (s r l m n : ℕ) (o p q a b c : ℤ) → s + r ≡ (l + m) + n → SameMean s r l m n p q a b c
    → SameMean s r l m n (p -ℤ o) (q -ℤ o) (a -ℤ o) (b -ℤ o) (c -ℤ o)
seen_mean s r l m n o p q a b c sum e =
    relative (pos s *ℤ p) (pos s *ℤ o) _ (pos r *ℤ q) (pos r *ℤ o) _ (pos l *ℤ a) (pos l *ℤ o) _ (pos m *ℤ b)
    (pos m *ℤ o) _ (pos n *ℤ c) (pos n *ℤ o) _
    (mul-sub (pos s) p o) (mul-sub (pos r) q o) (mul-sub (pos l) a o) (mul-sub (pos m) b o) (mul-sub (pos n) c o)
    (sum_split l m n s r o sum) e
  where
    relative : (sp sw sd rq rv rd la lw ld mb mw md nc nw nd : ℤ) → sd ≡ sp -ℤ sw → rd ≡ rq -ℤ rv → ld ≡ la -ℤ lw
        → md ≡ mb -ℤ mw → nd ≡ nc -ℤ nw → sw +ℤ rv ≡ (lw +ℤ mw) +ℤ nw → sp +ℤ rq ≡ (la +ℤ mb) +ℤ nc
        → sd +ℤ rd ≡ (ld +ℤ md) +ℤ nd
    relative sp sw sd rq rv rd la lw ld mb mw md nc nw nd e f g h i j k = omega (arith, ints)

-- one coordinate times a number
mean_times : (s r l m n u : ℤ) → s +ℤ r ≡ (l +ℤ m) +ℤ n → (s *ℤ u) +ℤ (r *ℤ u) ≡ ((l *ℤ u) +ℤ (m *ℤ u)) +ℤ (n *ℤ u)
mean_times s r l m n u e = sym (add-mul s r u) ∙ ap (λ (k : ℤ). k *ℤ u) e ∙ add-mul (l +ℤ m) n u
    ∙ ap (λ (k : ℤ). k +ℤ (n *ℤ u)) (add-mul l m u)

-- fifteen products in three equations
gathered : (s r l m n sx sy sz rx ry rz lx ly lz mx my mz nx ny nz : ℤ) → s ≡ (sx +ℤ sy) +ℤ sz → r ≡ (rx +ℤ ry) +ℤ rz
    → l ≡ (lx +ℤ ly) +ℤ lz → m ≡ (mx +ℤ my) +ℤ mz → n ≡ (nx +ℤ ny) +ℤ nz
    → sx +ℤ rx ≡ (lx +ℤ mx) +ℤ nx → sy +ℤ ry ≡ (ly +ℤ my) +ℤ ny → sz +ℤ rz ≡ (lz +ℤ mz) +ℤ nz → s +ℤ r ≡ (l +ℤ m) +ℤ n
gathered s r l m n sx sy sz rx ry rz lx ly lz mx my mz nx ny nz a b c d e f g h = omega (arith, ints)

-- the determinant of a mean
by_last : (s r l m n : ℕ) (u v p q a b c : Point) → SameMean s r l m n p.x q.x a.x b.x c.x
    → SameMean s r l m n p.y q.y a.y b.y c.y → SameMean s r l m n p.z q.z a.z b.z c.z
    → SameMean s r l m n (determinant u v p) (determinant u v q) (determinant u v a) (determinant u v b)
    (determinant u v c)
by_last s r l m n u v p q a b c x y z =
    let ux = product u.y u.z v.y v.z in
    let uy = product u.z u.x v.z v.x in
    let uz = product u.x u.y v.x v.y in
    let one = λ (k : ℕ) (w : Point). ap (λ (d : ℤ). pos k *ℤ d) (moved_on u v w ∙ moved_on v w u)
    ∙ scaled (pos k) w.x w.y w.z ux uy uz in
    gathered _ _ _ _ _
    ((pos s *ℤ p.x) *ℤ ux) ((pos s *ℤ p.y) *ℤ uy) ((pos s *ℤ p.z) *ℤ uz)
    ((pos r *ℤ q.x) *ℤ ux) ((pos r *ℤ q.y) *ℤ uy) ((pos r *ℤ q.z) *ℤ uz)
    ((pos l *ℤ a.x) *ℤ ux) ((pos l *ℤ a.y) *ℤ uy) ((pos l *ℤ a.z) *ℤ uz)
    ((pos m *ℤ b.x) *ℤ ux) ((pos m *ℤ b.y) *ℤ uy) ((pos m *ℤ b.z) *ℤ uz)
    ((pos n *ℤ c.x) *ℤ ux) ((pos n *ℤ c.y) *ℤ uy) ((pos n *ℤ c.z) *ℤ uz)
    (one s p) (one r q) (one l a) (one m b) (one n c)
    (mean_times (pos s *ℤ p.x) (pos r *ℤ q.x) (pos l *ℤ a.x) (pos m *ℤ b.x) (pos n *ℤ c.x) ux x)
    (mean_times (pos s *ℤ p.y) (pos r *ℤ q.y) (pos l *ℤ a.y) (pos m *ℤ b.y) (pos n *ℤ c.y) uy y)
    (mean_times (pos s *ℤ p.z) (pos r *ℤ q.z) (pos l *ℤ a.z) (pos m *ℤ b.z) (pos n *ℤ c.z) uz z)

-- the volume between three points and a mean
turn_mean : (p q : Point) (t : Corners) (w : MeetsInside p q t) (o u v : Point)
    → SameMean w.s w.r w.l w.m w.n (turn o u v p) (turn o u v q) (turn o u v t.a) (turn o u v t.b) (turn o u v t.c)
unfolding turn
turn_mean p q t w o u v =
    by_last w.s w.r w.l w.m w.n (seen_from o u) (seen_from o v) (seen_from o p) (seen_from o q) (seen_from o t.a)
    (seen_from o t.b) (seen_from o t.c)
    (seen_mean w.s w.r w.l w.m w.n o.x p.x q.x t.a.x t.b.x t.c.x w.sum w.x)
    (seen_mean w.s w.r w.l w.m w.n o.y p.y q.y t.a.y t.b.y t.c.y w.sum w.y)
    (seen_mean w.s w.r w.l w.m w.n o.z p.z q.z t.a.z t.b.z t.c.z w.sum w.z)

-- ---- signs of such means
times_none : (k : ℕ) (x : ℤ) → x ≡ pos 0 → pos k *ℤ x ≡ pos 0
times_none k x e = ap (λ (y : ℤ). pos k *ℤ y) e ∙ (let z : pos k *ℤ pos 0 ≡ pos 0 = omega (arith, ints) in z)

-- the ends lie on both sides
two_sides : (sp rq la mb nc : ℤ) → sp +ℤ rq ≡ (la +ℤ mb) +ℤ nc → la ≡ pos 0 → mb ≡ pos 0 → nc ≡ pos 0 → sp ≡ neg_ℤ rq
two_sides sp rq la mb nc e f g h = omega (arith, ints)

-- two of the corners lie on both sides of an edge's plane
two_corners : (sp rq la mb nc : ℤ) → sp +ℤ rq ≡ (la +ℤ mb) +ℤ nc → sp ≡ pos 0 → rq ≡ pos 0 → la ≡ pos 0 → mb ≡ neg_ℤ nc
two_corners sp rq la mb nc e f g h = omega (arith, ints)

two_others : (sp rq la mb nc : ℤ) → sp +ℤ rq ≡ (la +ℤ mb) +ℤ nc → sp ≡ pos 0 → rq ≡ pos 0 → mb ≡ pos 0 → la ≡ neg_ℤ nc
two_others sp rq la mb nc e f g h = omega (arith, ints)

-- numbers with equal positive multiples
record Alike (x y : ℤ) : Type 0 where
  i : ℕ
  j : ℕ
  some_i : 0 < i
  some_j : 0 < j
  same : pos i *ℤ x ≡ pos j *ℤ y

not_positive : (j : ℕ) (y : ℤ) → y ≤ℤ pos 0 → (pos j *ℤ y) ≤ℤ pos 0
not_positive j y h = let k : (pos j *ℤ y) ≤ℤ (pos j *ℤ pos 0) = le-mul j y (pos 0) h in omega (arith, ints)

low_alike : (x y : ℤ) → Alike x y → y ≤ℤ pos 0 → x ≤ℤ pos 0
low_alike x y w h = not_more w.i x w.some_i (let k = not_positive w.j y h in let e = w.same in omega (arith, ints))

high_alike : (x y : ℤ) → Alike x y → pos 0 ≤ℤ y → pos 0 ≤ℤ x
high_alike x y w h = not_less w.i x w.some_i
    (let k = at_least w.j y h in let e = w.same in omega (arith, ints))

turned_alike : (x y : ℤ) → Alike x y → Alike y x
turned_alike x y w = record { i = w.j; j = w.i; some_i = w.some_j; some_j = w.some_i; same = sym w.same }

positive_alike : (x y : ℤ) → Alike x y → pos 0 <ℤ x → pos 0 <ℤ y
positive_alike x y w h = by_lt_z (pos 0) y (λ k. k) (λ k. absurd (let l = low_alike x y w k in omega (arith, ints)))

negative_alike : (x y : ℤ) → Alike x y → x <ℤ pos 0 → y <ℤ pos 0
negative_alike x y w h = by_lt_z y (pos 0) (λ k. k) (λ k. absurd (let l = high_alike x y w k in omega (arith, ints)))

none_between : (x : ℤ) → x ≤ℤ pos 0 → pos 0 ≤ℤ x → x ≡ pos 0
none_between x h k = omega (arith, ints)

all_one_sign : (l m n : ℤ) → Alike l m → Alike l n → (l ≡ pos 0 → m ≡ pos 0 → n ≡ pos 0 → ⊥)
    → have_one_sign l m n ≡ true
all_one_sign l m n e f some =
    by_lt_z (pos 0) l
    (λ h. or_left _ _ (and_from _ _ (and_from _ _ (int_lt_test (pos 0) l h)
    (int_lt_test (pos 0) m (positive_alike l m e h))) (int_lt_test (pos 0) n (positive_alike l n f h))))
    (λ low. by_lt_z l (pos 0)
    (λ h. or_right _ _ (and_from _ _ (and_from _ _ (int_lt_test l (pos 0) h)
    (int_lt_test m (pos 0) (negative_alike l m e h))) (int_lt_test n (pos 0) (negative_alike l n f h))))
    (λ high. absurd
    (let none = none_between l low high in
    some none
    (none_between m (low_alike m l (turned_alike l m e) low) (high_alike m l (turned_alike l m e) high))
    (none_between n (low_alike n l (turned_alike l n f) low) (high_alike n l (turned_alike l n f) high)))))

neg_low : (x y : ℤ) → x ≡ neg_ℤ y → pos 0 ≤ℤ y → x ≤ℤ pos 0
neg_low x y e h = omega (arith, ints)

neg_high : (x y : ℤ) → x ≡ neg_ℤ y → y ≤ℤ pos 0 → pos 0 ≤ℤ x
neg_high x y e h = omega (arith, ints)

both_sides : (s r : ℕ) (m n : ℤ) → 0 < s → 0 < r → pos s *ℤ m ≡ neg_ℤ (pos r *ℤ n) → (m ≡ pos 0 → ⊥)
    → are_opposite m n ≡ true
both_sides s r m n some_s some_r e aside =
    by_lt_z m (pos 0)
    (λ h. or_left _ _ (and_from _ _ (int_lt_test m (pos 0) h)
    (by_lt_z (pos 0) n (int_lt_test (pos 0) n)
    (λ k. absurd (let l = not_less s m some_s (neg_high (pos s *ℤ m) (pos r *ℤ n) e (not_positive r n k)) in
    omega (arith, ints))))))
    (λ high. by_lt_z (pos 0) m
    (λ h. or_right _ _ (and_from _ _ (int_lt_test (pos 0) m h)
    (by_lt_z n (pos 0) (int_lt_test n (pos 0))
    (λ k. absurd (let l = not_more s m some_s (neg_low (pos s *ℤ m) (pos r *ℤ n) e (at_least r n k)) in
    omega (arith, ints))))))
    (λ low. absurd (aside (none_between m low high))))

-- a volume with its last two points exchanged
pub last_turned : (p q a b : Point) → turn p q b a ≡ neg_ℤ (turn p q a b)
unfolding turn
last_turned p q a b = determinant-turns (seen_from p q) (seen_from p a) (seen_from p b)

neg_times : (k : ℕ) (x y : ℤ) → x ≡ neg_ℤ y → pos k *ℤ x ≡ neg_ℤ (pos k *ℤ y)
neg_times k x y e = ap (λ (z : ℤ). pos k *ℤ z) e ∙ mul-neg (pos k) y

-- x and the opposite of y
alike_from : (i j : ℕ) (x y z : ℤ) → 0 < i → 0 < j → pos i *ℤ x ≡ neg_ℤ (pos j *ℤ y) → y ≡ neg_ℤ z → Alike x z
alike_from i j x y z some_i some_j e f =
    record {
      i = i;
      j = j;
      some_i = some_i;
      some_j = some_j;
      same = e ∙ ap neg_ℤ (neg_times j y z f)
          ∙ twice (pos j *ℤ z);
    }
  where
    twice : (a : ℤ) → neg_ℤ (neg_ℤ a) ≡ a
    twice a = omega (arith, ints)

same_side : (D P Q l m n : ℤ) → P ≡ neg_ℤ D → Q ≡ ((l +ℤ m) +ℤ n) -ℤ D → l ≡ pos 0 → m ≡ pos 0 → n ≡ pos 0 → Q ≡ P
same_side D P Q l m n e f g h k = omega (arith, ints)

differ : (m n : ℤ) → are_opposite m n ≡ true → n ≡ m → ⊥
differ m n h e = elim (apart m n h) [
  | inl w ↦ (let k = w.0 in let l = w.1 in omega (arith, ints))
  | inr w ↦
      (let k = w.0 in let l = w.1 in omega (arith, ints))
]

pub passes_from : (p q : Point) (t : Corners) → PassesThrough p q t → passes p q t ≡ true
unfolding passes
passes_from p q t h =
    let w = h.meets in
    let P = turn t.a t.b t.c p in
    let Q = turn t.a t.b t.c q in
    let ab = turn p q t.a t.b in
    let bc = turn p q t.b t.c in
    let ca = turn p q t.c t.a in
    let sides = two_sides _ _ _ _ _ (turn_mean p q t w t.a t.b t.c) (times_none w.l _ (first_in_plane t.a t.b t.c))
    (times_none w.m _ (second_in_plane t.a t.b t.c)) (times_none w.n _ (third_in_plane t.a t.b t.c)) in
    let opposite : are_opposite P Q ≡ true = both_sides w.s w.r P Q w.some_s w.some_r sides h.aside in
    let round_a = two_corners _ _ _ _ _ (turn_mean p q t w p q t.a) (times_none w.s _ (first_in_plane p q t.a))
    (times_none w.r _ (second_in_plane p q t.a)) (times_none w.l _ (third_in_plane p q t.a)) in
    let round_b = two_others _ _ _ _ _ (turn_mean p q t w p q t.b) (times_none w.s _ (first_in_plane p q t.b))
    (times_none w.r _ (second_in_plane p q t.b)) (times_none w.m _ (third_in_plane p q t.b)) in
    let with_ca : Alike ab ca = alike_from w.m w.n ab (turn p q t.a t.c) ca w.some_m w.some_n round_a
    (last_turned p q t.c t.a) in
    let with_bc : Alike ab bc = turned_alike bc ab
    (alike_other w.l w.n (turn p q t.b t.a) ab bc w.some_l w.some_n round_b (last_turned p q t.a t.b)) in
    let round : have_one_sign ab bc ca ≡ true =
    all_one_sign ab bc ca with_bc with_ca
    (λ e f g. differ P Q opposite (same_side _ P Q ab bc ca (before p t.a t.b t.c) (after p q t.a t.b t.c) e f g))
    in
    and_from (are_opposite P Q) (have_one_sign ab bc ca) opposite round
  where
    alike_other : (i j : ℕ) (x z y : ℤ) → 0 < i → 0 < j → pos i *ℤ x ≡ neg_ℤ (pos j *ℤ y) → x ≡ neg_ℤ z → Alike y z
    alike_other i j x z y some_i some_j e f =
        record {
          i = j;
          j = i;
          some_i = some_j;
          some_j = some_i;
          same =
              both (pos j *ℤ y) (pos i *ℤ x) (pos i *ℤ z) e (neg_times i x z f);
        }
      where
        both : (a b c : ℤ) → b ≡ neg_ℤ a → b ≡ neg_ℤ c → a ≡ c
        both a b c e f = omega (arith, ints)

-- ---- triangles
pub pierces_means : (s t : Corners) → (pierces s t ≡ true) ↔ Pierces s t
unfolding pierces
pierces_means s t = (
  λ h.
      elim (or_cases (passes s.a s.b t || passes s.b s.c t) (passes s.c s.a t) h) [
        | inr e ↦ inr (inr (through s.c s.a t e))
        | inl f ↦ elim (or_cases (passes s.a s.b t) (passes s.b s.c t) f)
            [ inl e ↦ inl (through s.a s.b t e) | inr e ↦ inr (inl (through s.b s.c t e)) ]
      ],
  λ w.
      elim w [
        | inl e ↦ or_left (passes s.a s.b t || passes s.b s.c t) (passes s.c s.a t)
            (or_left (passes s.a s.b t) (passes s.b s.c t) (passes_from s.a s.b t e))
        | inr f ↦
            elim f [
              | inl e ↦ or_left (passes s.a s.b t || passes s.b s.c t) (passes s.c s.a t)
                  (or_right (passes s.a s.b t) (passes s.b s.c t) (passes_from s.b s.c t e))
              | inr e ↦ or_right (passes s.a s.b t || passes s.b s.c t) (passes s.c s.a t) (passes_from s.c s.a t e)
            ]
      ],
)

pub cross_means : (s t : Corners) → (cross s t ≡ true) ↔ Cross s t
unfolding cross
cross_means s t = (
  λ h. elim (or_cases (pierces s t) (pierces t s) h)
      [ inl e ↦ inl ((pierces_means s t).0 e) | inr e ↦ inr ((pierces_means t s).0 e) ],
  λ w. elim w [
    | inl e ↦ or_left (pierces s t) (pierces t s) ((pierces_means s t).1 e)
    | inr e ↦ or_right (pierces s t)
        (pierces t s) ((pierces_means t s).1 e)
  ],
)
