-- An edge that passes through a triangle: neither lies on one side of a plane across an axis.
use Rattle.std.proofs.Common.{◌≡◌, ℕ, ◌+◌, ◌<◌, ◌⊎◌, inl, inr, ℤ, pos, neg_ℤ, ◌+ℤ◌, ◌-ℤ◌, ◌*ℤ◌, ◌≤ℤ◌, ◌<ℤ◌, int_lt, Bool, true, false, ◌&&◌, ◌||◌, refl, sym, ap, ap₂, ◌∙◌, arith}
use Rattle.std.proofs.lemmas.Int.{ints}
use Rattle.std.proofs.lemmas.Bool.{and_parts, or_cases}
use Rattle.plane_geom.proofs.Vectors.{add-mul, neg-mul, le-mul, cancel-le, natural, mul-neg}
use Rattle.fku_types.specs.declared.points.Point.{Point}
use Rattle.mesh_measures.specs.declared.crossing.Corners.{Corners}
use Rattle.mesh_measures.specs.Turns.{turn}
use Rattle.mesh_measures.specs.Crossings.{are_opposite, have_one_sign, passes, pierces, cross}
use Rattle.triangle_meshes.specs.Volumes.{seen_from, determinant}
use Rattle.mesh_measures.proofs.Weights.{before, after, mean_x, flat_x}
use Rattle.fku_types.proofs.TruthLaws.{int_lt_is}

-- ---- a weighted mean of two numbers that is one of three numbers beyond them: all are the same
pub sum_split : (l m n r s : ℕ) (u : ℤ) → r + s ≡ (l + m) + n
    → (pos r *ℤ u) +ℤ (pos s *ℤ u) ≡ ((pos l *ℤ u) +ℤ (pos m *ℤ u)) +ℤ (pos n *ℤ u)
sum_split l m n r s u e =
    sym (add-mul (pos r) (pos s) u) ∙ ap (λ (k : ℕ). pos k *ℤ u) e
    ∙ add-mul (pos (l + m)) (pos n) u ∙ ap (λ (k : ℤ). k +ℤ (pos n *ℤ u)) (add-mul (pos l) (pos m) u)

record AllNone (u a b c : ℤ) : Type 0 where
  of_u : u ≡ pos 0
  of_a : a ≡ pos 0
  of_b : b ≡ pos 0
  of_c : c ≡ pos 0

pub at_least : (n : ℕ) (a : ℤ) → pos 0 ≤ℤ a → pos 0 ≤ℤ (pos n *ℤ a)
at_least n a h = let k : (pos n *ℤ pos 0) ≤ℤ (pos n *ℤ a) = le-mul n (pos 0) a h in omega (arith, ints)

pub not_less : (n : ℕ) (a : ℤ) → 0 < n → pos 0 ≤ℤ (pos n *ℤ a) → pos 0 ≤ℤ a
not_less n a p h = cancel-le n (pos 0) a p (let k : (pos n *ℤ pos 0) ≤ℤ (pos n *ℤ a) = omega (arith, ints) in k)

pub not_more : (n : ℕ) (a : ℤ) → 0 < n → (pos n *ℤ a) ≤ℤ pos 0 → a ≤ℤ pos 0
not_more n a p h = cancel-le n a (pos 0) p (let k : (pos n *ℤ a) ≤ℤ (pos n *ℤ pos 0) = omega (arith, ints) in k)

sum_not_less : (t x y z : ℤ) → t ≡ (x +ℤ y) +ℤ z → pos 0 ≤ℤ x → pos 0 ≤ℤ y → pos 0 ≤ℤ z → pos 0 ≤ℤ t
sum_not_less t x y z e f g h = omega (arith, ints)

second_not_more : (t s x y z x' y' z' : ℤ) → t ≡ (x +ℤ y) +ℤ z → t +ℤ s ≡ (x' +ℤ y') +ℤ z' → x' ≤ℤ x → y' ≤ℤ y → z' ≤ℤ z
    → s ≤ℤ pos 0
second_not_more t s x y z x' y' z' e d f g h = omega (arith, ints)

zero_between : (u : ℤ) → pos 0 ≤ℤ u → u ≤ℤ pos 0 → u ≡ pos 0
zero_between u h k = omega (arith, ints)

first_not_more : (t x y z : ℤ) → t ≡ (x +ℤ y) +ℤ z → t ≤ℤ pos 0 → pos 0 ≤ℤ y → pos 0 ≤ℤ z → x ≤ℤ pos 0
first_not_more t x y z e f g h = omega (arith, ints)

beyond : (l m n r s : ℕ) (u a b c : ℤ) → 0 < l → 0 < m → 0 < n → 0 < r → 0 < s → r + s ≡ (l + m) + n
    → pos r *ℤ u ≡ ((pos l *ℤ a) +ℤ (pos m *ℤ b)) +ℤ (pos n *ℤ c)
    → pos 0 ≤ℤ a → pos 0 ≤ℤ b → pos 0 ≤ℤ c → u ≤ℤ a → u ≤ℤ b → u ≤ℤ c → AllNone u a b c
beyond l m n r s u a b c lp mp np rp sp sum mean a0 b0 c0 ua ub uc =
    let x = at_least l a a0 in
    let y = at_least m b b0 in
    let z = at_least n c c0 in
    let up : pos 0 ≤ℤ u = not_less r u rp (sum_not_less (pos r *ℤ u) (pos l *ℤ a) (pos m *ℤ b) (pos n *ℤ c) mean x y z)
    in
    let down : u ≤ℤ pos 0 = not_more s u sp
    (second_not_more (pos r *ℤ u) (pos s *ℤ u) (pos l *ℤ a) (pos m *ℤ b) (pos n *ℤ c) (pos l *ℤ u) (pos m *ℤ u)
    (pos n *ℤ u) mean (sum_split l m n r s u sum) (le-mul l u a ua) (le-mul m u b ub) (le-mul n u c uc)) in
    let none : u ≡ pos 0 = zero_between u up down in
    let t : (pos r *ℤ u) ≤ℤ pos 0 = (let e : pos r *ℤ u ≡ pos r *ℤ pos 0 = ap (λ (k : ℤ). pos r *ℤ k) none in
    omega (arith, ints)) in
    record {
      of_u = none;
      of_a = zero_between a a0 (not_more l a lp
          (first_not_more (pos r *ℤ u) (pos l *ℤ a) (pos m *ℤ b) (pos n *ℤ c) mean t y z));
      of_b = zero_between b b0 (not_more m b mp
          (first_not_more (pos r *ℤ u) (pos m *ℤ b) (pos l *ℤ a) (pos n *ℤ c)
          (mean ∙ swapped (pos l *ℤ a) (pos m *ℤ b) (pos n *ℤ c)) t x z));
      of_c = zero_between c c0 (not_more n c np
          (first_not_more (pos r *ℤ u) (pos n *ℤ c) (pos l *ℤ a) (pos m *ℤ b)
          (mean ∙ turned (pos l *ℤ a) (pos m *ℤ b) (pos n *ℤ c)) t x y));
    }
  where
    swapped : (x y z : ℤ) → (x +ℤ y) +ℤ z ≡ (y +ℤ x) +ℤ z
    swapped x y z = omega (arith, ints)

    turned : (x y z : ℤ) → (x +ℤ y) +ℤ z ≡ (z +ℤ x) +ℤ y
    turned x y z = omega (arith, ints)

pub apart : (m n : ℤ) → are_opposite m n ≡ true → ((m <ℤ pos 0) × (pos 0 <ℤ n)) ⊎ ((pos 0 <ℤ m) × (n <ℤ pos 0))
apart m n h =
    elim (or_cases (int_lt m (pos 0) && int_lt (pos 0) n) (int_lt (pos 0) m && int_lt n (pos 0)) h) [
      | inl e ↦ (let w = and_parts (int_lt m (pos 0)) (int_lt (pos 0) n) e in
          inl (int_lt_is m (pos 0) w.0, int_lt_is (pos 0) n w.1))
      | inr e ↦ (let w = and_parts (int_lt (pos 0) m) (int_lt n (pos 0)) e in
          inr (int_lt_is (pos 0) m w.0, int_lt_is n (pos 0) w.1))
    ]

alike : (l m n : ℤ) → have_one_sign l m n ≡ true → ((pos 0 <ℤ l) × (pos 0 <ℤ m) × (pos 0 <ℤ n))
    ⊎ ((l <ℤ pos 0) × (m <ℤ pos 0) × (n <ℤ pos 0))
alike l m n h =
    elim (or_cases (int_lt (pos 0) l && int_lt (pos 0) m && int_lt (pos 0) n)
    (int_lt l (pos 0) && int_lt m (pos 0) && int_lt n (pos 0)) h) [
      | inl e ↦
          (let v = and_parts (int_lt (pos 0) l && int_lt (pos 0) m) (int_lt (pos 0) n) e in
          let w = and_parts (int_lt (pos 0) l) (int_lt (pos 0) m) v.0 in
          inl (int_lt_is (pos 0) l w.0, int_lt_is (pos 0) m w.1, int_lt_is (pos 0) n v.1))
      | inr e ↦
          (let v = and_parts (int_lt l (pos 0) && int_lt m (pos 0)) (int_lt n (pos 0)) e in
          let w = and_parts (int_lt l (pos 0)) (int_lt m (pos 0)) v.0 in
          inr (int_lt_is l (pos 0) w.0, int_lt_is m (pos 0) w.1, int_lt_is n (pos 0) v.1))
    ]

record Positive (z : ℤ) : Type 0 where
  n : ℕ
  some : 0 < n
  is : z ≡ pos n

positive : (z : ℤ) → pos 0 <ℤ z → Positive z
positive z h = let w = natural z (let k : pos 0 ≤ℤ z = omega (arith, ints) in k) in
    record { n = w.0; some = (let e = w.1 in omega (arith, ints)); is = w.1 }

neg_positive : (z : ℤ) → z <ℤ pos 0 → Positive (neg_ℤ z)
neg_positive z h = positive (neg_ℤ z) (let k : pos 0 <ℤ neg_ℤ z = omega (arith, ints) in k)

-- the weights of the ends of an edge and of the corners of a triangle through which it passes
record Passed (D l m n : ℤ) (Q : ℤ) : Type 0 where
  end : Q ≡ ((n +ℤ l) +ℤ m) -ℤ D
  ends_apart : are_opposite (neg_ℤ D) Q ≡ true
  round : have_one_sign n l m ≡ true

-- the same by natural weights
pub record Weights (D l m n : ℤ) : Type 0 where
  pub i : ℕ
  pub j : ℕ
  pub k : ℕ
  pub r : ℕ
  pub s : ℕ
  pub some_i : 0 < i
  pub some_j : 0 < j
  pub some_k : 0 < k
  pub some_r : 0 < r
  pub some_s : 0 < s
  pub sum : r + s ≡ (i + j) + k
  pub mean : (u a b c : ℤ) → D *ℤ u ≡ ((l *ℤ a) +ℤ (m *ℤ b)) +ℤ (n *ℤ c)
      → pos r *ℤ u ≡ ((pos i *ℤ a) +ℤ (pos j *ℤ b)) +ℤ (pos k *ℤ c)

up_sum : (D l m n Q : ℤ) (r s i j k : ℕ) → Q ≡ ((n +ℤ l) +ℤ m) -ℤ D → D ≡ pos r → Q ≡ pos s → l ≡ pos i → m ≡ pos j
    → n ≡ pos k → r + s ≡ (i + j) + k
up_sum D l m n Q r s i j k e f g h p q = omega (arith, ints)

down_sum : (D l m n Q : ℤ) (r s i j k : ℕ) → Q ≡ ((n +ℤ l) +ℤ m) -ℤ D → neg_ℤ D ≡ pos r → neg_ℤ Q ≡ pos s
    → neg_ℤ l ≡ pos i → neg_ℤ m ≡ pos j → neg_ℤ n ≡ pos k → r + s ≡ (i + j) + k
down_sum D l m n Q r s i j k e f g h p q = omega (arith, ints)

all_turned : (t x y z t' x' y' z' : ℤ) → t ≡ (x +ℤ y) +ℤ z → t' ≡ neg_ℤ t → x' ≡ neg_ℤ x → y' ≡ neg_ℤ y → z' ≡ neg_ℤ z
    → t' ≡ (x' +ℤ y') +ℤ z'
all_turned t x y z t' x' y' z' e f g h k = omega (arith, ints)

neg_weight : (d u : ℤ) (r : ℕ) → neg_ℤ d ≡ pos r → pos r *ℤ u ≡ neg_ℤ (d *ℤ u)
neg_weight d u r e = ap (λ (k : ℤ). k *ℤ u) (sym e) ∙ neg-mul d u

not_both : (D l m n Q : ℤ) → Q ≡ ((n +ℤ l) +ℤ m) -ℤ D → neg_ℤ D <ℤ pos 0 → pos 0 <ℤ Q → n <ℤ pos 0 → l <ℤ pos 0
    → m <ℤ pos 0 → ⊥
not_both D l m n Q e f g h k p = omega (arith, ints)

nor_these : (D l m n Q : ℤ) → Q ≡ ((n +ℤ l) +ℤ m) -ℤ D → pos 0 <ℤ neg_ℤ D → Q <ℤ pos 0 → pos 0 <ℤ n → pos 0 <ℤ l
    → pos 0 <ℤ m → ⊥
nor_these D l m n Q e f g h k p = omega (arith, ints)

weights : (D l m n Q : ℤ) → Passed D l m n Q → Weights D l m n
weights D l m n Q p =
    elim (apart (neg_ℤ D) Q p.ends_apart) [
      | inl e ↦
          elim (alike n l m p.round) [
            | inl f ↦
                (let r = positive D (let k : pos 0 <ℤ D = (let g = e.0 in omega (arith, ints)) in k) in
                let s = positive Q e.1 in
                let i = positive l f.1 in
                let j = positive m f.2 in
                let k = positive n f.0 in
                record {
                  i = i.n;
                  j = j.n;
                  k = k.n;
                  r = r.n;
                  s = s.n;
                  some_i = i.some;
                  some_j = j.some;
                  some_k = k.some;
                  some_r = r.some;
                  some_s = s.some;
                  sum = up_sum D l m n Q r.n s.n i.n j.n k.n p.end r.is s.is i.is j.is k.is;
                  mean = λ u a b c e. sym (ap (λ (x : ℤ). x *ℤ u) r.is) ∙ e
                      ∙ ap₂ ◌+ℤ◌ (ap₂ ◌+ℤ◌ (ap (λ (x : ℤ). x *ℤ a) i.is) (ap (λ (x : ℤ). x *ℤ b) j.is))
                      (ap (λ (x : ℤ). x *ℤ c) k.is);
                })
            | inr f ↦ absurd (not_both D l m n Q p.end e.0 e.1 f.0 f.1 f.2)
          ]
      | inr e ↦
          elim (alike n l m p.round) [
            | inl f ↦ absurd (nor_these D l m n Q p.end e.0 e.1 f.0 f.1 f.2)
            | inr f ↦
                (let r = positive (neg_ℤ D) e.0 in
                let s = neg_positive Q e.1 in
                let i = neg_positive l f.1 in
                let j = neg_positive m f.2 in
                let k = neg_positive n f.0 in
                record {
                  i = i.n;
                  j = j.n;
                  k = k.n;
                  r = r.n;
                  s = s.n;
                  some_i = i.some;
                  some_j = j.some;
                  some_k = k.some;
                  some_r = r.some;
                  some_s = s.some;
                  sum = down_sum D l m n Q r.n s.n i.n j.n k.n p.end r.is s.is i.is j.is k.is;
                  mean = λ u a b c e. all_turned (D *ℤ u) (l *ℤ a) (m *ℤ b) (n *ℤ c) _ _ _ _ e (neg_weight D u r.n r.is)
                      (neg_weight l a i.n i.is) (neg_weight m b j.n j.is) (neg_weight n c k.n k.is);
                })
          ]
    ]

-- where an edge meets a triangle, in one coordinate as seen from the begin of the edge
abbrev Meet : ℤ → ℤ → ℤ → ℤ → ℤ → ℤ → ℤ → ℤ → Type 0
Meet D l m n u a b c = D *ℤ u ≡ ((l *ℤ a) +ℤ (m *ℤ b)) +ℤ (n *ℤ c)

ahead : (D l m n u a b c : ℤ) → Weights D l m n → Meet D l m n u a b c → pos 0 ≤ℤ a → pos 0 ≤ℤ b → pos 0 ≤ℤ c → u ≤ℤ a
    → u ≤ℤ b → u ≤ℤ c → AllNone u a b c
ahead D l m n u a b c w e = beyond w.i w.j w.k w.r w.s u a b c w.some_i w.some_j w.some_k w.some_r w.some_s w.sum
    (w.mean u a b c e)

turned_back : (u : ℤ) → neg_ℤ u ≡ pos 0 → u ≡ pos 0
turned_back u e = omega (arith, ints)

neg_none : (a : ℤ) → a ≤ℤ pos 0 → pos 0 ≤ℤ neg_ℤ a
neg_none a h = omega (arith, ints)

neg_less : (a u : ℤ) → a ≤ℤ u → neg_ℤ u ≤ℤ neg_ℤ a
neg_less a u h = omega (arith, ints)

behind : (D l m n u a b c : ℤ) → Weights D l m n → Meet D l m n u a b c → a ≤ℤ pos 0 → b ≤ℤ pos 0 → c ≤ℤ pos 0 → a ≤ℤ u
    → b ≤ℤ u → c ≤ℤ u → AllNone u a b c
behind D l m n u a b c w e a0 b0 c0 ua ub uc =
    let mean = all_turned (pos w.r *ℤ u) (pos w.i *ℤ a) (pos w.j *ℤ b) (pos w.k *ℤ c) _ _ _ _ (w.mean u a b c e)
    (mul-neg (pos w.r) u) (mul-neg (pos w.i) a) (mul-neg (pos w.j) b) (mul-neg (pos w.k) c) in
    let all = beyond w.i w.j w.k w.r w.s (neg_ℤ u) (neg_ℤ a) (neg_ℤ b) (neg_ℤ c) w.some_i w.some_j w.some_k w.some_r
    w.some_s w.sum mean (neg_none a a0) (neg_none b b0) (neg_none c c0) (neg_less a u ua) (neg_less b u ub)
    (neg_less c u uc) in
    record {
      of_u = turned_back u all.of_u;
      of_a = turned_back a all.of_a;
      of_b = turned_back b all.of_b;
      of_c =
          turned_back c all.of_c;
    }

-- ---- edges and triangles on two sides of a plane across x
pub from_true : (b : Bool) → (b ≡ true → ⊥) → b ≡ false
from_true true f = absurd (f refl)
from_true false f = refl

-- the weights of an edge that passes through a triangle
abbrev pub WeightsOf : Point → Point → Corners → Type 0
WeightsOf p q t = Weights (determinant (seen_from p t.a) (seen_from p t.b) (seen_from p t.c)) (turn p q t.b t.c)
    (turn p q t.c t.a) (turn p q t.a t.b)

pub ends_apart : (p q : Point) (t : Corners) → passes p q t ≡ true
    → are_opposite (turn t.a t.b t.c p) (turn t.a t.b t.c q) ≡ true
unfolding passes
ends_apart p q t e = (and_parts (are_opposite (turn t.a t.b t.c p) (turn t.a t.b t.c q))
    (have_one_sign (turn p q t.a t.b) (turn p q t.b t.c) (turn p q t.c t.a)) e).0

pub passed_weights : (p q : Point) (t : Corners) → passes p q t ≡ true → WeightsOf p q t
unfolding passes
passed_weights p q t e =
    let w = and_parts (are_opposite (turn t.a t.b t.c p) (turn t.a t.b t.c q))
    (have_one_sign (turn p q t.a t.b) (turn p q t.b t.c) (turn p q t.c t.a)) e in
    weights (determinant (seen_from p t.a) (seen_from p t.b) (seen_from p t.c)) (turn p q t.b t.c) (turn p q t.c t.a)
    (turn p q t.a t.b) (turn t.a t.b t.c q)
    (record {
      end = after p q t.a t.b t.c;
      ends_apart =
          sym (ap (λ (k : ℤ). are_opposite k (turn t.a t.b t.c q)) (before p t.a t.b t.c)) ∙ w.0;
      round = w.1;
    })

-- an edge whose begin lies in the plane of the triangle does not pass through it
pub touches : (p q : Point) (t : Corners) → turn t.a t.b t.c p ≡ pos 0 → passes p q t ≡ false
unfolding passes
touches p q t e = ap (λ (k : ℤ). are_opposite k (turn t.a t.b t.c q) && have_one_sign (turn p q t.a t.b)
    (turn p q t.b t.c) (turn p q t.c t.a)) e

none_passed : (p q : Point) (t : Corners) → AllNone (q.x -ℤ p.x) (t.a.x -ℤ p.x) (t.b.x -ℤ p.x) (t.c.x -ℤ p.x)
    → passes p q t ≡ false
none_passed p q t w = touches p q t (flat_x p t.a t.b t.c w.of_a w.of_b w.of_c)

-- all corners are at most m, and at least m
pub record Under (t : Corners) (m : ℤ) : Type 0 where
  pub a : t.a.x ≤ℤ m
  pub b : t.b.x ≤ℤ m
  pub c : t.c.x ≤ℤ m

pub record Over (t : Corners) (m : ℤ) : Type 0 where
  pub a : m ≤ℤ t.a.x
  pub b : m ≤ℤ t.b.x
  pub c : m ≤ℤ t.c.x

over : (p a m : ℤ) → p ≤ℤ m → m ≤ℤ a → pos 0 ≤ℤ (a -ℤ p)
over p a m h k = omega (arith, ints)

over_both : (p q a m : ℤ) → q ≤ℤ m → m ≤ℤ a → (q -ℤ p) ≤ℤ (a -ℤ p)
over_both p q a m h k = omega (arith, ints)

under : (p a m : ℤ) → m ≤ℤ p → a ≤ℤ m → (a -ℤ p) ≤ℤ pos 0
under p a m h k = omega (arith, ints)

passes_over : (p q : Point) (t : Corners) (m : ℤ) → p.x ≤ℤ m → q.x ≤ℤ m → Over t m → passes p q t ≡ false
passes_over p q t m h k o =
    from_true (passes p q t) (λ e.
    let all = ahead _ _ _ _ _ _ _ _ (passed_weights p q t e) (mean_x p q t.a t.b t.c) (over p.x t.a.x m h o.a)
    (over p.x t.b.x m h o.b) (over p.x t.c.x m h o.c) (over_both p.x q.x t.a.x m k o.a)
    (over_both p.x q.x t.b.x m k o.b) (over_both p.x q.x t.c.x m k o.c) in
    let f : true ≡ false = sym e ∙ none_passed p q t all in
    absurd (let g : ⊥ = cc in g))

passes_under : (p q : Point) (t : Corners) (m : ℤ) → m ≤ℤ p.x → m ≤ℤ q.x → Under t m → passes p q t ≡ false
passes_under p q t m h k o =
    from_true (passes p q t) (λ e.
    let all = behind _ _ _ _ _ _ _ _ (passed_weights p q t e) (mean_x p q t.a t.b t.c) (under p.x t.a.x m h o.a)
    (under p.x t.b.x m h o.b) (under p.x t.c.x m h o.c) (over_both p.x t.a.x q.x m o.a k)
    (over_both p.x t.b.x q.x m o.b k) (over_both p.x t.c.x q.x m o.c k) in
    let f : true ≡ false = sym e ∙ none_passed p q t all in
    absurd (let g : ⊥ = cc in g))

none_of : (x y z : Bool) → x ≡ false → y ≡ false → z ≡ false → (x || y || z) ≡ false
none_of x y z e f g = ap₂ ◌||◌ (ap₂ ◌||◌ e f) g

pub parted_x : (s t : Corners) (m : ℤ) → Under s m → Over t m → cross s t ≡ false
unfolding cross pierces
parted_x s t m u o =
    ap₂ ◌||◌
    (none_of (passes s.a s.b t) (passes s.b s.c t) (passes s.c s.a t) (passes_over s.a s.b t m u.a u.b o)
    (passes_over s.b s.c t m u.b u.c o) (passes_over s.c s.a t m u.c u.a o))
    (none_of (passes t.a t.b s) (passes t.b t.c s) (passes t.c t.a s) (passes_under t.a t.b s m o.a o.b u)
    (passes_under t.b t.c s m o.b o.c u) (passes_under t.c t.a s m o.c o.a u))
