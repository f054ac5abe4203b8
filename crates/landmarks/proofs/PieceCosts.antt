-- What a word through pieces costs, and that no other word through them costs less than canonical parts.
use Rattle.std.proofs.Common.{◌≡◌, ℕ, ◌+◌, ◌%◌, ◌<◌, ◌≤◌, pos, ◌+ℤ◌, ◌≤ℤ◌, List, [], ◌∷◌, ◌++◌, take, drop, length, take-append-drop, refl, ap, ap₂, sym, ◌∙◌, subst, subst₂, arith}
use Rattle.std.proofs.lemmas.Int.{ints}
use Rattle.plane_geom.specs.Planes.{signed_sum}
use Rattle.strip_graph.specs.declared.tilings.Step.{Step}
use Rattle.strip_graph.specs.declared.tilings.Step.TheVariants.{V, H}
use Rattle.strip_graph.specs.Words.{Arcs, count_v, count_h, word_cost, HasLetters, IsNotAfter}
use Rattle.strip_graph.proofs.WordLaws.{Periodic, word_cost-append, word_cost-at, length-letters}
use Rattle.strip_graph.proofs.LeastWords.{distance-le}
use Rattle.landmarks.specs.declared.pieces.Piece.{Piece}
use Rattle.landmarks.specs.Pieces.{AreParts, IsBound, phi_at}
use Rattle.landmarks.specs.Chains.{AreOfCanonicalWords}
use Rattle.std.proofs.Math.Nat.{mod-eq_of_lt}
use Rattle.std.specs.List.{AllByRecursion}
use Rattle.landmarks.proofs.Rounds.{word_cost-same}
use Rattle.landmarks.proofs.Through.{AreInside, AreLaid, GoesThrough}

-- its cost, where its first part is taken from the piece's first place
cost_parts : (a : Arcs) (m n i j : ℕ) (p : Piece) (w : List Step) → Periodic a m n → p.from.row < m → p.from.col < n
    → i % m ≡ p.from.row → j % n ≡ p.from.col → HasLetters p.rows p.cols (take (p.rows + p.cols) w)
    → word_cost a i j w ≡ word_cost a p.from.row p.from.col (take (p.rows + p.cols) w)
    + word_cost a (i + p.rows) (j + p.cols) (drop (p.rows + p.cols) w)
cost_parts a m n i j p w per lt lt' e f l =
    let u = take (p.rows + p.cols) w in
    let b = drop (p.rows + p.cols) w in
    omega (
      arith,
      ap (word_cost a i j) (take-append-drop (p.rows + p.cols) w),
      word_cost-append a i j u b,
      word_cost-same a m n per i p.from.row j p.from.col u (e ∙ sym (mod-eq_of_lt lt)) (f ∙ sym (mod-eq_of_lt lt')),
      word_cost-at a (i + count_v u) (i + p.rows) (j + count_h u) (j + p.cols) b (ap (λ (x : ℕ). i + x) l.v)
          (ap (λ (x : ℕ). j + x) l.h),
    )

-- the parts' costs add up to the word's
pub cost_sum : (a : Arcs) (m n i j : ℕ) (ps : List Piece) (w : List Step) → Periodic a m n → AreInside m n ps
    → AreLaid m n i j ps → AreParts a ps w → signed_sum (λ p. p.cost) ps ≡ pos (word_cost a i j w)
cost_sum a m n i j [] w per k l q = ap (λ (x : List Step). pos (word_cost a i j x)) (sym q)
cost_sum a m n i j (p ∷ ps) w per k l q =
    omega (
      arith,
      ints,
      q.0.cost,
      cost_parts a m n i j p w per k.0.0 k.0.1 l.0 l.1 q.0.letters,
      cost_sum a m n (i + p.rows) (j + p.cols) ps (drop (p.rows + p.cols) w) per k.1 l.2 q.1,
    )

-- along a word inside a piece the values rise by at most its cost
climbs : (a : Arcs) (p : Piece) → IsBound a p → (r c : ℕ) (w : List Step) → r + count_v w ≤ p.rows
    → c + count_h w ≤ p.cols
    → phi_at p (r + count_v w) (c + count_h w) ≤ℤ
    (phi_at p r c +ℤ pos (word_cost a (p.from.row + r) (p.from.col + c) w))
climbs a p b r c [] le le' = omega (arith, ints, at (r + 0) r (c + 0) c (omega arith) (omega arith))
  where
    at : (r r' c c' : ℕ) → r ≡ r' → c ≡ c' → phi_at p r c ≡ phi_at p r' c'
    at r r' c c' e f = ap₂ (phi_at p) e f
climbs a p b r c (V ∷ w) le le' =
    omega (
      arith,
      ints,
      b.down r c (omega arith) (omega arith),
      climbs a p b (r + 1) c w (omega arith) le',
      ap (λ (x : ℕ). phi_at p x (c + count_h w)) (more r (count_v w)),
      word_cost-at a (p.from.row + (r + 1)) (p.from.row + r + 1) (p.from.col + c) (p.from.col + c) w (omega arith) refl,
    )
  where
    more : (r x : ℕ) → r + (1 + x) ≡ r + 1 + x
    more r x = omega arith
climbs a p b r c (H ∷ w) le le' =
    omega (
      arith,
      ints,
      b.right r c (omega arith) (omega arith),
      climbs a p b r (c + 1) w le (omega arith),
      ap (λ (x : ℕ). phi_at p (r + count_v w) x) (more c (count_h w)),
      word_cost-at a (p.from.row + r) (p.from.row + r) (p.from.col + (c + 1)) (p.from.col + c + 1) w refl (omega arith),
    )
  where
    more : (r x : ℕ) → r + (1 + x) ≡ r + 1 + x
    more r x = omega arith

-- so no word from the first place to the last one costs less than the piece
pub bound_part : (a : Arcs) (p : Piece) (w : List Step) → IsBound a p → HasLetters p.rows p.cols w
    → p.cost ≤ℤ pos (word_cost a p.from.row p.from.col w)
bound_part a p w b l =
    omega (
      arith,
      ints,
      b.rise,
      climbs a p b 0 0 w (omega (arith, l.v)) (omega (arith, l.h)),
      ap₂ (phi_at p) (zero_add (count_v w) p.rows l.v) (zero_add (count_h w) p.cols l.h),
      word_cost-at a (p.from.row + 0) p.from.row (p.from.col + 0) p.from.col w (omega arith) (omega arith),
    )
  where
    zero_add : (x y : ℕ) → x ≡ y → 0 + x ≡ y
    zero_add x y e = omega arith

-- and no word through the pieces costs less than they do together
pub bound_sum : (a : Arcs) (m n i j : ℕ) (ps : List Piece) (w : List Step) → Periodic a m n → AreInside m n ps
    → AreLaid m n i j ps → AllByRecursion (IsBound a) ps → GoesThrough ps w
    → signed_sum (λ p. p.cost) ps ≤ℤ pos (word_cost a i j w)
bound_sum a m n i j [] w per k l b q = omega (arith, ints)
bound_sum a m n i j (p ∷ ps) w per k l b q =
    omega (
      arith,
      ints,
      bound_part a p (take (p.rows + p.cols) w) b.0 q.0,
      cost_parts a m n i j p w per k.0.0 k.0.1 l.0 l.1 q.0,
      bound_sum a m n (i + p.rows) (j + p.cols) ps (drop (p.rows + p.cols) w) per k.1 l.2 b.1 q.1,
    )

-- words of one length compare as their fronts, and then as their backs
not_after-append : (u v w x : List Step) → length u ≡ length v → IsNotAfter u v → IsNotAfter w x
    → IsNotAfter (u ++ w) (v ++ x)
not_after-append [] [] w x e p q = q
not_after-append [] (s ∷ v) w x e p q = absurd (omega (arith, e))
not_after-append (s ∷ u) [] w x e p q = absurd (omega (arith, e))
not_after-append (V ∷ u) (V ∷ v) w x e p q = not_after-append u v w x (omega (arith, e)) p q
not_after-append (V ∷ u) (H ∷ v) w x e p q = tt
not_after-append (H ∷ u) (V ∷ v) w x e p q = absurd p
not_after-append (H ∷ u) (H ∷ v) w x e p q = not_after-append u v w x (omega (arith, e)) p q

-- canonical parts cost least together
least_parts : (a : Arcs) (m n i j : ℕ) (ps : List Piece) (w u : List Step) → Periodic a m n → AreInside m n ps
    → AreLaid m n i j ps → AreOfCanonicalWords a ps w → GoesThrough ps u → word_cost a i j w ≤ word_cost a i j u
least_parts a m n i j [] w u per k l f g = omega (arith, ap (word_cost a i j) f)
least_parts a m n i j (p ∷ ps) w u per k l f g =
    omega (
      arith,
      cost_parts a m n i j p w per k.0.0 k.0.1 l.0 l.1 f.0.letters,
      cost_parts a m n i j p u per k.0.0 k.0.1 l.0 l.1 g.0,
      f.0.least,
      distance-le a p.from.row p.from.col p.rows p.cols (take (p.rows + p.cols) u) g.0,
      least_parts a m n (i + p.rows) (j + p.cols) ps (drop (p.rows + p.cols) w) (drop (p.rows + p.cols) u) per k.1 l.2
          f.1 g.1,
    )

-- and together they are first among the words through the pieces that cost no more
pub first_parts : (a : Arcs) (m n i j : ℕ) (ps : List Piece) (w u : List Step) → Periodic a m n → AreInside m n ps
    → AreLaid m n i j ps → AreOfCanonicalWords a ps w → GoesThrough ps u → word_cost a i j u ≤ word_cost a i j w
    → IsNotAfter w u
first_parts a m n i j [] w u per k l f g le = subst (λ (x : List Step). IsNotAfter x u) (sym f) tt
first_parts a m n i j (p ∷ ps) w u per k l f g le =
    let w1 = take (p.rows + p.cols) w in
    let u1 = take (p.rows + p.cols) u in
    let w2 = drop (p.rows + p.cols) w in
    let u2 = drop (p.rows + p.cols) u in
    let cw = cost_parts a m n i j p w per k.0.0 k.0.1 l.0 l.1 f.0.letters in
    let cu = cost_parts a m n i j p u per k.0.0 k.0.1 l.0 l.1 g.0 in
    let d = distance-le a p.from.row p.from.col p.rows p.cols u1 g.0 in
    let rest = least_parts a m n (i + p.rows) (j + p.cols) ps w2 u2 per k.1 l.2 f.1 g.1 in
    let head = f.0.first u1 g.0 (omega (arith, cw, cu, d, rest, le, f.0.least)) in
    let tail = first_parts a m n (i + p.rows) (j + p.cols) ps w2 u2 per k.1 l.2 f.1 g.1
    (omega (arith, cw, cu, d, le, f.0.least)) in
    let len : length w1 ≡ length u1 = omega
    (arith, length-letters w1, length-letters u1, f.0.letters.v, f.0.letters.h, g.0.v, g.0.h) in
    subst₂ IsNotAfter (take-append-drop (p.rows + p.cols) w) (take-append-drop (p.rows + p.cols) u)
    (not_after-append w1 u1 w2 u2 len head tail)
