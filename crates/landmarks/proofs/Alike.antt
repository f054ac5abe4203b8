-- Pieces that lead once round from one mark and begin at the same marks are alike.
use Rattle.std.proofs.Common.{◌≡◌, ℕ, zero, suc, ◌+◌, ◌%◌, ◌<◌, ◌≤◌, List, [], ◌∷◌, All, Contains, map, length, get_or, refl, ap, ap₂, sym, ◌∙◌, subst, subst₂, arith, inl, inr}
use Rattle.std.specs.List.Sorted.{IsPermutation}
use Rattle.std.specs.List.{AllByRecursion}
use Rattle.std.proofs.lemmas.Bool.{cases_lt}
use Rattle.std.proofs.lemmas.List.Elements.{All-head, All-tail, All-cons, All-nil, All-weaker, All-contains_itself, All-from_get_or}
use Rattle.std.proofs.lemmas.List.Sorted.{IsPermutation-sym, IsPermutation-trans, All-permutation, length_permutation}
use Rattle.std.proofs.Math.Nat.{add_assoc}
use Rattle.landmarks.specs.declared.marks.Mark.{Mark}
use Rattle.landmarks.specs.declared.pieces.Piece.{Piece}
use Rattle.landmarks.specs.Faults.{mark_at, distance_after}
use Rattle.landmarks.proofs.Rounds.{mod_cases, before_end, one_place}
use Rattle.landmarks.proofs.Apart.{apart, inside, others}
use Rattle.landmarks.proofs.Orders.{after_hi, after_lo, after_differs}
use Rattle.landmarks.proofs.Through.{rows_of, cols_of, rows_of-sum, cols_of-sum, AreLaid}
use Rattle.landmarks.proofs.Soundness.{AreSet, start_in, laid_on, each_map, laid_set}

-- the place of a mark, counted from r
pub place_of : (m r s x : ℕ) → r < m → s < m → (r + s) % m ≡ x → distance_after m r x ≡ s
place_of m r s x lr ls e =
    elim (mod_cases (r + s) m (omega arith)) [
      | inl p ↦ omega (arith, p.0, p.1, e, after_hi m r x (omega (arith, p.0, p.1, e)) (omega (arith, p.1, e)))
      | inr p ↦ omega (arith, p.0, p.1, e, after_lo m r x lr (omega (arith, p.1, e)))
    ]

-- the pieces begin less than once round from the first one, and they end there
abbrev AreExact : ℕ → ℕ → ℕ → ℕ → List Piece → Type 0
AreExact m n s t [] = (s ≡ m) × (t ≡ n)
AreExact m n s t (p ∷ ps) = (s < m) × (t < n) × AreExact m n (s + p.rows) (t + p.cols) ps

exact : (m n r c s t : ℕ) (ps : List Piece) → r < m → c < n → s + rows_of ps ≡ m → t + cols_of ps ≡ n
    → AreLaid m n (r + s) (c + t) ps → AllByRecursion (λ p. (p.from.row ≡ r → ⊥) × (p.from.col ≡ c → ⊥)) ps
    → AreExact m n s t ps
exact m n r c s t [] lr lc rows cols laid ne = (omega (arith, rows), omega (arith, cols))
exact m n r c s t (p ∷ ps) lr lc rows cols laid ne = (
  before_end m r s p.from.row lr (omega (arith, rows)) laid.0 ne.0.0,
  before_end n c t p.from.col lc (omega (arith, cols)) laid.1 ne.0.1,
  exact m n r c (s + p.rows) (t + p.cols) ps lr lc (omega (arith, rows)) (omega (arith, cols))
      (subst (λ (i : ℕ). AreLaid m n i (c + (t + p.cols)) ps) (add_assoc r s p.rows)
      (subst (λ (j : ℕ). AreLaid m n (r + s + p.rows) j ps) (add_assoc c t p.cols) laid.2)) ne.1,
)

-- pieces that begin at the same places are the same
abbrev pub IsLike : Piece → Piece → Type 0
IsLike p q = (p.from ≡ q.from) × (p.rows ≡ q.rows) × (p.cols ≡ q.cols)

abbrev pub AreLike : List Piece → List Piece → Type 0
AreLike [] [] = Unit {0}
AreLike [] (q ∷ qs) = ⊥
AreLike (p ∷ ps) [] = ⊥
AreLike (p ∷ ps) (q ∷ qs) = IsLike p q × AreLike ps qs

tails : (x y : Mark) (xs ys : List Mark) → x ∷ xs ≡ y ∷ ys → (x ≡ y) × (xs ≡ ys)
tails x y xs ys e = ((cc), (cc))

alike : (m n r c s t : ℕ) (ps qs : List Piece) → r < m → c < n → map (λ p. p.from) ps ≡ map (λ p. p.from) qs
    → AreLaid m n (r + s) (c + t) ps → AreLaid m n (r + s) (c + t) qs → AreExact m n s t ps → AreExact m n s t qs
    → AreLike ps qs
alike m n r c s t [] [] lr lc e l k x y = tt
alike m n r c s t [] (q ∷ qs) lr lc e l k x y = omega (arith, x.0, y.0)
alike m n r c s t (p ∷ ps) [] lr lc e l k x y = omega (arith, x.0, y.0)
alike m n r c s t (p ∷ []) (q ∷ []) lr lc e l k x y =
    (((tails p.from q.from [] [] e).0, omega (arith, x.2.0, y.2.0), omega (arith, x.2.1, y.2.1)), tt)
alike m n r c s t (p ∷ []) (q ∷ q2 ∷ qs) lr lc e l k x y = absurd (omega (arith, ap length e))
alike m n r c s t (p ∷ p2 ∷ ps) (q ∷ []) lr lc e l k x y = absurd (omega (arith, ap length e))
alike m n r c s t (p ∷ p2 ∷ ps) (q ∷ q2 ∷ qs) lr lc e l k x y =
    let f = tails p.from q.from (map (λ (z : Piece). z.from) (p2 ∷ ps)) (map (λ (z : Piece). z.from) (q2 ∷ qs)) e in
    let g = tails p2.from q2.from (map (λ (z : Piece). z.from) ps) (map (λ (z : Piece). z.from) qs) f.1 in
    let row : s + p.rows ≡ s + q.rows =
    one_place m r (s + p.rows) (s + q.rows) lr (omega (arith, x.2.0)) (omega (arith, y.2.0)) (omega (arith, x.2.0))
    (omega (arith, y.2.0)) (ap (λ (i : ℕ). i % m) (sym (add_assoc r s p.rows)) ∙ l.2.0
    ∙ ap (λ (z : Mark). z.row) g.0 ∙ sym k.2.0 ∙ ap (λ (i : ℕ). i % m) (add_assoc r s q.rows)) in
    let col : t + p.cols ≡ t + q.cols =
    one_place n c (t + p.cols) (t + q.cols) lc (omega (arith, x.2.1)) (omega (arith, y.2.1)) (omega (arith, x.2.1))
    (omega (arith, y.2.1)) (ap (λ (i : ℕ). i % n) (sym (add_assoc c t p.cols)) ∙ l.2.1
    ∙ ap (λ (z : Mark). z.col) g.0 ∙ sym k.2.1 ∙ ap (λ (i : ℕ). i % n) (add_assoc c t q.cols)) in
    let laid_p = subst₂ (λ (i j : ℕ). AreLaid m n i j (p2 ∷ ps)) (add_assoc r s p.rows) (add_assoc c t p.cols) l.2 in
    let laid_q = subst₂ (λ (i j : ℕ). AreLaid m n i j (q2 ∷ qs))
    (add_assoc r s q.rows ∙ ap (λ (z : ℕ). r + z) (sym row))
    (add_assoc c t q.cols ∙ ap (λ (z : ℕ). c + z) (sym col)) k.2 in
    let exact_q = subst₂ (λ (i j : ℕ). AreExact m n i j (q2 ∷ qs)) (sym row) (sym col) y.2 in (
      (f.0, omega (arith, row), omega (arith, col)),
      alike m n r c (s + p.rows) (t + p.cols) (p2 ∷ ps) (q2 ∷ qs) lr lc f.1 laid_p laid_q x.2 exact_q,
    )

-- marks that rise by a number
abbrev Rising : (Mark → ℕ) → List Mark → Type 0
Rising key [] = Unit {0}
Rising key (x ∷ xs) = All (λ y. key x < key y) xs × Rising key xs

-- where marks come after the first, they come after the other list's first
behind : (key : Mark → ℕ) (x y : Mark) (xs ys : List Mark) → x ≡ y → All (λ z. key x < key z) xs
    → All (Contains (y ∷ ys)) xs → All (Contains ys) xs
behind key x y xs ys e up has k d lt = at (has k d lt) (up k d lt)
  where
    at : Contains (y ∷ ys) (get_or xs k d) → key x < key (get_or xs k d) → Contains ys (get_or xs k d)
    at (zero, in', f) less = absurd (omega (arith, less, ap key (e ∙ f)))
    at (suc i, in', f) less = (i, omega arith, f)

-- two rising lists of the same marks are equal
same_rising : (key : Mark → ℕ) (xs ys : List Mark) → Rising key xs → Rising key ys → All (Contains ys) xs
    → All (Contains xs) ys → xs ≡ ys
same_rising key [] [] r s h k = refl
same_rising key [] (y ∷ ys) r s h k = absurd (omega (arith, (All-head (Contains []) y ys k).1))
same_rising key (x ∷ xs) [] r s h k = absurd (omega (arith, (All-head (Contains []) x xs h).1))
same_rising key (x ∷ xs) (y ∷ ys) r s h k =
    let e = head (All-head (Contains (y ∷ ys)) x xs h) (All-head (Contains (x ∷ xs)) y ys k) in
    ap₂ (λ (z : Mark) (zs : List Mark). z ∷ zs) e
    (same_rising key xs ys r.1 s.1 (behind key x y xs ys e r.0 (All-tail (Contains (y ∷ ys)) x xs h))
    (behind key y x ys xs (sym e) s.0 (All-tail (Contains (x ∷ xs)) y ys k)))
  where
    head : Contains (y ∷ ys) x → Contains (x ∷ xs) y → x ≡ y
    head (zero, in', f) c = sym f
    head (suc i, in', f) (zero, in'', g) = g
    head (suc i, in', f) (suc j, in'', g) =
        absurd (omega (arith, s.0 i x (omega arith), ap key f, r.0 j y (omega arith), ap key g))

-- the marks of a list have different rows
abbrev Differ : List Mark → Type 0
Differ [] = Unit {0}
Differ (x ∷ xs) = All (λ k. k.row ≡ x.row → ⊥) xs × Differ xs

differ_of : (xs : List Mark) → ((i j : ℕ) → i < j → j < length xs → (mark_at xs i).row ≡ (mark_at xs j).row → ⊥)
    → Differ xs
differ_of [] h = tt
differ_of (x ∷ xs) h = (
  All-from_get_or (λ k. k.row ≡ x.row → ⊥) xs (record { row = 0; col = 0 })
      (λ i lt e. h 0 (suc i) (omega arith) (omega arith) (sym e)),
  differ_of xs (λ i j lt le e. h (suc i) (suc j) (omega arith) (omega arith) e),
)

-- the beginnings of pieces in turn, by their places from the first one
above : (m n r c s t : ℕ) (ps : List Piece) → r < m → AreLaid m n (r + s) (c + t) ps → AreExact m n s t ps
    → All (λ k. s ≤ distance_after m r k.row) (map (λ p. p.from) ps)
above m n r c s t [] lr l x = All-nil (λ k. s ≤ distance_after m r k.row)
above m n r c s t (p ∷ ps) lr l x =
    All-cons (λ k. s ≤ distance_after m r k.row) p.from (map (λ q. q.from) ps)
    (omega (arith, place_of m r s p.from.row lr x.0 l.0))
    (All-weaker (λ k. s + p.rows ≤ distance_after m r k.row) (λ k. s ≤ distance_after m r k.row)
    (λ k h. omega (arith, h)) (map (λ q. q.from) ps)
    (above m n r c (s + p.rows) (t + p.cols) ps lr
    (subst₂ (λ (i j : ℕ). AreLaid m n i j ps) (add_assoc r s p.rows) (add_assoc c t p.cols) l.2) x.2))

pub rising : (m n r c s t : ℕ) (ps : List Piece) → r < m → AreLaid m n (r + s) (c + t) ps → AreExact m n s t ps
    → All (λ k. k.row < m) (map (λ p. p.from) ps) → Differ (map (λ p. p.from) ps)
    → Rising (λ k. distance_after m r k.row) (map (λ p. p.from) ps)
rising m n r c s t [] lr l x low d = tt
rising m n r c s t (p ∷ ps) lr l x low d =
    let froms = map (λ (q : Piece). q.from) ps in
    let laid = subst₂ (λ (i j : ℕ). AreLaid m n i j ps) (add_assoc r s p.rows) (add_assoc c t p.cols) l.2 in
    let up = above m n r c (s + p.rows) (t + p.cols) ps lr laid x.2 in
    let low' = All-tail (λ k. k.row < m) p.from froms low in (
      (λ k e lt. strict (get_or froms k e) (up k e lt) (d.0 k e lt) (low' k e lt)),
      rising m n r c (s + p.rows) (t + p.cols) ps lr laid x.2 low' d.1,
    )
  where
    here : distance_after m r p.from.row ≡ s
    here = place_of m r s p.from.row lr x.0 l.0

    strict : (z : Mark) → s + p.rows ≤ distance_after m r z.row → (z.row ≡ p.from.row → ⊥) → z.row < m
        → distance_after m r p.from.row < distance_after m r z.row
    strict z h ne lz =
        elim (cases_lt (distance_after m r p.from.row) (distance_after m r z.row)) [
          | inl less ↦ less
          | inr ge ↦ absurd (after_differs m r z.row p.from.row lr lz
              (All-head (λ k. k.row < m) p.from (map (λ q. q.from) ps) low) ne (omega (arith, here, h)))
        ]

-- pieces that are set lie at exact places
exact_set : (m n : ℕ) (marks : List Mark) (at : Mark) (ps : List Piece) → AreSet m n marks at ps → AreExact m n 0 0 ps
exact_set m n marks at [] s = absurd (omega (arith, s.good.some, length_permutation marks [] s.begins))
exact_set m n marks at (p ∷ ps) s =
    let start = start_in m n marks at (p ∷ ps) s in
    let laid = laid_on m n marks at (p ∷ ps) s in
    let tail = map (λ (q : Piece). q.from) ps in
    let ne = subst (λ (k : Mark). All (λ e. (e.row ≡ k.row → ⊥) × (e.col ≡ k.col → ⊥)) tail) s.joined.0
    (others m n marks p.from tail s.good s.begins) in (
      omega (arith, start.0),
      omega (arith, start.1),
      exact m n at.row at.col (0 + p.rows) (0 + p.cols) ps start.0 start.1
          (omega (arith, s.rows_sum, rows_of-sum (p ∷ ps))) (omega (arith, s.cols_sum, cols_of-sum (p ∷ ps)))
          (subst₂ (λ (i j : ℕ). AreLaid m n i j ps) (zero_add at.row p.rows) (zero_add at.col p.cols) laid.2)
          (each_map (λ e. (e.row ≡ at.row → ⊥) × (e.col ≡ at.col → ⊥)) ps ne),
    )
  where
    zero_add : (x y : ℕ) → x + y ≡ x + (0 + y)
    zero_add x y = omega arith

-- they rise
rising_set : (m n : ℕ) (marks : List Mark) (at : Mark) (ps : List Piece) → AreSet m n marks at ps
    → Rising (λ k. distance_after m at.row k.row) (map (λ p. p.from) ps)
rising_set m n marks at ps s =
    let froms = map (λ (q : Piece). q.from) ps in
    rising m n at.row at.col 0 0 ps (start_in m n marks at ps s).0 (laid_set m n marks at ps s)
    (exact_set m n marks at ps s) (All-weaker (λ k. (k.row < m) × (k.col < n)) (λ k. k.row < m) (λ k h. h.0) froms
    (inside m n marks froms s.good s.begins))
    (differ_of froms (λ i j lt le e. apart m n marks froms s.good s.begins i j lt le (inl e)))

-- so their beginnings, rows and columns are determined
pub alike_set : (m n : ℕ) (marks : List Mark) (at : Mark) (ps qs : List Piece) → AreSet m n marks at ps
    → AreSet m n marks at qs → AreLike ps qs
alike_set m n marks at ps qs s u =
    let start = start_in m n marks at ps s in
    let xs = map (λ (q : Piece). q.from) ps in
    let ys = map (λ (q : Piece). q.from) qs in
    let same : IsPermutation xs ys = IsPermutation-trans xs marks ys (IsPermutation-sym marks xs s.begins) u.begins in
    let e = same_rising (λ k. distance_after m at.row k.row) xs ys (rising_set m n marks at ps s)
    (rising_set m n marks at qs u) (All-permutation (Contains ys) ys xs (IsPermutation-sym xs ys same)
    (All-contains_itself ys)) (All-permutation (Contains xs) xs ys same (All-contains_itself xs)) in
    alike m n at.row at.col 0 0 ps qs start.0 start.1 e (laid_set m n marks at ps s) (laid_set m n marks at qs u)
    (exact_set m n marks at ps s) (exact_set m n marks at qs u)
