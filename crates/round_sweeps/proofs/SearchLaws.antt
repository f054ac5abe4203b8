-- What a search back notes leads along the first least word of a turn.
use Rattle.std.proofs.Common.{◌≡◌, ℕ, zero, suc, ◌+◌, ◌-◌, ◌<◌, ◌≤◌, ℤ, pos, ◌+ℤ◌, ◌≤ℤ◌, ◌<ℤ◌, Bool, true, false, List, [], ◌∷◌, ◌++◌, append_assoc, append-nil, cond, refl, sym, ap, ◌∙◌, subst, arith, inl, inr}
use Rattle.std.proofs.lemmas.Bool.{cases_lt}
use Rattle.std.proofs.lemmas.Int.{ints, by_lt_z}
use Rattle.strip_graph.specs.declared.tilings.Step.{Step}
use Rattle.strip_graph.specs.declared.tilings.Step.TheVariants.{V, H}
use Rattle.strip_graph.specs.Words.{Arcs, count_v, count_h, word_cost, HasLetters}
use Rattle.strip_graph.specs.Distances.{distance, IsFirst}
use Rattle.strip_graph.specs.Feasible.{IsForward}
use Rattle.strip_graph.proofs.WordLaws.{word_cost-at}
use Rattle.strip_graph.proofs.LeastWords.{distance-reached, distance-le_v, distance-le_h, first_none, first_v, first_h, first_h_last}
use Rattle.round_sweeps.specs.Searched.{spell, guarded, IsLeft, GoesDown, GoesRight, IsSearched}

-- a number is at most what each word costs from there to the end, if the potential leaves the word
pub lower : (a : Arcs) (x : ℕ → ℤ) (phi : ℕ → ℕ → ℤ) (i m n : ℕ) (limit : ℤ) (t : ℕ → ℕ → ℤ) (way : ℕ → ℕ → Bool)
    → IsForward a n x phi → IsSearched a phi i m n limit 0 t way → (k c : ℕ) (u : List Step) → k + count_v u ≡ m
    → c + count_h u ≡ n → (phi (i + k) c +ℤ pos (word_cost a (i + k) c u)) ≤ℤ limit
    → t k c ≤ℤ pos (word_cost a (i + k) c u)
lower a x phi i m n limit t way f s k c [] p q le =
    let e : k ≡ m = omega (arith, p) in
    let d : c ≡ n = omega (arith, q) in
    rw (e, d) (omega (arith, ints, s.ending))
lower a x phi i m n limit t way f s k c (V ∷ u) p q le =
    let e : i + k + 1 ≡ i + (k + 1) = omega arith in
    let same : word_cost a (i + k + 1) c u ≡ word_cost a (i + (k + 1)) c u =
    word_cost-at a (i + k + 1) (i + (k + 1)) c c u e refl in
    let up : phi (i + (k + 1)) c ≤ℤ (phi (i + k) c +ℤ pos (a (i + k) c V)) =
    subst (λ (y : ℕ). phi y c ≤ℤ (phi (i + k) c +ℤ pos (a (i + k) c V))) e (f.down (i + k) c (omega (arith, q))) in
    let rest = lower a x phi i m n limit t way f s (k + 1) c u (omega (arith, p)) q (omega (arith, ints, le, same, up))
    in
    omega (
      arith,
      ints,
      same,
      rest,
      s.down k c (omega (arith, p)) (omega arith) (omega (arith, q))
          (omega (arith, ints, le, same, rest)),
    )
lower a x phi i m n limit t way f s k c (H ∷ u) p q le =
    let up = f.right (i + k) c (omega (arith, q)) in
    let rest = lower a x phi i m n limit t way f s k (c + 1) u p (omega (arith, q)) (omega (arith, ints, le, up)) in
    omega (
      arith,
      ints,
      rest,
      s.right k c (omega (arith, p)) (omega arith) (omega (arith, q))
          (omega (arith, ints, le, rest)),
    )

-- a word is the first least one from a place of row i + k with r letters V and d letters H, and costs t
pub record IsFirstAt (a : Arcs) (i k c r d : ℕ) (t : ℤ) (w : List Step) : Type 0 where
  pub first : IsFirst a (i + k) c r d w
  pub cost : pos (word_cost a (i + k) c w) ≡ t

-- one letter more in front
first_down : (a : Arcs) (i k c r d : ℕ) (w : List Step) (t t' : ℤ) → IsFirstAt a i (k + 1) c r d t' w
    → t ≡ pos (a (i + k) c V) +ℤ t' → ((u : List Step) → HasLetters (r + 1) d u → pos (word_cost a (i + k) c u) ≤ℤ t
    → t ≤ℤ pos (word_cost a (i + k) c u)) → IsFirstAt a i k c (r + 1) d t (V ∷ w)
first_down a i k c r d w t t' h e least =
    let at : i + (k + 1) ≡ i + k + 1 = omega arith in
    let same : word_cost a (i + (k + 1)) c w ≡ word_cost a (i + k + 1) c w =
    word_cost-at a (i + (k + 1)) (i + k + 1) c c w at refl in
    let far : distance a (i + (k + 1)) c r d ≡ distance a (i + k + 1) c r d = ap (λ (y : ℕ). distance a y c r d) at in
    let u = distance-reached a (i + k) c (r + 1) d in
    let up = distance-le_v a (i + k) c r d in
    let low : t ≤ℤ pos (word_cost a (i + k) c u.word) =
    least u.word u.letters (omega (arith, ints, u.cost, up, far, h.first.least, h.cost, e)) in
    let is : distance a (i + k) c (r + 1) d ≡ a (i + k) c V + distance a (i + k + 1) c r d =
    omega (arith, ints, low, u.cost, up, far, h.first.least, h.cost, e) in
    record {
      first = first_v a (i + k) c r d w is (subst (λ (y : ℕ). IsFirst a y c r d w) at h.first);
      cost = omega (arith, ints, same, h.cost, e);
    }

first_last : (a : Arcs) (i k c d : ℕ) (w : List Step) (t t' : ℤ) → IsFirstAt a i k (c + 1) 0 d t' w
    → t ≡ pos (a (i + k) c H) +ℤ t' → IsFirstAt a i k c 0 (d + 1) t (H ∷ w)
first_last a i k c d w t t' h e = record
    { first = first_h_last a (i + k) c d w h.first; cost = omega (arith, ints, h.cost, e) }

first_right : (a : Arcs) (i k c r d : ℕ) (w : List Step) (t t' : ℤ) → IsFirstAt a i k (c + 1) (r + 1) d t' w
    → t ≡ pos (a (i + k) c H) +ℤ t' → t <ℤ (pos (a (i + k) c V) +ℤ pos (distance a (i + k + 1) c r (d + 1)))
    → IsFirstAt a i k c (r + 1) (d + 1) t (H ∷ w)
first_right a i k c r d w t t' h e less =
    let up = distance-le_h a (i + k) c (r + 1) d in
    record {
      first = first_h a (i + k) c r d w (omega (arith, ints, up, h.first.least, h.cost, e, less)) h.first;
      cost = omega (arith, ints, h.cost, e);
    }

-- what is noted leads along the first least word
pub spelled : (a : Arcs) (x : ℕ → ℤ) (phi : ℕ → ℕ → ℤ) (i m n : ℕ) (limit : ℤ) (t : ℕ → ℕ → ℤ) (way : ℕ → ℕ → Bool)
    → IsForward a n x phi → IsSearched a phi i m n limit 0 t way → (f k c r d : ℕ) → f ≡ r + d → k + r ≡ m → c + d ≡ n
    → IsLeft phi i limit t k c → IsFirstAt a i k c r d (t k c) (spell way f k c)
unfolding spell
spelled a x phi i m n limit t way fo s zero k c r d e p q left =
    let r0 : r ≡ 0 = omega (arith, e) in
    let d0 : d ≡ 0 = omega (arith, e) in
    let km : k ≡ m = omega (arith, p, r0) in
    let cn : c ≡ n = omega (arith, q, d0) in
    rw (r0, d0) (record {
      first = first_none a (i + k) c;
      cost =
          sym (ap (λ (y : ℕ). t y c) km ∙ ap (t m) cn ∙ s.ending);
    })
spelled a x phi i m n limit t way fo s (suc f) k c r d e p q left =
    go (way k c) refl (λ r1 h. spelled a x phi i m n limit t way fo s f (k + 1) c (r - 1) d (omega (arith, e, r1))
    (omega (arith, p, r1)) q h) (λ d1 h.
    spelled a x phi i m n limit t way fo s f k (c + 1) r (d - 1) (omega (arith, e, d1)) p (omega (arith, q, d1)) h)
  where
    least : (u : List Step) → HasLetters r d u → pos (word_cost a (i + k) c u) ≤ℤ t k c
        → t k c ≤ℤ pos (word_cost a (i + k) c u)
    least u l le = lower a x phi i m n limit t way fo s k c u (omega (arith, p, l.v)) (omega (arith, q, l.h))
        (omega (arith, ints, le, left))

    ByV : Type 0
    ByV = r ≡ (r - 1) + 1 → IsLeft phi i limit t (k + 1) c
        → IsFirstAt a i (k + 1) c (r - 1) d (t (k + 1) c) (spell way f (k + 1) c)

    ByH : Type 0
    ByH = d ≡ (d - 1) + 1 → IsLeft phi i limit t k (c + 1)
        → IsFirstAt a i k (c + 1) r (d - 1) (t k (c + 1)) (spell way f k (c + 1))

    down : way k c ≡ true → ByV → IsFirstAt a i k c r d (t k c) (V ∷ spell way f (k + 1) c)
    down b by_v =
        let g = s.goes_down k c (omega (arith, p)) (omega arith) (omega (arith, q)) left b in
        let r1 : r ≡ (r - 1) + 1 = omega (arith, p, g.more) in
        let at : i + k + 1 ≡ i + (k + 1) = omega arith in
        let up : phi (i + (k + 1)) c ≤ℤ (phi (i + k) c +ℤ pos (a (i + k) c V)) =
        subst (λ (y : ℕ). phi y c ≤ℤ (phi (i + k) c +ℤ pos (a (i + k) c V))) at
        (fo.down (i + k) c (omega (arith, q))) in
        let rest = by_v r1 (omega (arith, ints, left, g.cost, up)) in
        subst (λ (y : ℕ). IsFirstAt a i k c y d (t k c) (V ∷ spell way f (k + 1) c)) (sym r1)
        (first_down a i k c (r - 1) d (spell way f (k + 1) c) (t k c) (t (k + 1) c) rest g.cost
        (λ u l. least u (subst (λ (y : ℕ). HasLetters y d u) (sym r1) l)))

    right : way k c ≡ false → ByH → IsFirstAt a i k c r d (t k c) (H ∷ spell way f k (c + 1))
    right b by_h =
        let g = s.goes_right k c (omega (arith, p)) (omega arith) (omega (arith, q)) (omega (arith, p, q, e)) left b in
        let d1 : d ≡ (d - 1) + 1 = omega (arith, q, g.more) in
        let up = fo.right (i + k) c g.more in
        let rest = by_h d1 (omega (arith, ints, left, g.cost, up)) in
        subst (λ (y : ℕ). IsFirstAt a i k c r y (t k c) (H ∷ spell way f k (c + 1))) (sym d1)
        (elim (cases_lt 0 r) [
          | inl some ↦ (let r1 : r ≡ (r - 1) + 1 = omega (arith, some) in
              subst (λ (y : ℕ). IsFirstAt a i k c y (d - 1 + 1) (t k c) (H ∷ spell way f k (c + 1))) (sym r1)
              (first_right a i k c (r - 1) (d - 1) (spell way f k (c + 1)) (t k c) (t k (c + 1))
              (subst (λ (y : ℕ). IsFirstAt a i k (c + 1) y (d - 1) (t k (c + 1)) (spell way f k (c + 1))) r1 rest)
              g.cost (strict some g)))
          | inr none ↦ (let r0 : r ≡ 0 = omega (arith, none) in
              subst (λ (y : ℕ). IsFirstAt a i k c y (d - 1 + 1) (t k c) (H ∷ spell way f k (c + 1))) (sym r0)
              (first_last a i k c (d - 1) (spell way f k (c + 1)) (t k c) (t k (c + 1))
              (subst (λ (y : ℕ). IsFirstAt a i k (c + 1) y (d - 1) (t k (c + 1)) (spell way f k (c + 1))) r0 rest)
              g.cost))
        ])
      where
        strict : 0 < r → GoesRight a i m n t k c
            → t k c <ℤ (pos (a (i + k) c V) +ℤ pos (distance a (i + k + 1) c (r - 1) (d - 1 + 1)))
        strict some g =
            let at : i + k + 1 ≡ i + (k + 1) = omega arith in
            let d1 : d ≡ (d - 1) + 1 = omega (arith, q, g.more) in
            let u = distance-reached a (i + k + 1) c (r - 1) (d - 1 + 1) in
            let same : word_cost a (i + k + 1) c u.word ≡ word_cost a (i + (k + 1)) c u.word =
            word_cost-at a (i + k + 1) (i + (k + 1)) c c u.word at refl in
            let up : phi (i + (k + 1)) c ≤ℤ (phi (i + k) c +ℤ pos (a (i + k) c V)) =
            subst (λ (y : ℕ). phi y c ≤ℤ (phi (i + k) c +ℤ pos (a (i + k) c V))) at
            (fo.down (i + k) c (omega (arith, q))) in
            by_lt_z (t k c) (pos (a (i + k) c V) +ℤ pos (distance a (i + k + 1) c (r - 1) (d - 1 + 1))) (λ lt. lt)
            (λ ge.
            (let low = lower a x phi i m n limit t way fo s (k + 1) c u.word (omega (arith, p, some, u.letters.v))
            (omega (arith, q, d1, u.letters.h)) (omega (arith, ints, left, up, ge, u.cost, same)) in
            absurd (omega (arith, ints, low, ge, u.cost, same, g.less (omega (arith, p, some))))))

    go : (b : Bool) → way k c ≡ b → ByV → ByH
        → IsFirstAt a i k c r d (t k c) (cond b (V ∷ spell way f (k + 1) c) (H ∷ spell way f k (c + 1)))
    go true b by_v by_h = down b by_v
    go false b by_v by_h = right b by_h

-- a step of a guarded word stays inside
pub guarded_down : (m n : ℕ) (way : ℕ → ℕ → Bool) (k c : ℕ) → guarded m n way k c ≡ true → k < m
guarded_down m n way k c e = elim (cases_lt k m) [
  | inl lt ↦ lt
  | inr ge ↦ absurd (grind (arith, e, ge))
]

pub guarded_right : (m n : ℕ) (way : ℕ → ℕ → Bool) (k c : ℕ) → guarded m n way k c ≡ false → k ≤ m → k + c < m + n
    → c < n
guarded_right m n way k c e km more = elim (cases_lt c n) [
  | inl lt ↦ lt
  | inr ge ↦ (let lt : k < m = omega (arith, ge, more) in absurd (grind (arith, e, ge, lt)))
]

guarded_no : (m n : ℕ) (way : ℕ → ℕ → Bool) (k c : ℕ) → k < m → c < n → way k c ≡ false → guarded m n way k c ≡ true → ⊥
guarded_no m n way k c lt less w e = grind (arith, lt, less, w, e)

guarded_yes : (m n : ℕ) (way : ℕ → ℕ → Bool) (k c : ℕ) → k < m → way k c ≡ true → guarded m n way k c ≡ false → ⊥
guarded_yes m n way k c lt w e = grind (arith, lt, w, e)

pub guarded_in : (a : Arcs) (phi : ℕ → ℕ → ℤ) (i m n : ℕ) (limit : ℤ) (t : ℕ → ℕ → ℤ) (way : ℕ → ℕ → Bool)
    → IsSearched a phi i m n limit 0 t way → IsSearched a phi i m n limit 0 t (guarded m n way)
guarded_in a phi i m n limit t way s = record {
  ending = s.ending;
  down = s.down;
  right = s.right;
  goes_down = λ k c km le cn left e. by_down k c km le cn left e (way k c) refl;
  goes_right = λ k c km le cn more left e. by_right k c km le cn more left e (way k c) refl;
}
  where
    by_down : (k c : ℕ) → k ≤ m → 0 ≤ c → c ≤ n → IsLeft phi i limit t k c → guarded m n way k c ≡ true → (b : Bool)
        → way k c ≡ b → GoesDown a i m t k c
    by_down k c km le cn left e true w = s.goes_down k c km le cn left w
    by_down k c km le cn left e false w =
        let lt : k < m = guarded_down m n way k c e in
        elim (cases_lt c n) [
          | inl less ↦ absurd (guarded_no m n way k c lt less w e)
          | inr end ↦ absurd (omega (arith, end, (s.goes_right k c km le cn (omega (arith, lt, cn)) left w).more))
        ]

    by_right : (k c : ℕ) → k ≤ m → 0 ≤ c → c ≤ n → k + c < m + n → IsLeft phi i limit t k c
        → guarded m n way k c ≡ false → (b : Bool) → way k c ≡ b → GoesRight a i m n t k c
    by_right k c km le cn more left e false w = s.goes_right k c km le cn more left w
    by_right k c km le cn more left e true w =
        absurd (guarded_yes m n way k c (s.goes_down k c km le cn left w).more w e)

-- one letter of a word along the ways
pub spell_next : (way : ℕ → ℕ → Bool) (f g k c : ℕ) → g ≡ f + 1
    → spell way g k c ≡ cond (way k c) (V ∷ spell way f (k + 1) c) (H ∷ spell way f k (c + 1))
unfolding spell
spell_next way f g k c e = let d : g ≡ suc f = omega (arith, e) in rw d refl

-- what a search that met the start of a turn spells is the first least word of the turn, and costs at most what is left
pub met_is_first : (a : Arcs) (x : ℕ → ℤ) (phi : ℕ → ℕ → ℤ) (i m n : ℕ) (limit : ℤ) (t : ℕ → ℕ → ℤ) (way : ℕ → ℕ → Bool)
    → IsForward a n x phi → IsSearched a phi i m n limit 0 t way → IsLeft phi i limit t 0 0
    → IsFirst a i 0 m n (spell (guarded m n way) (m + n) 0 0)
    × ((phi i 0 +ℤ pos (word_cost a i 0 (spell (guarded m n way) (m + n) 0 0))) ≤ℤ limit)
met_is_first a x phi i m n limit t way f s left =
    let h = spelled a x phi i m n limit t (guarded m n way) f (guarded_in a phi i m n limit t way s) (m + n) 0 0 m n
    refl (omega arith) (omega arith) left in
    let e : i + 0 ≡ i = omega arith in
    let w = spell (guarded m n way) (m + n) 0 0 in (
      subst (λ (y : ℕ). IsFirst a y 0 m n w) e h.first,
      omega (arith, ints, left, h.cost, ap (λ (y : ℕ). word_cost a y 0 w) e, ap (λ (y : ℕ). phi y 0) e),
    )

-- a letter more
pub spelled_down : (way : ℕ → ℕ → Bool) (f g k c : ℕ) (word word' whole : List Step) → g ≡ f + 1 → way k c ≡ true
    → word' ≡ word ++ V ∷ [] → word ++ spell way g k c ≡ whole → word' ++ spell way f (k + 1) c ≡ whole
spelled_down way f g k c word word' whole e t d h =
    let next = spell_next way f g k c e
    ∙ ap (λ (b : Bool). cond b (V ∷ spell way f (k + 1) c) (H ∷ spell way f k (c + 1))) t in
    ap (λ (x : List Step). x ++ spell way f (k + 1) c) d ∙ append_assoc word (V ∷ []) (spell way f (k + 1) c)
    ∙ ap (λ (x : List Step). word ++ x) (sym next) ∙ h

pub spelled_right : (way : ℕ → ℕ → Bool) (f g k c : ℕ) (word word' whole : List Step) → g ≡ f + 1 → way k c ≡ false
    → word' ≡ word ++ H ∷ [] → word ++ spell way g k c ≡ whole → word' ++ spell way f k (c + 1) ≡ whole
spelled_right way f g k c word word' whole e t d h =
    let next = spell_next way f g k c e
    ∙ ap (λ (b : Bool). cond b (V ∷ spell way f (k + 1) c) (H ∷ spell way f k (c + 1))) t in
    ap (λ (x : List Step). x ++ spell way f k (c + 1)) d ∙ append_assoc word (H ∷ []) (spell way f k (c + 1))
    ∙ ap (λ (x : List Step). word ++ x) (sym next) ∙ h

-- at the end
pub spelled_end : (way : ℕ → ℕ → Bool) (g k c : ℕ) (word whole : List Step) → g ≡ 0 → word ++ spell way g k c ≡ whole
    → word ≡ whole
unfolding spell
spelled_end way g k c word whole e h = sym (append-nil word) ∙ sym (ap (λ (x : List Step). word ++ x) (none e)) ∙ h
  where
    none : g ≡ 0 → spell way g k c ≡ []
    none e = rw e refl
