-- Least costs inside a region, and the search for the canonical word there.
use Rattle.std.proofs.Common.{◌≡◌, ℕ, ◌+◌, ◌<◌, ◌≤◌, min, List, [], ◌∷◌, refl, arith, inl, inr}
use Rattle.strip_graph.specs.declared.tilings.Step.{Step}
use Rattle.strip_graph.specs.declared.tilings.Step.TheVariants.{V, H}
use Rattle.strip_graph.specs.Words.{Arcs, word_cost, HasLetters}
use Rattle.strip_graph.specs.Distances.{distance, IsFirst}
use Rattle.strip_graph.proofs.LeastWords.{distance-none, distance-le_v, distance-le_h}
use Rattle.strip_graph.specs.Regions.{IsInside, IsWithin, IsRegional, NoV, NoH, GoesV, GoesH}
use Rattle.strip_graph.proofs.Canonical.{tail_v, tail_h, h_is_cheaper}

-- where a word within a region starts
pub within_start : (lo hi : ℕ → ℕ) (i j : ℕ) (w : List Step) → IsWithin lo hi i j w → IsInside lo hi i j
within_start lo hi i j [] k = k
within_start lo hi i j (V ∷ w) k = k.0
within_start lo hi i j (H ∷ w) k = k.0

-- the costs at the end, where only V leads on, where only H does, and where both do
pub regional_end : (a : Arcs) (lo hi : ℕ → ℕ) (i j : ℕ) → IsRegional a lo hi i j 0 0 0
regional_end a lo hi i j = record { least = omega (arith, distance-none a i j); within = λ w l k. omega arith }

pub regional_v : (a : Arcs) (lo hi : ℕ → ℕ) (i j r c x : ℕ) → IsRegional a lo hi (i + 1) j r c x → NoH lo hi i j c
    → IsRegional a lo hi i j (r + 1) c (x + a i j V)
regional_v a lo hi i j r c x p shut = record { least = omega (arith, distance-le_v a i j r c, p.least); within = bound }
  where
    bound : (w : List Step) → HasLetters (r + 1) c w → IsWithin lo hi i j w → x + a i j V ≤ word_cost a i j w
    bound [] l k = absurd (omega (arith, l.v))
    bound (V ∷ w) l k = omega (arith, p.within w (record { v = omega (arith, l.v); h = l.h }) k.1)
    bound (H ∷ w) l k = elim shut [
      | inl e ↦ absurd (omega (arith, e, l.h))
      | inr out ↦ absurd
          (out (within_start lo hi i (j + 1) w k.1))
    ]

pub regional_h : (a : Arcs) (lo hi : ℕ → ℕ) (i j r c x : ℕ) → IsRegional a lo hi i (j + 1) r c x → NoV lo hi i j r
    → IsRegional a lo hi i j r (c + 1) (x + a i j H)
regional_h a lo hi i j r c x p shut = record { least = omega (arith, distance-le_h a i j r c, p.least); within = bound }
  where
    bound : (w : List Step) → HasLetters r (c + 1) w → IsWithin lo hi i j w → x + a i j H ≤ word_cost a i j w
    bound [] l k = absurd (omega (arith, l.h))
    bound (H ∷ w) l k = omega (arith, p.within w (record { v = l.v; h = omega (arith, l.h) }) k.1)
    bound (V ∷ w) l k = elim shut [
      | inl e ↦ absurd (omega (arith, e, l.v))
      | inr out ↦ absurd
          (out (within_start lo hi (i + 1) j w k.1))
    ]

pub regional_both : (a : Arcs) (lo hi : ℕ → ℕ) (i j r c x y : ℕ) → IsRegional a lo hi (i + 1) j r (c + 1) x
    → IsRegional a lo hi i (j + 1) (r + 1) c y
    → IsRegional a lo hi i j (r + 1) (c + 1) (min (x + a i j V) (y + a i j H))
regional_both a lo hi i j r c x y p q =
    record {
      least = omega (arith, distance-le_v a i j r (c + 1), p.least, distance-le_h a i j (r + 1) c, q.least);
      within = bound;
    }
  where
    bound : (w : List Step) → HasLetters (r + 1) (c + 1) w → IsWithin lo hi i j w
        → min (x + a i j V) (y + a i j H) ≤ word_cost a i j w
    bound [] l k = absurd (omega (arith, l.h))
    bound (V ∷ w) l k = omega (arith, p.within w (record { v = omega (arith, l.v); h = l.h }) k.1)
    bound (H ∷ w) l k = omega (arith, q.within w (record { v = l.v; h = omega (arith, l.h) }) k.1)

-- if the canonical word stays in the region, the cost in the region is the least cost of all
pub regional_is_least : (a : Arcs) (lo hi : ℕ → ℕ) (i j r c x : ℕ) (w : List Step) → IsRegional a lo hi i j r c x
    → IsFirst a i j r c w → IsWithin lo hi i j w → x ≡ distance a i j r c
regional_is_least a lo hi i j r c x w p f k = omega (arith, p.least, p.within w f.letters k, f.least)

-- the word goes on by the only letter that leads on
pub goes_v : (a : Arcs) (lo hi : ℕ → ℕ) (i j r c : ℕ) (w : List Step) → IsFirst a i j (r + 1) c w → IsWithin lo hi i j w
    → NoH lo hi i j c → GoesV a lo hi i j r c w
goes_v a lo hi i j r c [] f k shut = absurd (omega (arith, f.letters.v))
goes_v a lo hi i j r c (V ∷ w) f k shut = record { rest = w; is = refl; first = (tail_v a i j r c w f).1; within = k.1 }
goes_v a lo hi i j r c (H ∷ w) f k shut =
    elim shut [
      | inl e ↦ absurd (omega (arith, e, f.letters.h))
      | inr out ↦ absurd
          (out (within_start lo hi i (j + 1) w k.1))
    ]

pub goes_h : (a : Arcs) (lo hi : ℕ → ℕ) (i j r c : ℕ) (w : List Step) → IsFirst a i j r (c + 1) w → IsWithin lo hi i j w
    → NoV lo hi i j r → GoesH a lo hi i j r c w
goes_h a lo hi i j r c [] f k shut = absurd (omega (arith, f.letters.h))
goes_h a lo hi i j r c (H ∷ w) f k shut = record { rest = w; is = refl; first = (tail_h a i j r c w f).1; within = k.1 }
goes_h a lo hi i j r c (V ∷ w) f k shut =
    elim shut [
      | inl e ↦ absurd (omega (arith, e, f.letters.v))
      | inr out ↦ absurd
          (out (within_start lo hi (i + 1) j w k.1))
    ]

-- if both lead on, it goes on by V if that costs no more in the region, else by H
pub goes_by_cost : (a : Arcs) (lo hi : ℕ → ℕ) (i j r c x y : ℕ) (w : List Step) → IsFirst a i j (r + 1) (c + 1) w
    → IsWithin lo hi i j w → IsRegional a lo hi (i + 1) j r (c + 1) x → IsRegional a lo hi i (j + 1) (r + 1) c y
    → (x + a i j V ≤ y + a i j H → GoesV a lo hi i j r (c + 1) w)
    × (y + a i j H < x + a i j V → GoesH a lo hi i j (r + 1) c w)
goes_by_cost a lo hi i j r c x y [] f k p q = absurd (omega (arith, f.letters.v))
goes_by_cost a lo hi i j r c x y (V ∷ w) f k p q =
    let t = tail_v a i j r (c + 1) w f in
    let e = regional_is_least a lo hi (i + 1) j r (c + 1) x w p t.1 k.1 in (
      (λ le. record { rest = w; is = refl; first = t.1; within = k.1 }),
      (λ lt. absurd (omega (arith, e, t.0, q.least, distance-le_h a i j (r + 1) c))),
    )
goes_by_cost a lo hi i j r c x y (H ∷ w) f k p q =
    let t = tail_h a i j (r + 1) c w f in
    let e = regional_is_least a lo hi i (j + 1) (r + 1) c y w q t.1 k.1 in (
      (λ le. absurd (omega (arith, e, t.0, p.least, h_is_cheaper a i j r (c + 1) w f))),
      (λ lt. record { rest = w; is = refl; first = t.1; within = k.1 }),
    )
