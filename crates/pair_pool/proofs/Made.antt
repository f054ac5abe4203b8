-- Values made place by place.
use Rattle.std.proofs.Common.{◌≡◌, ℕ, ◌+◌, ◌<◌, ◌≤◌, ◌⊎◌, inl, inr, List, [], ◌∷◌, ◌++◌, All, length, get_or, sym, ◌∙◌, subst, subst₂, arith, Bor}
use Rattle.std.proofs.lemmas.List.{get_or_append_left, get_or_at, length-append, length-map}
use Rattle.std.proofs.lemmas.List.Elements.{All-push}
use Rattle.std.proofs.lemmas.Bool.{cases_lt}
use Rattle.strip_graph.specs.Strips.{Strip}
use Rattle.row_paths.specs.Solutions.{Solution, Solves}
use Rattle.pair_pool.specs.Solvers.{SolvesEach, referents}
use Rattle.pair_pool.specs.Batches.{IsMadeAt, AreMade}

-- one more value that a worker made
pub drawn_more : {M : Type 0} (places : ℕ) (IsRight : ℕ → M → Type 0) (drawn all : List (ℕ × M)) (place : ℕ) (made : M)
    → All (λ d. IsMadeAt places IsRight d.0 d.1) drawn → place < places → IsRight place made
    → all ≡ drawn ++ (place, made) ∷ []
    → All (λ d. IsMadeAt places IsRight d.0 d.1) all
drawn_more {M = M} places IsRight drawn all place made before within right is =
    let P : ℕ × M → Type 0 = λ d. IsMadeAt places IsRight d.0 d.1 in
    subst (All P) (sym is) (All-push P drawn (place, made) before (record { within = within; right = right }))

-- one more value made in order
pub made_more : {M : Type 0} (IsRight : ℕ → M → Type 0) (i : ℕ) (made all : List M) (x : M) → AreMade i IsRight made
    → IsRight i x → all ≡ made ++ x ∷ [] → AreMade (i + 1) IsRight all
made_more {M = M} IsRight i made all x first last is = subst (AreMade (i + 1) IsRight) (sym is) record {
  count = omega (arith, first.count, length-append made (x ∷ []));
  each = λ k m l. by k m l (cases_lt k i);
}
  where
    by : (k : ℕ) (m : M) → k < i + 1 → (k < i) ⊎ (i ≤ k) → IsRight k (get_or (made ++ x ∷ []) k m)
    by k m l (inl lt) = subst (IsRight k) (sym (get_or_append_left made (x ∷ []) m k (omega (arith, first.count))))
        (first.each k m lt)
    by k m l (inr ge) =
        let there : i ≡ k = omega arith in
        subst₂ IsRight there (sym (get_or_at made x [] m k (omega (arith, first.count)))) last

-- the solutions of pairs, if each is right for its place
pub solves_each : (pairs : List (Bor Strip)) (solved : List Solution)
    → AreMade (length pairs) (λ k x. (p : Strip) → Solves (get_or (referents pairs) k p) x) solved
    → SolvesEach (referents pairs) solved
solves_each pairs solved h =
    let count = length-map pairs (λ (p : Bor Strip). p.now) in
    record {
      count = h.count ∙ sym count;
      each = λ k p s l. h.each k s (omega (arith, l, count)) p;
    }
