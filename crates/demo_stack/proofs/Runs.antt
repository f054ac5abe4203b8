-- The vertices of a run of the generator, with one more vertex.
use Rattle.std.proofs.Common.{◌≡◌, ℕ, zero, suc, ◌+◌, ◌*◌, List, [], ◌∷◌, ◌++◌, map, ap, ap₂, sym, subst, ◌∙◌, arith}
use Rattle.std.specs.List.{range_with_len, AllByRecursion}
use Rattle.std.proofs.lemmas.List.{map-append}
use Rattle.std.proofs.lemmas.List.FromFn.{map-range_with_len_more}
use Rattle.fku_types.proofs.ListLaws.{all_push}
use Rattle.demo_stack.specs.Demo.{next, state_after}

-- what holds of each element holds with one more
pub all_more : {X : Type 0} (P : X → Type 0) (xs ys : List X) (x : X) → ys ≡ xs ++ x ∷ [] → AllByRecursion P xs → P x
    → AllByRecursion P ys
all_more P xs ys x e h p = subst (AllByRecursion P) (sym e) (all_push P xs x h p)

-- the values for each number, with one more
pub map_more : {X Y : Type 0} (g : X → Y) (f : ℕ → Y) (xs ys : List X) (x : X) (t : ℕ) → ys ≡ xs ++ x ∷ []
    → map g xs ≡ map f (range_with_len 0 t) → g x ≡ f t → map g ys ≡ map f (range_with_len 0 (t + 1))
map_more g f xs ys x t e h p = ap (map g) e ∙ map-append g xs (x ∷ []) ∙ ap₂ (λ zs z. zs ++ z ∷ []) h p
    ∙ sym (map-range_with_len_more f 0 t t (omega arith))

-- the state before the first vertex
pub state_first : (seed k : ℕ) → seed ≡ state_after seed (0 * k)
unfolding state_after
state_first seed k = let e : zero ≡ 0 * k = omega arith in ap (state_after seed) e

-- the state, one step further
pub state_more : (seed n t old new : ℕ) → new ≡ next old → old ≡ state_after seed (n + t)
    → new ≡ state_after seed (n + (t + 1))
unfolding state_after
state_more seed n t old new e h = let k : suc (n + t) ≡ n + (t + 1) = omega arith in e ∙ ap next h
    ∙ ap (state_after seed) k

-- the number of steps may be added up in either way
pub state_same : (seed n t s : ℕ) → s ≡ state_after seed (n + (t + 1)) → s ≡ state_after seed (n + t + 1)
state_same seed n t s h = let k : n + (t + 1) ≡ n + t + 1 = omega arith in h ∙ ap (state_after seed) k
