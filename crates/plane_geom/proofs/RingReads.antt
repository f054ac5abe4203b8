-- The edges of a ring by their places, and signed sums of a front of a list.
use Rattle.std.proofs.Common.{◌≡◌, ℕ, zero, suc, ◌+◌, ◌%◌, ◌<◌, ◌≤◌, ◌⊎◌, inl, inr, List, [], ◌∷◌, ◌++◌, length, take, get_or, ℤ, ◌+ℤ◌, refl, sym, ap, ap₂, ◌∙◌, arith}
use Rattle.std.proofs.lemmas.Int.{ints}
use Rattle.std.proofs.lemmas.List.{length-append, get_or_append_left, get_or_at, take_more}
use Rattle.std.proofs.Math.Nat.{mod-eq_of_lt, add-mod_right}
use Rattle.std.proofs.lemmas.Bool.{cases_lt}
use Rattle.fku_types.specs.declared.points.Point.{Point}
use Rattle.plane_geom.specs.Rings.{origin, around, item_around, path_edges, ring_edges}
use Rattle.plane_geom.specs.Planes.{signed_sum}

pub signed_sum_push : {X : Type 0} (f : X → ℤ) (xs : List X) (x : X)
    → signed_sum f (xs ++ x ∷ []) ≡ signed_sum f xs +ℤ f x
signed_sum_push f [] x = omega (arith, ints)
signed_sum_push f (y ∷ xs) x = omega (arith, ints, signed_sum_push f xs x)

path_length : {X : Type 0} (x : X) (xs : List X) → length (path_edges (x ∷ xs)) ≡ length xs
path_length x [] = refl
path_length x (y ∷ xs) = ap suc (path_length y xs)

path_read : {X : Type 0} (x : X) (xs : List X) (i : ℕ) (d : X) → i < length xs
    → get_or (path_edges (x ∷ xs)) i (d, d) ≡ (get_or (x ∷ xs) i d, get_or (x ∷ xs) (suc i) d)
path_read x [] i d h = absurd (omega arith)
path_read x (y ∷ xs) zero d h = refl
path_read x (y ∷ xs) (suc i) d h = path_read y xs i d (omega arith)

pub ring_length : {X : Type 0} (xs : List X) → length (ring_edges xs) ≡ length xs
ring_length [] = refl
ring_length (x ∷ xs) = omega (arith, path_length x (xs ++ x ∷ []), length-append xs (x ∷ []))

-- the edge that leaves a place
pub ring_read : {X : Type 0} (xs : List X) (i : ℕ) (d : X) → i < length xs
    → get_or (ring_edges xs) i (d, d) ≡ (get_or xs i d, item_around d xs (i + 1))
ring_read [] i d h = absurd (omega arith)
ring_read {X = X} (x ∷ xs) i d h =
    path_read x (xs ++ x ∷ []) i d (omega (arith, length-append xs (x ∷ [])))
    ∙ ap₂ (λ (p q : X). (p, q)) (get_or_append_left (x ∷ xs) (x ∷ []) d i h)
    (next (cases_lt (i + 1) (suc (length xs))))
  where
    next : (i + 1 < suc (length xs)) ⊎ (suc (length xs) ≤ i + 1)
        → get_or ((x ∷ xs) ++ x ∷ []) (suc i) d ≡ item_around d (x ∷ xs) (i + 1)
    next (inl lt) =
        let l : suc i < suc (length xs) = omega arith in
        let e : suc i ≡ (i + 1) % suc (length xs) = omega (arith, mod-eq_of_lt lt) in
        get_or_append_left (x ∷ xs) (x ∷ []) d (suc i) l ∙ ap (λ (k : ℕ). get_or (x ∷ xs) k d) e
    next (inr ge) =
        let l : 0 < suc (length xs) = omega arith in
        let whole : i + 1 ≡ 0 + suc (length xs) = omega arith in
        let e : 0 ≡ (i + 1) % suc (length xs) =
        sym (ap (λ (k : ℕ). k % suc (length xs)) whole ∙ add-mod_right 0 (suc (length xs)) ∙ mod-eq_of_lt l) in
        get_or_at (x ∷ xs) x [] d (suc i) (omega arith) ∙ ap (λ (k : ℕ). get_or (x ∷ xs) k d) e

pub ring_take : {X : Type 0} (f : X → X → ℤ) (xs : List X) (i : ℕ) (d : X) → i < length xs →
    signed_sum (λ e. f e.0 e.1) (take (i + 1) (ring_edges xs))
    ≡ signed_sum (λ e. f e.0 e.1) (take i (ring_edges xs)) +ℤ f (get_or xs i d) (item_around d xs (i + 1))
ring_take {X = X} f xs i d h =
    let short : i < length (ring_edges xs) = omega (arith, ring_length xs) in
    let g : X × X → ℤ = λ e. f e.0 e.1 in
    ap (signed_sum g) (take_more (ring_edges xs) i (d, d) short)
    ∙ signed_sum_push g (take i (ring_edges xs)) (get_or (ring_edges xs) i (d, d))
    ∙ ap (λ (e : X × X). signed_sum g (take i (ring_edges xs)) +ℤ g e) (ring_read xs i d h)

-- the point of a ring at an index is its item there
pub around_is : (ring : List Point) (k : ℕ) → around ring k ≡ item_around origin ring k
unfolding around
around_is ring k = refl
