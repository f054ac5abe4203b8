-- Sums of a weight over directed edges.
use Rattle.std.proofs.Common.{◌≡◌, ℕ, ◌+◌, List, [], ◌∷◌, ◌++◌, length, get_or, refl, sym, ap, ◌∙◌, arith, append_assoc}
use Rattle.std.proofs.lemmas.List.{append-nil}
use Rattle.std.specs.List.{flat_map}
use Rattle.plane_geom.specs.Rings.{path_edges, ring_edges}

-- the sum of a weight over directed edges
abbrev pub weigh : {X : Type 0} → (X → X → ℕ) → List (X × X) → ℕ
weigh f [] = 0
weigh f (e ∷ es) = f e.0 e.1 + weigh f es

abbrev pub path_sum : {X : Type 0} → (X → X → ℕ) → List X → ℕ
path_sum f xs = weigh f (path_edges xs)

abbrev pub ring_sum : {X : Type 0} → (X → X → ℕ) → List X → ℕ
ring_sum f xs = weigh f (ring_edges xs)

-- the sum over several rings, as triangles
abbrev pub total : {X : Type 0} → (X → X → ℕ) → List (List X) → ℕ
total f [] = 0
total f (ring ∷ rings) = ring_sum f ring + total f rings

-- a weight of the reversed edges
abbrev pub back : {X : Type 0} → (X → X → ℕ) → X → X → ℕ
back f a b = f b a

-- a path that passes m is a path to m and a path from m
pub path_split : {X : Type 0} (f : X → X → ℕ) (xs : List X) (m : X) (ys : List X)
    → path_sum f (xs ++ m ∷ ys) ≡ path_sum f (xs ++ m ∷ []) + path_sum f (m ∷ ys)
path_split f [] m ys = omega arith
path_split f (x ∷ []) m ys = omega arith
path_split f (x ∷ y ∷ xs) m ys = omega (arith, path_split f (y ∷ xs) m ys)

-- a ring listed from another item
pub ring_turned : {X : Type 0} (f : X → X → ℕ) (xs : List X) (m : X) (ys : List X)
    → ring_sum f (xs ++ m ∷ ys) ≡ path_sum f (m ∷ (ys ++ (xs ++ m ∷ [])))
ring_turned {X = X} f [] m ys = refl
ring_turned {X = X} f (x ∷ xs) m ys =
    let e : x ∷ ((xs ++ m ∷ ys) ++ x ∷ []) ≡ (x ∷ xs) ++ m ∷ (ys ++ x ∷ []) =
    ap (λ (l : List X). x ∷ l) (append_assoc xs (m ∷ ys) (x ∷ [])) in
    let s = path_split f (x ∷ xs) m (ys ++ x ∷ []) in
    let t = path_split f (m ∷ ys) x (xs ++ m ∷ []) in
    ap (path_sum f) e ∙ s ∙ omega (arith, t)

-- the two parts of a ring exchanged
pub ring_rotate : {X : Type 0} (f : X → X → ℕ) (xs ys : List X) → ring_sum f (xs ++ ys) ≡ ring_sum f (ys ++ xs)
ring_rotate f xs [] = ap (ring_sum f) (append-nil xs)
ring_rotate {X = X} f xs (m ∷ ys) = ring_turned f xs m ys
    ∙ ap (λ (l : List X). path_sum f (m ∷ l)) (sym (append_assoc ys xs (m ∷ [])))

-- one more item at the end of a path
pub path_push : {X : Type 0} (f : X → X → ℕ) (x : X) (xs : List X) (z d : X)
    → path_sum f ((x ∷ xs) ++ z ∷ []) ≡ path_sum f (x ∷ xs) + f (get_or (x ∷ xs) (length xs) d) z
path_push f x [] z d = omega arith
path_push f x (y ∷ xs) z d = omega (arith, path_push f y xs z d)

pub weigh-append : {X : Type 0} (f : X → X → ℕ) (es fs : List (X × X)) → weigh f (es ++ fs) ≡ weigh f es + weigh f fs
weigh-append f [] fs = omega arith
weigh-append f (e ∷ es) fs = omega (arith, weigh-append f es fs)

pub total-append : {X : Type 0} (f : X → X → ℕ) (xs bs : List (List X)) → total f (xs ++ bs) ≡ total f xs + total f bs
total-append f [] bs = omega arith
total-append f (a ∷ xs) bs = omega (arith, total-append f xs bs)

pub total_edges : {X : Type 0} (f : X → X → ℕ) (rings : List (List X))
    → weigh f (flat_map ring_edges rings) ≡ total f rings
total_edges f [] = refl
total_edges f (ring ∷ rings) = omega
    (arith, weigh-append f (ring_edges ring) (flat_map ring_edges rings), total_edges f rings)
