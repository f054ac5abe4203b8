-- The edges that the tiles of a strip leave over.
use Rattle.std.proofs.Common.{◌≡◌, ℕ, zero, suc, ◌+◌, ◌%◌, ◌<◌, ◌≤◌, ◌⊎◌, inl, inr, List, [], ◌∷◌, ◌++◌, length, get_or, refl, sym, ap, ap₂, ◌∙◌, arith}
use Rattle.std.proofs.lemmas.List.{length-append, get_or_append_left, get_or_at}
use Rattle.std.proofs.lemmas.Bool.{cases_lt}
use Rattle.std.proofs.Math.Nat.{mod-eq_of_lt, add-mod_right}
use Rattle.strip_graph.specs.declared.tilings.Step.{Step}
use Rattle.strip_graph.specs.declared.tilings.Step.TheVariants.{V, H}
use Rattle.strip_graph.specs.Words.{count_v, count_h}
use Rattle.plane_geom.specs.Rings.{item_around}
use Rattle.triangle_meshes.specs.Tiles.{tiles}
use Rattle.plane_geom.proofs.Sums.{path_sum, ring_sum, total, back}

-- the sum of n numbers from number i on
abbrev pub stretch : (ℕ → ℕ) → ℕ → ℕ → ℕ
stretch g i zero = 0
stretch g i (suc n) = g i + stretch g (i + 1) n

stretch-at : (g : ℕ → ℕ) (i j n : ℕ) → i ≡ j → stretch g i n ≡ stretch g j n
stretch-at g i j n e = ap (λ (k : ℕ). stretch g k n) e

stretch_one : (g : ℕ → ℕ) (i n : ℕ) → stretch g i (1 + n) ≡ g i + stretch g (i + 1) n
stretch_one g i n = ap (stretch g i) (let e : 1 + n ≡ suc n = omega arith in e)

-- the last number, in place of the first
stretch_last : (g : ℕ → ℕ) (i n : ℕ) → stretch g i (suc n) ≡ stretch g i n + g (i + n)
stretch_last g i zero = omega (arith, ap g (let e : i ≡ i + 0 = omega arith in e))
stretch_last g i (suc n) = omega (
  arith,
  stretch_last g (i + 1) n,
  ap g (let e : i + 1 + n ≡ i + suc n = omega arith in e),
)

-- if the numbers repeat after n, it does not matter where they begin
stretch_from : (g : ℕ → ℕ) (i n : ℕ) → ((k : ℕ) → g (k + n) ≡ g k) → stretch g i n ≡ stretch g 0 n
stretch_from g zero n h = refl
stretch_from g (suc i) n h = omega
    (arith, stretch_from g i n h, stretch_last g i n, h i, stretch-at g (suc i) (i + 1) n (omega arith))

-- the numbers of another function, further on
stretch_same : (g h : ℕ → ℕ) (i j n : ℕ) → ((k : ℕ) → k < n → g (i + k) ≡ h (j + k)) → stretch g i n ≡ stretch h j n
stretch_same g h i j zero e = refl
stretch_same g h i j (suc n) e =
    let first : g i ≡ h j = ap g (let z : i ≡ i + 0 = omega arith in z) ∙ e 0 (omega arith)
    ∙ ap h (let z : j + 0 ≡ j = omega arith in z) in
    let next : (k : ℕ) → k < n → g (i + 1 + k) ≡ h (j + 1 + k) =
    λ k l. ap g (let z : i + 1 + k ≡ i + suc k = omega arith in z) ∙ e (suc k) (omega arith)
    ∙ ap h (let z : j + suc k ≡ j + 1 + k = omega arith in z) in
    omega (arith, first, stretch_same g h (i + 1) (j + 1) n next)

-- a path by its places
path_stretch : {X : Type 0} (f : X → X → ℕ) (d x : X) (xs : List X)
    → path_sum f (x ∷ xs) ≡ stretch (λ (k : ℕ). f (get_or (x ∷ xs) k d) (get_or (x ∷ xs) (k + 1) d)) 0 (length xs)
path_stretch f d x [] = refl
path_stretch {X = X} f d x (y ∷ xs) =
    let g : ℕ → ℕ = λ k. f (get_or (y ∷ xs) k d) (get_or (y ∷ xs) (k + 1) d) in
    let h : ℕ → ℕ = λ k. f (get_or (x ∷ y ∷ xs) k d) (get_or (x ∷ y ∷ xs) (k + 1) d) in
    let one : get_or (x ∷ y ∷ xs) (0 + 1) d ≡ y = refl in
    let same : (k : ℕ) → k < length xs → g (0 + k) ≡ h (0 + 1 + k) = λ k l.
    ap₂ f
    (ap (λ (i : ℕ). get_or (y ∷ xs) i d) (let z : 0 + k ≡ k = omega arith in z)
    ∙ ap (λ (i : ℕ). get_or (x ∷ y ∷ xs) i d) (let z : suc k ≡ 0 + 1 + k = omega arith in z))
    (ap (λ (i : ℕ). get_or (y ∷ xs) i d) (let z : 0 + k + 1 ≡ k + 1 = omega arith in z)
    ∙ ap (λ (i : ℕ). get_or (x ∷ y ∷ xs) i d) (let z : suc (k + 1) ≡ 0 + 1 + k + 1 = omega arith in z)) in
    omega (arith, path_stretch f d y xs, stretch_same g h 0 (0 + 1) (length xs) same, ap (f x) one)

-- the weight of the edge that leaves a place of a ring
abbrev pub leaving : {X : Type 0} → (X → X → ℕ) → X → List X → ℕ → ℕ
leaving f d xs k = f (item_around d xs k) (item_around d xs (k + 1))

item_around-more : {X : Type 0} (d : X) (xs : List X) (k : ℕ) → item_around d xs (k + length xs) ≡ item_around d xs k
item_around-more d xs k = ap (λ (i : ℕ). get_or xs i d) (add-mod_right k (length xs))

leaving-more : {X : Type 0} (f : X → X → ℕ) (d : X) (xs : List X) (k : ℕ)
    → leaving f d xs (k + length xs) ≡ leaving f d xs k
leaving-more f d xs k = ap₂ f (item_around-more d xs k)
    (ap (item_around d xs) (let e : k + length xs + 1 ≡ k + 1 + length xs = omega arith in e)
    ∙ item_around-more d xs (k + 1))

-- once round a ring
pub ring_stretch : {X : Type 0} (f : X → X → ℕ) (d : X) (xs : List X) (i : ℕ)
    → stretch (leaving f d xs) i (length xs) ≡ ring_sum f xs
ring_stretch f d [] i = refl
ring_stretch {X = X} f d (x ∷ xs) i =
    let ring : List X = x ∷ xs in
    let closed : List X = ring ++ x ∷ [] in
    let n : ℕ = length ring in
    let read : (k : ℕ) → k ≤ n → item_around d ring k ≡ get_or closed k d = λ k le. read_closed k le (cases_lt k n) in
    let same : (k : ℕ) → k < n → leaving f d ring (0 + k) ≡ f (get_or closed (0 + k) d) (get_or closed (0 + k + 1) d) =
    λ k l. ap₂ f (read (0 + k) (omega arith)) (read (0 + k + 1) (omega arith)) in
    let size : length (xs ++ x ∷ []) ≡ n = omega (arith, length-append xs (x ∷ [])) in
    stretch_from (leaving f d ring) i n (leaving-more f d ring)
    ∙ stretch_same (leaving f d ring) (λ (k : ℕ). f (get_or closed k d) (get_or closed (k + 1) d)) 0 0 n same
    ∙ ap (stretch (λ (k : ℕ). f (get_or closed k d) (get_or closed (k + 1) d)) 0) (sym size)
    ∙ sym (path_stretch f d x (xs ++ x ∷ []))
  where
    read_closed : (k : ℕ) → k ≤ suc (length xs) → (k < suc (length xs)) ⊎ (suc (length xs) ≤ k)
        → item_around d (x ∷ xs) k ≡ get_or ((x ∷ xs) ++ x ∷ []) k d
    read_closed k le (inl lt) = ap (λ (i : ℕ). get_or (x ∷ xs) i d) (mod-eq_of_lt lt)
        ∙ sym (get_or_append_left (x ∷ xs) (x ∷ []) d k lt)
    read_closed k le (inr ge) =
        let e : k ≡ 0 + suc (length xs) = omega arith in
        ap (λ (i : ℕ). get_or (x ∷ xs) i d)
        (ap (λ (i : ℕ). i % suc (length xs)) e ∙ add-mod_right 0 (suc (length xs))
        ∙ mod-eq_of_lt (let l : 0 < suc (length xs) = omega arith in l))
        ∙ sym (get_or_at (x ∷ xs) x [] d k (omega arith))

-- tiles leave over the edges that they pass on both rings, and their first and last span
tiles_total : (f : ℕ → ℕ → ℕ) (low high : List ℕ) (i j : ℕ) (w : List Step) →
    total f (tiles low high i j w) + stretch (leaving (back f) 0 low) i (count_v w)
    + stretch (leaving f 0 high) j (count_h w)
    + back f (item_around 0 low (i + count_v w)) (item_around 0 high (j + count_h w))
    + f (item_around 0 low i) (item_around 0 high j)
    ≡ total (back f) (tiles low high i j w) + stretch (leaving f 0 low) i (count_v w)
    + stretch (leaving (back f) 0 high) j (count_h w)
    + f (item_around 0 low (i + count_v w)) (item_around 0 high (j + count_h w))
    + back f (item_around 0 low i) (item_around 0 high j)
tiles_total f low high i j [] =
    let a = ap₂ f (ap (item_around 0 low) (let e : i + 0 ≡ i = omega arith in e))
    (ap (item_around 0 high) (let e : j + 0 ≡ j = omega arith in e)) in
    let b = ap₂ (back f) (ap (item_around 0 low) (let e : i + 0 ≡ i = omega arith in e))
    (ap (item_around 0 high) (let e : j + 0 ≡ j = omega arith in e)) in
    omega (arith, a, b)
tiles_total f low high i j (V ∷ w) =
    let a = stretch_one (leaving f 0 low) i (count_v w) in
    let b = stretch_one (leaving (back f) 0 low) i (count_v w) in
    let e = ap (λ (k : ℕ). f (item_around 0 low k) (item_around 0 high (j + count_h w)))
    (let z : i + (1 + count_v w) ≡ i + 1 + count_v w = omega arith in z) in
    let g = ap (λ (k : ℕ). f (item_around 0 high (j + count_h w)) (item_around 0 low k))
    (let z : i + (1 + count_v w) ≡ i + 1 + count_v w = omega arith in z) in
    omega (arith, tiles_total f low high (i + 1) j w, a, b, e, g)
tiles_total f low high i j (H ∷ w) =
    let a = stretch_one (leaving f 0 high) j (count_h w) in
    let b = stretch_one (leaving (back f) 0 high) j (count_h w) in
    let e = ap (λ (k : ℕ). f (item_around 0 low (i + count_v w)) (item_around 0 high k))
    (let z : j + (1 + count_h w) ≡ j + 1 + count_h w = omega arith in z) in
    let g = ap (λ (k : ℕ). f (item_around 0 high k) (item_around 0 low (i + count_v w)))
    (let z : j + (1 + count_h w) ≡ j + 1 + count_h w = omega arith in z) in
    omega (arith, tiles_total f low high i (j + 1) w, a, b, e, g)

-- the tiles of an acceptable word leave over the lower ring forwards and the upper ring backwards
pub strip_total : (f : ℕ → ℕ → ℕ) (low high : List ℕ) (i j : ℕ) (w : List Step) → count_v w ≡ length low
    → count_h w ≡ length high →
    total f (tiles low high i j w) + ring_sum (back f) low + ring_sum f high ≡ total (back f) (tiles low high i j w)
    + ring_sum f low + ring_sum (back f) high
strip_total f low high i j w v h =
    let home : item_around 0 low (i + count_v w) ≡ item_around 0 low i = ap (λ (k : ℕ). item_around 0 low (i + k)) v
    ∙ item_around-more 0 low i in
    let home' : item_around 0 high (j + count_h w) ≡ item_around 0 high j = ap (λ (k : ℕ). item_around 0 high (j + k)) h
    ∙ item_around-more 0 high j in
    let a = ap (stretch (leaving f 0 low) i) v ∙ ring_stretch f 0 low i in
    let b = ap (stretch (leaving (back f) 0 low) i) v ∙ ring_stretch (back f) 0 low i in
    let c = ap (stretch (leaving f 0 high) j) h ∙ ring_stretch f 0 high j in
    let e = ap (stretch (leaving (back f) 0 high) j) h ∙ ring_stretch (back f) 0 high j in
    omega (arith, tiles_total f low high i j w, a, b, c, e, ap₂ f home home', ap₂ (back f) home home')
