-- The edges that are left over when a ring is cut into triangles.
use Rattle.std.proofs.Common.{◌≡◌, ℕ, suc, ◌+◌, ◌-◌, ◌%◌, ◌<◌, ◌≤◌, ◌⊎◌, inl, inr, List, [], ◌∷◌, ◌++◌, take, drop, length, get_or, refl, sym, ap, ap₂, ◌∙◌, arith, append_assoc, remove, add-one, subst}
use Rattle.std.proofs.lemmas.List.Edits.{length-remove}
use Rattle.std.proofs.lemmas.List.{take_more, drop_more, take-append-drop, length-take-le, length-drop, length-append, get_or_append_left, get_or-append_right, get_or-drop, get_or-take}
use Rattle.std.proofs.lemmas.Bool.{cases_lt}
use Rattle.std.proofs.Math.Nat.{mod-eq_of_lt, add-mod_right}
use Rattle.std.specs.List.{AllByRecursion}
use Rattle.plane_geom.specs.Rings.{item_around}
use Rattle.ring_polygons.specs.Caps.{cut}
use Rattle.plane_geom.proofs.Sums.{path_sum, ring_sum, total, back, path_push, ring_turned, ring_rotate}

-- places at which corners are cut from a ring of n items until three are left
abbrev pub AreCorners : ℕ → List ℕ → Type 0
AreCorners n [] = n ≡ 3
AreCorners n (t ∷ ts) = (t < n) × (3 < n) × AreCorners (n - 1) ts

-- a list that is begun at a place, read round
pub turned_at : {X : Type 0} (xs : List X) (s k : ℕ) (d : X) → s ≤ length xs → k < length xs
    → get_or (drop s xs ++ take s xs) k d ≡ get_or xs ((s + k) % length xs) d
turned_at {X = X} xs s k d ls lk = go (cases_lt (s + k) (length xs))
  where
    go : (s + k < length xs) ⊎ (length xs ≤ s + k)
        → get_or (drop s xs ++ take s xs) k d ≡ get_or xs ((s + k) % length xs) d
    go (inl lt) =
        let n : k < length (drop s xs) = omega (arith, length-drop s xs) in
        get_or_append_left (drop s xs) (take s xs) d k n ∙ get_or-drop s xs k d
        ∙ ap (λ (i : ℕ). get_or xs i d) (sym (mod-eq_of_lt lt))
    go (inr le) =
        let i : ℕ = s + k - length xs in
        let n : length (drop s xs) ≤ k = omega (arith, length-drop s xs) in
        let below : i < s = omega arith in
        let at : k - length (drop s xs) ≡ i = omega (arith, length-drop s xs) in
        let small : i < length xs = omega arith in
        let back : s + k ≡ i + length xs = omega arith in
        let m : (s + k) % length xs ≡ i = ap (λ (j : ℕ). j % length xs) back ∙ add-mod_right i (length xs)
        ∙ mod-eq_of_lt small in
        get_or-append_right (drop s xs) (take s xs) (length (drop s xs)) k d refl n
        ∙ ap (λ (j : ℕ). get_or (take s xs) j d) at ∙ get_or-take s xs i d below
        ∙ ap (λ (j : ℕ). get_or xs j d) (sym m)

-- a corner that is put before a path and closes it
around_corner : {X : Type 0} (f : X → X → ℕ) (c d : X) (xs : List X) → 0 < length xs
    → path_sum f (c ∷ (xs ++ c ∷ [])) + f (get_or xs (length xs - 1) d) (get_or xs 0 d) ≡ ring_sum f xs
    + f (get_or xs (length xs - 1) d) c + f c (get_or xs 0 d)
around_corner f c d [] lt = absurd (omega arith)
around_corner {X = X} f c d (x ∷ xs) lt =
    let last : get_or (x ∷ xs) (suc (length xs) - 1) d ≡ get_or (x ∷ xs) (length xs) d =
    ap (λ (i : ℕ). get_or (x ∷ xs) i d) (omega arith) in
    let p = path_push f x xs c d in
    let q = path_push f x xs x d in
    let a = ap (λ (l : X). f l c) last in
    let b = ap (λ (l : X). f l x) last in
    omega (arith, p, q, a, b)

-- a corner is removed, and the edge between its neighbours is added
pub corner_sum : {X : Type 0} (f : X → X → ℕ) (xs : List X) (t : ℕ) (d : X) → t < length xs → 2 ≤ length xs →
    ring_sum f xs + f (item_around d xs (t + length xs - 1)) (item_around d xs (t + 1)) ≡ ring_sum f (remove xs t)
    + f (item_around d xs (t + length xs - 1)) (get_or xs t d) + f (get_or xs t d) (item_around d xs (t + 1))
corner_sum {X = X} f xs t d lt two =
    let c : X = get_or xs t d in
    let others : List X = drop (t + 1) xs ++ take t xs in
    let n : length others + 1 ≡ length xs =
    omega (
      arith,
      length-append (drop (t + 1) xs) (take t xs),
      length-drop (t + 1) xs,
      length-take-le t xs (omega arith),
    ) in
    let dr : drop t xs ≡ c ∷ drop (t + 1) xs = drop_more xs t d lt in
    let whole : take t xs ++ c ∷ drop (t + 1) xs ≡ xs = ap (λ (l : List X). take t xs ++ l) (sym dr)
    ∙ take-append-drop t xs in
    let ring : ring_sum f xs ≡ path_sum f (c ∷ (others ++ c ∷ [])) = ap (ring_sum f) (sym whole)
    ∙ ring_turned f (take t xs) c (drop (t + 1) xs)
    ∙ ap (λ (l : List X). path_sum f (c ∷ l)) (sym (append_assoc (drop (t + 1) xs) (take t xs) (c ∷ []))) in
    let rest : ring_sum f (remove xs t) ≡ ring_sum f others =
    ap (λ (i : ℕ). ring_sum f (take t xs ++ drop i xs)) (sym (add-one t))
    ∙ ring_rotate f (take t xs) (drop (t + 1) xs) in
    let le : t + 1 ≤ length xs = omega arith in
    let more : drop (t + 1) xs ++ take (t + 1) xs ≡ others ++ c ∷ [] =
    ap (λ (l : List X). drop (t + 1) xs ++ l) (take_more xs t d lt)
    ∙ sym (append_assoc (drop (t + 1) xs) (take t xs) (c ∷ [])) in
    let read : (k : ℕ) → k < length others → get_or others k d ≡ item_around d xs (t + 1 + k) =
    λ k h. sym (get_or_append_left others (c ∷ []) d k h) ∙ ap (λ (l : List X). get_or l k d) (sym more)
    ∙ turned_at xs (t + 1) k d le (omega arith) in
    let first : get_or others 0 d ≡ item_around d xs (t + 1) = read 0 (omega arith)
    ∙ ap (item_around d xs) (omega arith) in
    let last : get_or others (length others - 1) d ≡ item_around d xs (t + length xs - 1) =
    read (length others - 1) (omega arith) ∙ ap (item_around d xs) (omega arith) in
    let a = ap₂ f last first in
    let b = ap (λ (x : X). f x c) last in
    let e = ap (f c) first in
    omega (arith, around_corner f c d others (omega arith), ring, rest, a, b, e)

-- the triangles leave over the ring
pub cut_total : {X : Type 0} (f : X → X → ℕ) (d : X) (ts : List ℕ) (xs : List X) → AreCorners (length xs) ts
    → total f (cut d ts xs) + ring_sum (back f) xs ≡ total (back f) (cut d ts xs) + ring_sum f xs
cut_total f d [] xs h = omega arith
cut_total f d (t ∷ ts) xs h =
    let n : length (remove xs t) ≡ length xs - 1 = omega (arith, length-remove xs t h.0) in
    let k = cut_total f d ts (remove xs t) (subst (λ (i : ℕ). AreCorners i ts) (sym n) h.2) in
    omega (arith, k, corner_sum f xs t d h.0 (omega (arith, h.1)), corner_sum (back f) xs t d h.0 (omega (arith, h.1)))

abbrev pub HasThree : {X : Type 0} → List X → Type 0
HasThree t = length t ≡ 3

-- each part that is cut off has three corners
pub cut_three : {X : Type 0} (d : X) (places : List ℕ) (ring : List X) → AreCorners (length ring) places
    → AllByRecursion HasThree (cut d places ring)
cut_three d [] ring h = (h, tt)
cut_three d (t ∷ ts) ring h =
    let n : length (remove ring t) ≡ length ring - 1 = omega (arith, length-remove ring t h.0) in
    (refl, cut_three d ts (remove ring t) (subst (λ (i : ℕ). AreCorners i ts) (sym n) h.2))

-- how many parts there are
pub cut_count : {X : Type 0} (d : X) (places : List ℕ) (ring : List X) → AreCorners (length ring) places
    → length (cut d places ring) + 2 ≡ length ring
cut_count d [] ring h = omega (arith, h)
cut_count d (t ∷ ts) ring h =
    let n : length (remove ring t) ≡ length ring - 1 = omega (arith, length-remove ring t h.0) in
    omega (arith, h.1, cut_count d ts (remove ring t) (subst (λ (i : ℕ). AreCorners i ts) (sym n) h.2))
