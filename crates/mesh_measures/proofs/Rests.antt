-- A triangle of a list, and those after it.
use Rattle.std.proofs.Common.{◌≡◌, ℕ, ◌+◌, ◌-◌, ◌*◌, ◌<◌, ◌≤◌, List, ◌∷◌, length, take, drop, get_or, sym, ap, subst, ◌∙◌, add-one, drop-cons, arith, count_by, All, mul-le-mul}
use Rattle.std.proofs.lemmas.List.{take_all, length-drop, length-map, get_or-drop, get_or_default}
use Rattle.mesh_measures.specs.declared.triangle_boxes.Boxed.{Boxed}
use Rattle.mesh_measures.specs.Crossings.{crossing_pairs}
use Rattle.mesh_measures.specs.TriangleBoxes.{ComesAfter, IsSwept, crosses_at, share, tally, boxed_corners}
use Rattle.mesh_measures.proofs.Tallies.{few_pairs}

-- the rest of a list, as a slice gives it
pub rest_is : {X : Type 0} (xs : List X) (n : ℕ) → take (length xs - n) (drop n xs) ≡ drop n xs
rest_is xs n = take_all (length xs - n) (drop n xs) (omega (arith, length-drop n xs))

pub next_is : {X : Type 0} (xs : List X) (n : ℕ) (d : X) → n < length xs → drop n xs ≡ get_or xs n d ∷ drop (n + 1) xs
next_is xs n d l = drop-cons xs n d l ∙ ap (λ (k : ℕ). get_or xs n d ∷ drop k xs) (sym (add-one n))

pub behind_rest : (xs : List Boxed) (n : ℕ) (e : Boxed) → n < length xs → IsSwept xs
    → All (ComesAfter (get_or xs n e)) (drop (n + 1) xs)
behind_rest xs n e l swept = λ k d below.
    let there : n + 1 + k < length xs = omega (arith, length-drop (n + 1) xs) in
    subst (ComesAfter (get_or xs n e)) (sym (get_or-drop (n + 1) xs k d))
    (subst (λ (x : Boxed). ComesAfter x (get_or xs (n + 1 + k) d)) (get_or_default xs n d e l)
    (swept n (n + 1 + k) d (omega arith) there))

pub swept_rest : (xs : List Boxed) (n : ℕ) → IsSwept xs → IsSwept (drop n xs)
swept_rest xs n swept = λ i j d le below.
    let there : n + j < length xs = omega (arith, length-drop n xs) in
    subst (λ (x : Boxed). ComesAfter x (get_or (drop n xs) j d)) (sym (get_or-drop n xs i d))
    (subst (ComesAfter (get_or xs (n + i) d)) (sym (get_or-drop n xs j d))
    (swept (n + i) (n + j) d (omega arith) there))

pub tally_next : (xs : List Boxed) (n : ℕ) (e : Boxed) (i : ℕ) → n < length xs
    → tally (drop n xs) i ≡ share (get_or xs n e) (drop (n + 1) xs) i + tally (drop (n + 1) xs) i
tally_next xs n e i l = ap (λ (ys : List Boxed). tally ys i) (next_is xs n e l)

-- there is room for what the later triangles add to a count
pub room_rest : (xs : List Boxed) (n : ℕ) (e : Boxed) (i have most : ℕ) → n < length xs
    → have + tally (drop n xs) i < most → have + count_by (crosses_at (get_or xs n e) i) (drop (n + 1) xs) < most
room_rest xs n e i have most l room = let next = tally_next xs n e i l in omega arith

square_fits : (n m : ℕ) → n < 4294967296 → m ≤ n * n → m < 18446744073709551616
square_fits n m l h = let k : n ≤ 4294967295 = omega arith in omega (arith, mul-le-mul k k)

-- the pairs of fewer than 2^32 triangles fit
pub pairs_fit : (xs : List Boxed) → length xs < 4294967296 → crossing_pairs (boxed_corners xs) < 18446744073709551616
pairs_fit xs l =
    let same : length (boxed_corners xs) ≡ length xs = length-map xs (λ (b : Boxed). b.corners) in
    square_fits (length (boxed_corners xs)) (crossing_pairs (boxed_corners xs)) (omega arith)
    (few_pairs (length (boxed_corners xs)) (boxed_corners xs) (omega arith))
