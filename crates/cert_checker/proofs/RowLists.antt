-- The rows of a list of numbers.
use Rattle.std.proofs.Common.{◌≡◌, ℕ, zero, suc, ◌+◌, ◌-◌, ◌*◌, ◌≤◌, ℤ, List, [], ◌∷◌, ◌++◌, length, take, drop, refl, ap, ap₂, sym, ◌∙◌, append_assoc, append-nil, arith, length-take, length-drop, length-append}
use Rattle.std.specs.Prelude.{slice_range, All}
use Rattle.std.specs.List.{flat_map}
use Rattle.std.proofs.lemmas.List.{take-append-le, drop-append-le, drop_at, take_all}
use Rattle.std.proofs.lemmas.List.Elements.{All-take, All-drop, All-nil, All-append, All-cons}
use Rattle.std.proofs.lemmas.Grind.{flat_map-append}
use Rattle.strip_graph.specs.Certificates.{IsModest}
use Rattle.cert_checker.specs.CertTexts.{rows_in, IsValueRow}

-- a piece in the front of a longer list
range_same : (i w : ℕ) (xs ys : List ℤ) → i + w ≤ length xs
    → slice_range (xs ++ ys) i (i + w) ≡ slice_range xs i (i + w)
range_same i w xs ys h =
    let k = i + w - i in
    let inside : i ≤ length xs = omega arith in
    let short : k ≤ length (drop i xs) = omega (arith, length-drop i xs) in
    ap (take k) (drop-append-le i xs ys inside) ∙ take-append-le k (drop i xs) ys short

-- the piece that was appended
range_last : (xs ys : List ℤ) (i w : ℕ) → length xs ≡ i → length ys ≡ w → slice_range (xs ++ ys) i (i + w) ≡ ys
range_last xs ys i w h g =
    let k = i + w - i in
    let all : length ys ≤ k = omega arith in
    ap (take k) (drop_at xs ys i h) ∙ take_all k ys all

-- appended numbers leave the rows before them unchanged
pub rows_same : (w k : ℕ) (xs ys : List ℤ) → k * w ≤ length xs → rows_in w k (xs ++ ys) ≡ rows_in w k xs
rows_same w zero xs ys h = refl
rows_same w (suc k) xs ys h =
    ap₂ (λ (rs : List (List ℤ)) (r : List ℤ). rs ++ r ∷ []) (rows_same w k xs ys (omega (arith, h)))
    (range_same (k * w) w xs ys (omega (arith, h)))

-- an appended row is the next row
pub row_put : (w k : ℕ) (xs row : List ℤ) → length xs ≡ k * w → length row ≡ w
    → rows_in w (suc k) (xs ++ row) ≡ rows_in w k xs ++ row ∷ []
row_put w k xs row h g =
    ap₂ (λ (rs : List (List ℤ)) (r : List ℤ). rs ++ r ∷ []) (rows_same w k xs row (omega (arith, h)))
    (range_last xs row (k * w) w h g)

pub rows_count : (w k : ℕ) (xs : List ℤ) → length (rows_in w k xs) ≡ k
rows_count w zero xs = refl
rows_count w (suc k) xs = omega (
  arith,
  length-append (rows_in w k xs) (slice_range xs (k * w) (k * w + w) ∷ []),
  rows_count w k xs,
)

-- the first rows of more rows
pub record RowsBegin (w k n : ℕ) (xs : List ℤ) : Type 0 where
  pub later : List (List ℤ)
  pub same : rows_in w n xs ≡ rows_in w k xs ++ later

pub rows_begin : (w k j : ℕ) (xs : List ℤ) → RowsBegin w k (k + j) xs
rows_begin w k zero xs = let e : k + 0 ≡ k = omega arith in
    record { later = []; same = ap (λ (n : ℕ). rows_in w n xs) e ∙ sym (append-nil (rows_in w k xs)) }
rows_begin w k (suc j) xs =
    let b = rows_begin w k j xs in
    let n = k + j in
    let e : k + suc j ≡ suc n = omega arith in
    let last = slice_range xs (n * w) (n * w + w) ∷ [] in
    record {
      later = b.later ++ last;
      same = ap (λ (m : ℕ). rows_in w m xs) e ∙ ap (λ (rs : List (List ℤ)). rs ++ last) b.same
          ∙ append_assoc (rows_in w k xs) b.later last;
    }

-- the rows joined again
pub rows_joined : (w k : ℕ) (xs : List ℤ) → length xs ≡ k * w → flat_map (λ (r : List ℤ). r) (rows_in w k xs) ≡ xs
rows_joined w k xs h = joined w k xs (omega (arith, h)) ∙ take_all (k * w) xs (omega (arith, h))
  where
    none : (w : ℕ) → take {A = ℤ} w [] ≡ []
    none zero = refl
    none (suc w) = refl

    more_taken : (i w : ℕ) (xs : List ℤ) → take i xs ++ slice_range xs i (i + w) ≡ take (i + w) xs
    more_taken zero w xs = let e : 0 + w - 0 ≡ 0 + w = omega arith in ap (λ (n : ℕ). take n xs) e
    more_taken (suc i) w [] = let e : suc i + w ≡ suc (i + w) = omega arith in let f : suc i + w - suc i ≡ w =
        omega arith in ap (λ (n : ℕ). take n []) f ∙ none w ∙ sym (ap (λ (n : ℕ). take n []) e)
    more_taken (suc i) w (x ∷ xs) =
        let e : suc i + w ≡ suc (i + w) = omega arith in
        let f : suc i + w - suc i ≡ i + w - i = omega arith in
        ap (λ (n : ℕ). (x ∷ take i xs) ++ take n (drop i xs)) f ∙ ap (λ (r : List ℤ). x ∷ r) (more_taken i w xs)
        ∙ sym (ap (λ (n : ℕ). take n (x ∷ xs)) e)

    joined : (w k : ℕ) (xs : List ℤ) → k * w ≤ length xs
        → flat_map (λ (r : List ℤ). r) (rows_in w k xs) ≡ take (k * w) xs
    joined w zero xs h = let e : 0 * w ≡ 0 = omega arith in sym (ap (λ (n : ℕ). take n xs) e)
    joined w (suc k) xs h =
        let last = slice_range xs (k * w) (k * w + w) in
        let e : k * w + w ≡ suc k * w = omega arith in
        flat_map-append (λ (r : List ℤ). r) (rows_in w k xs) (last ∷ [])
        ∙ ap₂ (λ (a b : List ℤ). a ++ b) (joined w k xs (omega (arith, h))) (append-nil last)
        ∙ more_taken (k * w) w xs
        ∙ ap (λ (n : ℕ). take n xs) e

-- each row is a row
pub rows_each : (w k : ℕ) (xs : List ℤ) → k * w ≤ length xs → All IsModest xs → All (IsValueRow w) (rows_in w k xs)
rows_each w zero xs h m = All-nil (IsValueRow w)
rows_each w (suc k) xs h m =
    let part = drop (k * w) xs in
    let n = k * w + w - k * w in
    let long : length (take n part) ≡ w = omega (arith, length-take n part, length-drop (k * w) xs, h) in
    All-append (IsValueRow w) (rows_in w k xs) (take n part ∷ []) (rows_each w k xs (omega (arith, h)) m)
    (All-cons (IsValueRow w) (take n part) [] (long, All-take IsModest n part (All-drop IsModest (k * w) xs m))
    (All-nil (IsValueRow w)))
