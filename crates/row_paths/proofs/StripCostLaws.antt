-- The costs of a strip's steps as tables: filled in row by row, and read row by row.
use Rattle.std.proofs.Common.{Bool, true, false, IsTrue, IsFalse, ◌≡◌, ℕ, ◌+◌, ◌-◌, ◌*◌, ◌<◌, ◌≤◌, List, ◌++◌, length, get_or, set, take, drop, map, ap, ap₂, ◌⊎◌, inl, inr, sym, subst, ◌∙◌, arith, length-append, length-drop, mul-le-mul_right}
use Rattle.std.proofs.lemmas.Bool.{cases_lt}
use Rattle.std.proofs.lemmas.Slice.{take-put_mid}
use Rattle.std.proofs.lemmas.List.{get_or-take, get_or-drop, length-take-le, get_or_append_left, get_or-append-add, get_or-set_same, get_or-set_other, length-map, map-append, map-set, take-map, drop-map}
use borrow.Rule.Slice.PartMut.{put_mid}
use Rattle.row_paths.specs.StripCosts.{AreFirstCosts}

-- costs that are kept are not computed
pub not_both : {A : Type 0} (b : Bool) → IsTrue b → IsFalse b → A
not_both b t f = absurd (let e : true ≡ false = sym t ∙ f in cc)

-- places of a table with rows of `size`
below : (r r' c c' size : ℕ) → c < size → r < r' → r * size + c < r' * size + c'
below r r' c c' size lt less = let more : r + 1 ≤ r' = omega arith in omega (arith, mul-le-mul_right size more)

same_row : (k r l size : ℕ) → l < size → r * size ≤ k * size + l → k * size + l < r * size + size → k ≡ r
same_row k r l size lt from to = by (cases_lt k r) (cases_lt r k)
  where
    by : (k < r) ⊎ (r ≤ k) → (r < k) ⊎ (k ≤ r) → k ≡ r
    by (inl less) q = absurd (omega (arith, from, below k r l 0 size lt less))
    by (inr ge) (inl less) = let more : r + 1 ≤ k = omega arith in
        absurd (omega (arith, to, mul-le-mul_right size more))
    by (inr ge) (inr ge') = omega arith

-- the costs of one more row
pub row_more : (b : ℕ) (cost : ℕ → ℕ → ℕ) (size r : ℕ) (xs zs ys : List ℕ) → length xs ≡ r * size → length zs ≡ size
    → ys ≡ xs ++ zs → ((c : ℕ) → c < size → get_or zs c 0 ≡ cost r c) → ((c : ℕ) → c < size → get_or zs c 0 ≤ b)
    → AreFirstCosts b cost size xs → AreFirstCosts b cost size ys
row_more b cost size r xs zs ys len few e is small all = record {
  are = λ k l lt within. here k l lt (cases_lt (k * size + l) (length xs)) within;
  small = λ k within. least k (cases_lt k (length xs)) within;
}
  where
    longer : length ys ≡ length xs + size
    longer = omega (arith, ap length e, length-append xs zs, few)

    left : (k : ℕ) → k < length xs → get_or ys k 0 ≡ get_or xs k 0
    left k less = ap (λ (l : List ℕ). get_or l k 0) e ∙ get_or_append_left xs zs 0 k less

    right : (k c : ℕ) → k ≡ length xs + c → get_or ys k 0 ≡ get_or zs c 0
    right k c d = ap₂ (λ (l : List ℕ) (i : ℕ). get_or l i 0) e d ∙ get_or-append-add xs zs c 0

    here : (k l : ℕ) → l < size → (k * size + l < length xs) ⊎ (length xs ≤ k * size + l) → k * size + l < length ys
        → get_or ys (k * size + l) 0 ≡ cost k l
    here k l lt (inl less) within = left (k * size + l) less ∙ all.are k l lt less
    here k l lt (inr more) within =
        let d : k ≡ r = same_row k r l size lt (omega (arith, more, len)) (omega (arith, within, longer, len)) in
        right (k * size + l) l (omega (arith, len, ap (λ (i : ℕ). i * size) d)) ∙ is l lt
        ∙ ap (λ (i : ℕ). cost i l) (sym d)

    least : (k : ℕ) → (k < length xs) ⊎ (length xs ≤ k) → k < length ys → get_or ys k 0 ≤ b
    least k (inl less) within = omega (arith, left k less, all.small k less)
    least k (inr more) within = omega (
      arith,
      right k (k - length xs) (omega arith),
      small (k - length xs) (omega (arith, longer)),
    )

-- one more number of a list in which P holds of each number and its place
pub set_more : {C : Type 0} (value : C → ℕ) (P : ℕ → ℕ → Type 0) (xs : List C) (i : ℕ) (x : C) → i < length xs
    → ((k : ℕ) → k < i → P k (get_or (map value xs) k 0)) → P i (value x) → (k : ℕ) → k < i + 1
    → P k (get_or (map value (set xs i x)) k 0)
set_more value P xs i x lt all here k less =
    subst (λ (l : List ℕ). P k (get_or l k 0)) (sym (map-set value xs i x)) (by (cases_lt k i))
  where
    within : i < length (map value xs)
    within = omega (arith, length-map xs value)

    by : (k < i) ⊎ (i ≤ k) → P k (get_or (set (map value xs) i (value x)) k 0)
    by (inl before) = subst (P k) (sym (get_or-set_other (map value xs) i k (value x) 0 (λ e. omega (arith, e))))
        (all k before)
    by (inr after) =
        let e : i ≡ k = omega arith in
        subst (λ (j : ℕ). P j (get_or (set (map value xs) i (value x)) j 0)) e
        (subst (P i) (sym (get_or-set_same (map value xs) i (value x) 0 within)) here)

-- an overwritten row, with the rows before it
pub row_put : {C : Type 0} (value : C → ℕ) (b : ℕ) (cost : ℕ → ℕ → ℕ) (size r at k : ℕ) (xs zs : List C) → at ≡ r * size
    → (r + 1) * size ≤ length xs → length zs ≡ size → ((c : ℕ) → c < size → get_or (map value zs) c 0 ≡ cost r c)
    → ((c : ℕ) → c < size → get_or (map value zs) c 0 ≤ b)
    → AreFirstCosts b cost size (map value (take (r * size) xs))
    → AreFirstCosts b cost size (map value (take ((r + 1) * size) (put_mid at k xs zs)))
row_put value b cost size r at k xs zs is room filled are small all =
    let before : length (take (r * size) xs) ≡ r * size = length-take-le (r * size) xs (omega (arith, room)) in
    let more : take ((r + 1) * size) (put_mid at k xs zs) ≡ take (r * size) xs ++ zs =
    take-put_mid at k xs zs ((r + 1) * size) (omega (arith, is, filled)) (omega (arith, is, room))
    ∙ ap (λ (i : ℕ). take i xs ++ zs) is in
    row_more b cost size r (map value (take (r * size) xs)) (map value zs) _ (length-map _ value ∙ before)
    (length-map zs value ∙ filled) (ap (map value) more ∙ map-append value (take (r * size) xs) zs) are small all

-- a part of a list, as numbers
part_map : {C : Type 0} (value : C → ℕ) (k j : ℕ) (xs : List C)
    → map value (take k (drop j xs)) ≡ take k (drop j (map value xs))
part_map value k j xs = sym (take-map value k (drop j xs)) ∙ sym (ap (take k) (drop-map value j xs))

-- the costs of a row, from column j on
pub record IsPart {C : Type 0} (value : C → ℕ) (b : ℕ) (cost : ℕ → ℕ) (j count : ℕ) (list : List C) : Type 0 where
  pub size : length (map value list) ≡ count
  pub are : (c : ℕ) → c < count → get_or (map value list) c 0 ≡ cost (j + c)
  pub small : (c : ℕ) → c < count → get_or (map value list) c 0 ≤ b

pub row_part : {C : Type 0} (value : C → ℕ) (b : ℕ) (cost : ℕ → ℕ → ℕ) (k size t j count at to : ℕ) (xs : List C)
    → t < k → at ≡ t * size + j → to ≡ t * size + size → j + count ≡ size → length (map value xs) ≡ k * size
    → AreFirstCosts b cost size (map value xs)
    → IsPart value b (cost t) j count (take (to - at) (drop at xs))
row_part value b cost k size t j count at to xs lt is is' fits len all = record {
  size = length-map (take (to - at) (drop at xs)) value
      ∙ omega (
        arith,
        is,
        is',
        length-take-le (to - at) (drop at xs)
            (omega (arith, is, within, length-drop at xs, length-map xs value)),
      );
  are = λ c few. read c few ∙ all.are t (j + c) (omega arith) (omega (arith, within, is'));
  small = λ c few. omega (arith, read c few, all.small (t * size + (j + c)) (omega (arith, within, is')));
}
  where
    more : t + 1 ≤ k
    more = omega arith

    within : to ≤ length (map value xs)
    within = omega (arith, is', len, mul-le-mul_right size more)

    read : (c : ℕ) → c < count → get_or (map value (take (to - at) (drop at xs))) c 0
        ≡ get_or (map value xs) (t * size + (j + c)) 0
    read c few =
        let e : at + c ≡ t * size + (j + c) = omega (arith, is) in
        ap (λ (l : List ℕ). get_or l c 0) (part_map value (to - at) at xs)
        ∙ get_or-take (to - at) (drop at (map value xs)) c 0 (omega (arith, is, is'))
        ∙ get_or-drop at (map value xs) c 0 ∙ ap (λ (i : ℕ). get_or (map value xs) i 0) e
