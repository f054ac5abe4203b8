-- The counts of a part after all pairs are counted, in any order.
use Rattle.std.proofs.Common.{◌≡◌, inl, inr, ℕ, zero, suc, ◌+◌, ◌*◌, ◌<◌, ◌≤◌, ◌==◌, eqb-true, eq-eqb, Bool, cond, List, [], ◌∷◌, length, map, get_or, refl, sym, ap, ap₂, ◌∙◌, arith, count_by, All}
use Rattle.std.specs.List.{range_with_len}
use Rattle.std.specs.List.Sorted.{IsPermutation}
use Rattle.std.proofs.lemmas.Bool.{cases_lt}
use Rattle.std.proofs.lemmas.List.{length-map, get_or-map, ext_get_or}
use Rattle.std.proofs.lemmas.List.Elements.{recursion_from_All}
use Rattle.std.proofs.lemmas.List.FromFn.{get_or-range_with_len}
use Rattle.std.proofs.lemmas.List.Sums.{count_by-le-length}
use Rattle.std.proofs.lemmas.List.Sorted.{All-permutation, IsPermutation-map, length_permutation}
use Rattle.plane_geom.specs.Rings.{origin}
use Rattle.mesh_measures.specs.declared.crossing.Corners.{Corners}
use Rattle.mesh_measures.specs.declared.triangle_boxes.Boxed.{Boxed}
use Rattle.mesh_measures.specs.Crossings.{cross, crossing_counts, crossing_pairs}
use Rattle.mesh_measures.specs.TriangleBoxes.{tally, boxed_corners, places}
use Rattle.mesh_measures.proofs.Tallies.{either, HasCorners, has_place, tally_is, count-moved, pairs_moved}
use Rattle.fku_types.proofs.ListLaws.{count-cons}

abbrev pub nothing : Corners
nothing = record { a = origin; b = origin; c = origin }

abbrev pub blank : Boxed
blank = record { place = 0; corners = nothing; least = origin; greatest = origin }

-- boxes of the triangles of a part in its order, and the same in another order
pub record Made (part : List Corners) (made sorted : List Boxed) : Type 0 where
  pub corners : boxed_corners made ≡ part
  pub places : places made ≡ range_with_len 0 (length part)
  pub moved : IsPermutation made sorted

-- ---- each place once
none_before : (n a i : ℕ) → i < a → count_by (λ k. k == i) (range_with_len a n) ≡ 0
none_before zero a i l = refl
none_before (suc n) a i l =
    elim (either (a == i)) [
      | inl e ↦ (let same : a ≡ i = eqb-true a i e in absurd (omega arith))
      | inr e ↦ count-cons (λ (k : ℕ). k == i) a (range_with_len (a + 1) n)
          ∙ ap₂ (λ (b : Bool) (m : ℕ). cond b 1 0 + m) e (none_before n (a + 1) i (omega arith))
    ]

one_within : (n a i : ℕ) → a ≤ i → i < a + n → count_by (λ k. k == i) (range_with_len a n) ≡ 1
one_within zero a i from l = absurd (omega arith)
one_within (suc n) a i from l =
    elim (cases_lt a i) [
      | inl less ↦
          elim (either (a == i)) [
            | inl e ↦ (let same : a ≡ i = eqb-true a i e in absurd (omega arith))
            | inr e ↦ count-cons (λ (k : ℕ). k == i) a (range_with_len (a + 1) n)
                ∙ ap₂ (λ (b : Bool) (m : ℕ). cond b 1 0 + m) e (one_within n (a + 1) i (omega arith) (omega arith))
          ]
      | inr ge ↦
          (let same : a ≡ i = omega arith in
          count-cons (λ (k : ℕ). k == i) a (range_with_len (a + 1) n)
          ∙ ap₂ (λ (b : Bool) (m : ℕ). cond b 1 0 + m) (eq-eqb a i same) (none_before n (a + 1) i (omega arith)))
    ]

none_past : (n a i : ℕ) → a + n ≤ i → count_by (λ k. k == i) (range_with_len a n) ≡ 0
none_past zero a i l = refl
none_past (suc n) a i l =
    elim (either (a == i)) [
      | inl e ↦ (let same : a ≡ i = eqb-true a i e in absurd (omega arith))
      | inr e ↦ count-cons (λ (k : ℕ). k == i) a (range_with_len (a + 1) n)
          ∙ ap₂ (λ (b : Bool) (m : ℕ). cond b 1 0 + m) e (none_past n (a + 1) i (omega arith))
    ]

count-map : {X Y : Type 0} (f : X → Y) (p : Y → Bool) (xs : List X) → count_by p (map f xs) ≡ count_by (λ x. p (f x)) xs
count-map f p [] = refl
count-map {X = X} f p (x ∷ xs) = count-cons p (f x) (map f xs)
    ∙ ap (λ (n : ℕ). cond (p (f x)) 1 0 + n) (count-map f p xs) ∙ sym (count-cons (λ (y : X). p (f y)) x xs)

-- ---- one triangle of the part
pub as_many : (part : List Corners) (made sorted : List Boxed) → Made part made sorted → length made ≡ length part
as_many part made sorted m = sym (length-map made (λ (b : Boxed). b.corners)) ∙ ap length m.corners

pub as_many_sorted : (part : List Corners) (made sorted : List Boxed) → Made part made sorted
    → length sorted ≡ length part
as_many_sorted part made sorted m = length_permutation made sorted m.moved ∙ as_many part made sorted m

place_at : (part : List Corners) (made sorted : List Boxed) → Made part made sorted → (k : ℕ) (d : Boxed)
    → k < length made → (get_or made k d).place ≡ k
place_at part made sorted m k d l =
    let many = as_many part made sorted m in
    sym (get_or-map (λ (b : Boxed). b.place) made k d 0 l) ∙ ap (λ (ks : List ℕ). get_or ks k 0) m.places
    ∙ get_or-range_with_len 0 (length part) k 0 (omega arith) ∙ none k
  where
    none : (k : ℕ) → 0 + k ≡ k
    none k = omega arith

corners_at : (part : List Corners) (made sorted : List Boxed) → Made part made sorted → (k : ℕ) (d : Boxed)
    → k < length made → (get_or made k d).corners ≡ get_or part k nothing
corners_at part made sorted m k d l = sym (get_or-map (λ (b : Boxed). b.corners) made k d nothing l)
    ∙ ap (λ (cs : List Corners). get_or cs k nothing) m.corners

have_corners : (part : List Corners) (made sorted : List Boxed) → Made part made sorted → (i : ℕ)
    → All (HasCorners i (get_or part i nothing)) made
have_corners part made sorted m i = λ k d l e.
    corners_at part made sorted m k d l
    ∙ ap (λ (j : ℕ). get_or part j nothing) (sym (place_at part made sorted m k d l) ∙ e)

pub places_below : (part : List Corners) (made sorted : List Boxed) → Made part made sorted
    → All (λ f. f.place < length sorted) sorted
places_below part made sorted m =
    let n : length made ≡ length sorted = as_many part made sorted m ∙ sym (as_many_sorted part made sorted m) in
    All-permutation (λ (f : Boxed). f.place < length sorted) made sorted m.moved
    (λ k d l. let at = place_at part made sorted m k d l in omega arith)

tally_product : (part : List Corners) (made sorted : List Boxed) → Made part made sorted → (i : ℕ)
    → tally sorted i ≡ count_by (λ k. k == i) (range_with_len 0 (length part)) * count_by
    (cross (get_or part i nothing)) part
tally_product part made sorted m i =
    let s = get_or part i nothing in
    tally_is i s sorted (recursion_from_All (HasCorners i s) sorted
    (All-permutation (HasCorners i s) made sorted m.moved (have_corners part made sorted m i)))
    ∙ ap₂ ◌*◌
    (count-moved (has_place i) made sorted m.moved ∙ sym (count-map (λ (b : Boxed). b.place) (λ (k : ℕ). k == i) made)
    ∙ ap (count_by (λ (k : ℕ). k == i)) m.places)
    (count-moved (λ (f : Boxed). cross s f.corners) made sorted m.moved
    ∙ sym (count-map (λ (b : Boxed). b.corners) (cross s) made) ∙ ap (count_by (cross s)) m.corners)

one_times : (a n : ℕ) → a ≡ 1 → a * n ≡ n
one_times a n e = grind arith

none_times : (a n : ℕ) → a ≡ 0 → a * n ≡ 0
none_times a n e = grind arith

tally_at : (part : List Corners) (made sorted : List Boxed) → Made part made sorted → (i : ℕ) → i < length part
    → tally sorted i ≡ count_by (cross (get_or part i nothing)) part
tally_at part made sorted m i l = tally_product part made sorted m i
    ∙ one_times _ _ (one_within (length part) 0 i (omega arith) (omega arith))

pub tally_fits : (part : List Corners) (made sorted : List Boxed) → Made part made sorted → (most : ℕ)
    → length part < most → (i : ℕ) → tally sorted i < most
tally_fits part made sorted m most few i =
    elim (cases_lt i (length part)) [
      | inl less ↦ (let at = tally_at part made sorted m i less in
          omega (arith, count_by-le-length (cross (get_or part i nothing)) part))
      | inr ge ↦ (let none = tally_product part made sorted m i
          ∙ none_times _ (count_by (cross (get_or part i nothing)) part) (none_past (length part) 0 i (omega arith)) in
          omega arith)
    ]

-- ---- all triangles
pub counts_are : (part : List Corners) (made sorted : List Boxed) → Made part made sorted → (counts : List ℕ)
    → length counts ≡ length sorted → ((i : ℕ) → get_or counts i 0 ≡ tally sorted i) → counts ≡ crossing_counts part
counts_are part made sorted m counts same is =
    let many = as_many_sorted part made sorted m in
    let row : Corners → ℕ = λ s. count_by (cross s) part in
    let rows : length (crossing_counts part) ≡ length part = length-map part row in
    ext_get_or 0 counts (crossing_counts part) (omega arith) (λ i l.
    let there : i < length part = omega arith in
    is i ∙ tally_at part made sorted m i there ∙ sym (get_or-map row part i nothing 0 there))

pub pairs_are : (part : List Corners) (made sorted : List Boxed) → Made part made sorted
    → crossing_pairs (boxed_corners sorted) ≡ crossing_pairs part
pairs_are part made sorted m = pairs_moved (boxed_corners made) (boxed_corners sorted)
    (IsPermutation-map (λ (b : Boxed). b.corners) made sorted m.moved) ∙ ap crossing_pairs m.corners
