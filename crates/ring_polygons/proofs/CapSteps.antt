-- The loop that cuts ears off.
use Rattle.std.proofs.Common.{◌≡◌, ℕ, zero, suc, ◌+◌, ◌-◌, ◌<◌, Bool, cond, List, [], ◌∷◌, ◌++◌, length, remove, count_by, ℤ, pos, int_le, sym, ap, ap₂, ◌∙◌, arith, append_assoc}
use Rattle.std.proofs.lemmas.List.Edits.{length-remove}
use Rattle.fku_types.specs.declared.points.Point.{Point}
use Rattle.plane_geom.specs.Rings.{origin}
use Rattle.plane_geom.specs.Planes.{turns}
use Rattle.ring_polygons.specs.declared.twins.Twins.{Twins}
use Rattle.ring_polygons.specs.Caps.{corner, cut, sign, ear_place, ear_places, places_by, cap_by, is_folded, folded_by}
use Rattle.ring_polygons.proofs.CapLaws.{ear_place_below}
use Rattle.fku_types.proofs.ListLaws.{count-cons}

pub cap_start : (w : Twins) (left : Bool) (points : List Point) → left ≡ int_le (pos 0) (turns points)
    → ear_places w (sign left) (length points - 3) points ≡ places_by w points
unfolding places_by
cap_start w left points e = ap (λ (b : Bool). ear_places w (sign b) (length points - 3) points) e

-- one ear is cut off
cut_one : {X : Type 0} (w : Twins) (d : X) (s : ℤ) (points : List Point) (xs : List X) → 3 < length points →
    cut d (ear_places w s (length points - 3) points) xs ≡ corner d xs (ear_place w s points)
    ∷ cut d (ear_places w s (length (remove points (ear_place w s points)) - 3)
    (remove points (ear_place w s points))) (remove xs (ear_place w s points))
cut_one {X = X} w d s points xs h =
    let t : ℕ = ear_place w s points in
    let below : t < length points = ear_place_below w s points (omega arith) in
    let size : suc (length (remove points t) - 3) ≡ length points - 3 = omega (arith, length-remove points t below) in
    ap (λ (n : ℕ). cut d (ear_places w s n points) xs) (sym size)

-- the last three
cut_last : {X : Type 0} (w : Twins) (d : X) (s : ℤ) (points : List Point) (xs : List X) → length points ≡ 3
    → length xs ≡ 3 → cut d (ear_places w s (length points - 3) points) xs ≡ corner d xs 1 ∷ []
cut_last w d s points [] h k = absurd (omega (arith, k))
cut_last w d s points (a ∷ []) h k = absurd (omega (arith, k))
cut_last w d s points (a ∷ b ∷ []) h k = absurd (omega (arith, k))
cut_last {X = X} w d s points (a ∷ b ∷ c ∷ []) h k =
    let none : length points - 3 ≡ zero = omega arith in
    ap (λ (n : ℕ). cut d (ear_places w s n points) (a ∷ b ∷ c ∷ [])) none
cut_last w d s points (a ∷ b ∷ c ∷ e ∷ xs) h k = absurd (omega (arith, k))

-- what is cut off, and what is still to be cut off
abbrev pub to_cut : Twins → Bool → List Point → List ℕ → List (List ℕ)
to_cut w left points ids = cut 0 (ear_places w (sign left) (length points - 3) points) ids

abbrev pub to_fold : Twins → Bool → List Point → ℕ
to_fold w left points = count_by (is_folded (sign left))
    (cut origin (ear_places w (sign left) (length points - 3) points) points)

pub cut_starts : (w : Twins) (left : Bool) (ring points : List Point) (ring_ids ids : List ℕ) (done : List (List ℕ))
    → left ≡ int_le (pos 0) (turns ring) → points ≡ ring → ids ≡ ring_ids → done ≡ []
    → done ++ to_cut w left points ids ≡ cap_by w ring ring_ids
cut_starts w left ring points ring_ids ids done l p i e =
    ap₂ (λ (d c : List (List ℕ)). d ++ c) e
    (ap₂ (to_cut w left) p i ∙ ap (λ (ts : List ℕ). cut 0 ts ring_ids) (cap_start w left ring l))

pub fold_starts : (w : Twins) (left : Bool) (ring points : List Point) → left ≡ int_le (pos 0) (turns ring)
    → points ≡ ring → to_fold w left points ≡ folded_by w ring
fold_starts w left ring points l p =
    ap (to_fold w left) p ∙ ap (λ (ts : List ℕ). count_by (is_folded (sign left)) (cut origin ts ring))
    (cap_start w left ring l) ∙ ap (λ (b : Bool).
    count_by (is_folded (sign b)) (cut origin (places_by w ring) ring)) l

pub cut_goes_on : (w : Twins) (left : Bool) (points points' : List Point) (ids ids' : List ℕ)
    (done done' : List (List ℕ)) (t : ℕ) (one : List ℕ) → 3 < length points → t ≡ ear_place w (sign left) points
    → one ≡ corner 0 ids t →
    points' ≡ remove points t → ids' ≡ remove ids t → done' ≡ done ++ one ∷ []
    → done' ++ to_cut w left points' ids' ≡ done ++ to_cut w left points ids
cut_goes_on w left points points' ids ids' done done' t one h e o p i d =
    let s : ℤ = sign left in
    let rest : to_cut w left points' ids'
    ≡ to_cut w left (remove points (ear_place w s points)) (remove ids (ear_place w s points)) =
    ap₂ (to_cut w left) (p ∙ ap (remove points) e) (i ∙ ap (remove ids) e) in
    let first : one ≡ corner 0 ids (ear_place w s points) = o ∙ ap (corner 0 ids) e in
    ap (λ (l : List (List ℕ)). l ++ to_cut w left points' ids') d
    ∙ append_assoc done (one ∷ []) (to_cut w left points' ids')
    ∙ ap (λ (l : List (List ℕ)). done ++ l)
    (ap₂ (λ (x : List ℕ) (l : List (List ℕ)). x ∷ l) first rest ∙ sym (cut_one w 0 s points ids h))

pub fold_goes_on : (w : Twins) (left : Bool) (points points' : List Point) (t n : ℕ) → 3 < length points
    → t ≡ ear_place w (sign left) points → n ≡ cond (is_folded (sign left) (corner origin points t)) 1 0 →
    points' ≡ remove points t → n + to_fold w left points' ≡ to_fold w left points
fold_goes_on w left points points' t n h e k p =
    let s : ℤ = sign left in
    let u : ℕ = ear_place w s points in
    let one : n ≡ cond (is_folded s (corner origin points u)) 1 0 = k
    ∙ ap (λ (i : ℕ). cond (is_folded s (corner origin points i)) 1 0) e in
    let rest : to_fold w left points' ≡ to_fold w left (remove points u) =
    ap (to_fold w left) (p ∙ ap (remove points) e) in
    let step = ap (count_by (is_folded s)) (cut_one w origin s points points h) in
    let first = count-cons (is_folded s) (corner origin points u)
    (cut origin (ear_places w s (length (remove points u) - 3) (remove points u)) (remove points u)) in
    omega (arith, one, rest, step, first)

pub cut_ends : (w : Twins) (left : Bool) (points : List Point) (ids : List ℕ) (done done' : List (List ℕ))
    (one : List ℕ) → length points ≡ 3 → length ids ≡ 3 → one ≡ corner 0 ids 1 → done' ≡ done ++ one ∷ []
    → done' ≡ done ++ to_cut w left points ids
cut_ends w left points ids done done' one h k o d = d ∙ ap (λ (x : List ℕ). done ++ x ∷ []) o
    ∙ ap (λ (l : List (List ℕ)). done ++ l) (sym (cut_last w 0 (sign left) points ids h k))

pub fold_ends : (w : Twins) (left : Bool) (points : List Point) (n : ℕ) → length points ≡ 3
    → n ≡ cond (is_folded (sign left) (corner origin points 1)) 1 0 → n ≡ to_fold w left points
fold_ends w left points n h k =
    let s : ℤ = sign left in
    let last = ap (count_by (is_folded s)) (cut_last w origin s points points h h) in
    omega (arith, k, last, count-cons (is_folded s) (corner origin points 1) [])
