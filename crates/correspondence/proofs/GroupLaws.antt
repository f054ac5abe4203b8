-- Groups of contours, place after place.
use Rattle.std.proofs.Common.{◌≡◌, ℕ, ◌+◌, ◌-◌, ◌<◌, ◌≤◌, List, [], ◌∷◌, ◌++◌, length, get_or, set, get_or-set_other, get_or-set_same, length-append, refl, sym, ap, subst, arith}
use Rattle.std.proofs.lemmas.List.{get_or_append_left, get_or_at}
use borrow.Author.Count.{below_more}
use Rattle.fku_types.specs.declared.points.Point.{Point}
use Rattle.correspondence.specs.declared.bounds.Bounds.{Bounds}
use Rattle.correspondence.specs.Bounding.{LiesWithin, Encloses}
use Rattle.correspondence.specs.Contours.{contour_at}

-- bounds that enclose whatever others do
pub enclose_more : (b c : Bounds) (points : List Point) → ((q : Point) → LiesWithin b q → LiesWithin c q)
    → Encloses b points → Encloses c points
enclose_more b c points h e i d l = h (get_or points i d) (e i d l)

-- bounds of some successive contours, and of one more
pub all_more : (contours : List (List Point)) (b one c : Bounds) (begin place : ℕ)
    → ((q : Point) → LiesWithin b q → LiesWithin c q) → ((q : Point) → LiesWithin one q → LiesWithin c q)
    → ((k : ℕ) → begin ≤ k → k < place → Encloses b (contour_at contours k)) → Encloses one (contour_at contours place)
    → (k : ℕ) → begin ≤ k → k < place + 1 → Encloses c (contour_at contours k)
all_more contours b one c begin place f g before here k from below =
    below_more (λ j. begin ≤ j → Encloses c (contour_at contours j)) place
    (λ j l s. enclose_more b c (contour_at contours j) f (before j s l))
    (λ s. enclose_more one c (contour_at contours place) g here) k below from

-- the bounds of each of some successive contours, and of one more
pub each_more : (contours : List (List Point)) (each : List Bounds) (begin place : ℕ) (one : Bounds) → begin ≤ place
    → place - begin < length each
    → ((k : ℕ) (d : Bounds) → begin ≤ k → k < place → Encloses (get_or each (k - begin) d) (contour_at contours k))
    → Encloses one (contour_at contours place)
    → (k : ℕ) (d : Bounds) → begin ≤ k → k < place + 1
    → Encloses (get_or (set each (place - begin) one) (k - begin) d) (contour_at contours k)
each_more contours each begin place one start room before here k d from below =
    below_more (λ j. begin ≤ j → Encloses (get_or (set each (place - begin) one) (j - begin) d) (contour_at contours j))
    place
    (λ j l s. subst (λ (b : Bounds). Encloses b (contour_at contours j))
    (sym (get_or-set_other each (place - begin) (j - begin) one d (omega arith))) (before j d s l))
    (λ s. subst (λ (b : Bounds). Encloses b (contour_at contours place))
    (sym (get_or-set_same each (place - begin) one d room)) here) k below from

-- what holds of the items of a list by their places, and of one more
pub placed_more : {X : Type 0} (P : ℕ → X → Type 0) (xs ys : List X) (y : X) → ys ≡ xs ++ y ∷ []
    → ((k : ℕ) (d : X) → k < length xs → P k (get_or xs k d)) → P (length xs) y
    → (k : ℕ) (d : X) → k < length ys → P k (get_or ys k d)
placed_more {X = X} P xs ys y e before here k d l =
    let there : k < length xs + 1 = omega (arith, ap length e, length-append xs (y ∷ []), l) in
    subst (λ (zs : List X). P k (get_or zs k d)) (sym e)
    (below_more (λ j. P j (get_or (xs ++ y ∷ []) j d)) (length xs)
    (λ j m. subst (P j) (sym (get_or_append_left xs (y ∷ []) d j m)) (before j d m))
    (subst (P (length xs)) (sym (get_or_at xs y [] d (length xs) refl)) here) k there)
