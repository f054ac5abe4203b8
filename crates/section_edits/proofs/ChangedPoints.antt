-- Points of a contour with a change.
use Rattle.std.proofs.Common.{◌≡◌, ℕ, List, [], ◌∷◌, ◌++◌, suc, set, take, drop, map, Bool, true, false, cond, Option, Some, sym, ap₂, ◌∙◌, subst}
use Rattle.std.specs.List.{AllByRecursion, find, insert, remove, list_any}
use Rattle.std.proofs.lemmas.List.{map-append, take-map, drop-map}
use Rattle.std.proofs.lemmas.List.Elements.{All-from_recursion, recursion_from_All, All-set, All-take, All-drop}
use Rattle.std.proofs.lemmas.Bool.{and_parts, or_parts, not-false}
use Rattle.fku_types.specs.declared.points.Spot.{Spot as Place}
use Rattle.fku_types.proofs.ListLaws.{all_join}
use Rattle.section_core.specs.Laws.{IsSpot}
use Rattle.section_core.specs.Steps.{is_coordinate}
use Rattle.section_core.proofs.ItemTests.{coordinate_is}
use Rattle.section_core.specs.Views.{spot_at}
use Rattle.section_edits.specs.Refusals.{is_far}

pub map-insert : {X Y : Type 0} (f : X → Y) (xs : List X) (i : ℕ) (x : X)
    → map f (insert xs i x) ≡ insert (map f xs) i (f x)
map-insert {Y = Y} f xs i x =
    map-append f (take i xs) (x ∷ drop i xs)
    ∙ ap₂ (λ (ys zs : List Y). ys ++ f x ∷ zs) (sym (take-map f i xs)) (sym (drop-map f i xs))

pub every_set : {X : Type 0} (P : X → Type 0) (xs : List X) (i : ℕ) (x : X) → AllByRecursion P xs → P x
    → AllByRecursion P (set xs i x)
every_set P xs i x h k = recursion_from_All P (set xs i x) (All-set P xs i x k (All-from_recursion P xs h))

every_take : {X : Type 0} (P : X → Type 0) (xs : List X) (i : ℕ) → AllByRecursion P xs → AllByRecursion P (take i xs)
every_take P xs i h = recursion_from_All P (take i xs) (All-take P i xs (All-from_recursion P xs h))

every_drop : {X : Type 0} (P : X → Type 0) (xs : List X) (i : ℕ) → AllByRecursion P xs → AllByRecursion P (drop i xs)
every_drop P xs i h = recursion_from_All P (drop i xs) (All-drop P i xs (All-from_recursion P xs h))

pub every_insert : {X : Type 0} (P : X → Type 0) (xs : List X) (i : ℕ) (x : X) → AllByRecursion P xs → P x
    → AllByRecursion P (insert xs i x)
every_insert P xs i x h k = all_join P (take i xs) (x ∷ drop i xs) (every_take P xs i h) (k, every_drop P xs i h)

pub every_remove : {X : Type 0} (P : X → Type 0) (xs : List X) (i : ℕ) → AllByRecursion P xs
    → AllByRecursion P (remove xs i)
every_remove P xs i h = all_join P (take i xs) (drop (suc i) xs) (every_take P xs i h) (every_drop P xs (suc i) h)

-- what is found is one of the list
found_one : {X : Type 0} (P : X → Type 0) (b : Bool) (x y : X) (o : Option X) → P y → (o ≡ Some x → P x)
    → cond b (Some y) o ≡ Some x → P x
found_one P true x y o h k e = subst P (cc) h
found_one P false x y o h k e = k e

pub found : {X : Type 0} (P : X → Type 0) (p : X → Bool) (xs : List X) (x : X) → find p xs ≡ Some x
    → AllByRecursion P xs → P x
found P p [] x e h = absurd (cc)
found P p (y ∷ ys) x e h = found_one P (p y) x y (find p ys) h.0 (λ (k : find p ys ≡ Some x). found P p ys x k h.1) e

-- places that are not far are in range
pub near : (p : Place) → is_far p ≡ false → IsSpot (spot_at p)
near p e = let b = and_parts (is_coordinate p.x) (is_coordinate p.y) (not-false _ e) in
    (coordinate_is p.x b.0, coordinate_is p.y b.1)

pub all_near : (ps : List Place) → list_any is_far ps ≡ false → AllByRecursion IsSpot (map spot_at ps)
all_near [] e = tt
all_near (p ∷ ps) e = let b = or_parts (is_far p) (list_any is_far ps) e in (near p b.0, all_near ps b.1)
