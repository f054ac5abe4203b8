-- Contours that are found by name, in order.
use Rattle.std.proofs.Common.{◌≡◌, ℕ, ◌+◌, ◌<◌, append_assoc, get_or, flat_map, slice_index_or, arith, Bool, true, false, cond, List, [], ◌∷◌, ◌++◌, length, map, Option, Some, None, refl, sym, ap, ap₂, ◌∙◌, subst, bytes_eq, if◌then◌else◌}
use Rattle.std.specs.List.{range_with_len}
use Rattle.std.specs.Option.{option_or, is_some}
use Rattle.std.proofs.lemmas.List.{append-nil, length-map, get_or-map}
use Rattle.std.proofs.lemmas.List.FromFn.{map-range_with_len_more}
use Rattle.std.proofs.lemmas.List.Folds.{find-append}
use Rattle.correspondence.specs.declared.contour_places.ContourPlace.{ContourPlace}
use Rattle.section_core.specs.declared.parts.Contour.{Contour}
use Rattle.section_core.specs.declared.parts.Section.{Section}
use Rattle.correspondence.specs.Outlines.{held_names}
use Rattle.correspondence.specs.Links.{name_at, contour_places_in, contour_places}
use Rattle.std.proofs.lemmas.Grind.{flat_map-append}
use Rattle.correspondence.specs.Named.{Finds}
use Rattle.std.proofs.lemmas.Slice.Eq.{bytes_eq-Decides}
use Rattle.std.proofs.lemmas.Bool.{both_ways}
use Rattle.fku_types.proofs.ListLaws.{range_more}

pub bytes_flip : (a b : List ℕ) → bytes_eq a b ≡ bytes_eq b a
bytes_flip a b = by_case (bytes_eq a b) (bytes_eq b a) refl refl
  where
    by_case : (s t : Bool) → bytes_eq a b ≡ s → bytes_eq b a ≡ t → s ≡ t
    by_case true true e f = refl
    by_case false false e f = refl
    by_case true false e f = absurd (both_ways (bytes_eq b a) f
        ((bytes_eq-Decides b a).1 (sym ((bytes_eq-Decides a b).0 e))))
    by_case false true e f = absurd (both_ways (bytes_eq a b) e
        ((bytes_eq-Decides a b).1 (sym ((bytes_eq-Decides b a).0 f))))

or_nothing : {X : Type 0} (o : Option X) → option_or o None ≡ o
or_nothing None = refl
or_nothing (Some x) = refl

-- a value is found already
pub found_stays : (found : List ℕ → Option ContourPlace) (name q : List ℕ) (p : ContourPlace) (b : Bool)
    → bytes_eq q name ≡ b → (w : ContourPlace) → found name ≡ Some w
    → found q ≡ option_or (found q) (if b then Some p else None)
found_stays found name q p true e w h =
    let there : found q ≡ Some w = ap found ((bytes_eq-Decides q name).0 e) ∙ h in
    there ∙ sym (ap (λ (o : Option ContourPlace). option_or o (Some p)) there)
found_stays found name q p false e w h = sym (or_nothing (found q))

-- a value that was not found is added
pub found_added : (old new : List ℕ → Option ContourPlace) (name q : List ℕ) (p : ContourPlace) → old name ≡ None
    → new q ≡ cond (bytes_eq name q) (Some p) (old q)
    → new q ≡ option_or (old q) (if bytes_eq q name then Some p else None)
found_added old new name q p none e = by_case (bytes_eq q name) refl
  where
    by_case : (b : Bool) → bytes_eq q name ≡ b → new q ≡ option_or (old q) (if bytes_eq q name then Some p else None)
    by_case true f =
        let gone : old q ≡ None = ap old ((bytes_eq-Decides q name).0 f) ∙ none in
        e ∙ ap (λ (b : Bool). cond b (Some p) (old q)) (bytes_flip name q ∙ f)
        ∙ sym (ap₂ (λ (o : Option ContourPlace) (b : Bool). option_or o (if b then Some p else None)) gone f)
    by_case false f =
        e ∙ ap (λ (b : Bool). cond b (Some p) (old q)) (bytes_flip name q ∙ f)
        ∙ sym (ap (λ (b : Bool). option_or (old q) (if b then Some p else None)) f ∙ or_nothing (old q))

-- one more place
pub finds_push : (old new : List ℕ → Option ContourPlace) (names : List (List (List ℕ))) (places : List ContourPlace)
    (name : List ℕ) (p : ContourPlace) → Finds old names places → name ≡ name_at names p
    → ((q : List ℕ) → new q ≡ option_or (old q) (if bytes_eq q name then Some p else None))
    → Finds new names (places ++ p ∷ [])
finds_push old new names places name p h e f q =
    f q ∙ ap₂ (λ (o : Option ContourPlace) (x : List ℕ). option_or o (if bytes_eq q x then Some p else None)) (h q) e
    ∙ sym (find-append (λ s. bytes_eq q (name_at names s)) places (p ∷ []))

pub is_there : {X : Type 0} (o : Option X) → is_some o ≡ true → (w : X) × (o ≡ Some w)
is_there None h = absurd (both_ways false refl h)
is_there (Some w) h = (w, refl)

pub is_none : {X : Type 0} (o : Option X) → is_some o ≡ false → o ≡ None
is_none None h = refl
is_none (Some w) h = absurd (both_ways true h refl)

abbrev pub standing : ℕ → ℕ → ContourPlace
standing s k = record { section = s; contour = k }

-- one more contour of a section
pub places_more : (s k : ℕ) (places : List ContourPlace)
    → (places ++ map (standing s) (range_with_len 0 k)) ++ standing s k ∷ [] ≡ places
    ++ map (standing s) (range_with_len 0 (k + 1))
places_more s k places =
    append_assoc places (map (standing s) (range_with_len 0 k)) (standing s k ∷ [])
    ∙ ap (λ (l : List ContourPlace). places ++ l) (sym (map-range_with_len_more (standing s) 0 k k (omega arith)))

pub contours_found : (found : List ℕ → Option ContourPlace) (names : List (List (List ℕ))) (places : List ContourPlace)
    (s k : ℕ) (contours : List Contour) → k ≡ length contours
    → slice_index_or names s [] ≡ map (λ (c : Contour). c.name) contours
    → Finds found names (places ++ map (standing s) (range_with_len 0 k))
    → Finds found names (places ++ contour_places_in names s)
contours_found found names places s k contours e f h =
    let count : k ≡ length (slice_index_or names s []) = e ∙ sym (length-map contours (λ (c : Contour). c.name))
    ∙ sym (ap length f) in
    subst (λ (n : ℕ). Finds found names (places ++ map (standing s) (range_with_len 0 n))) count h

-- one more section
pub contour_places_more : (names : List (List (List ℕ))) (n : ℕ)
    → contour_places names n ++ contour_places_in names n ≡ contour_places names (n + 1)
contour_places_more names n =
    sym (ap (flat_map (contour_places_in names)) (range_more n)
    ∙ flat_map-append (contour_places_in names) (range_with_len 0 n) (n ∷ [])
    ∙ ap (λ (l : List ContourPlace). contour_places names n ++ l) (append-nil (contour_places_in names n)))

pub section_names : (sections : List Section) (s : ℕ) (d : Section) (contours : List Contour) → s < length sections
    → contours ≡ (get_or sections s d).contours.items
    → slice_index_or (map held_names sections) s [] ≡ map (λ (c : Contour). c.name) contours
section_names sections s d contours l e = get_or-map held_names sections s d [] l
    ∙ ap (map (λ (c : Contour). c.name)) (sym e)
