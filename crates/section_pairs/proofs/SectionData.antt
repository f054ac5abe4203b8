-- Sections of the code as their heights, names and points.
use Rattle.std.proofs.Common.{inr, ◌≡◌, ℕ, zero, suc, ◌+◌, ◌<◌, List, [], ◌∷◌, ◌++◌, length, take, drop, get_or, map, refl, sym, ap, ◌∙◌, subst, arith}
use Rattle.std.specs.Prelude.{All, Result, Ok, Err, MatchResult}
use Rattle.std.proofs.lemmas.List.{map-append, append-nil, length-map, length-append, get_or-map, get_or_append_left, get_or-append-add}
use Rattle.std.proofs.lemmas.List.Elements.{All-append}
use Rattle.std.proofs.lemmas.Simd.{map-map}
use Rattle.std.proofs.lemmas.Grind.{flat_map-append}
use Rattle.fku_types.proofs.ListLaws.{split_at}
use Rattle.fku_types.specs.declared.fault.Fault.{Fault}
use Rattle.section_core.specs.declared.parts.Contour.{Contour}
use Rattle.section_core.specs.declared.parts.Section.{Section}
use Rattle.section_core.specs.Flat.{ContourData, SectionData, contour_data, section_data}
use Rattle.correspondence.specs.Contours.{point_lists}
use Rattle.section_pairs.specs.SectionFaults.{data_contours, names_in, outlines_in, IsSimpleContour, IsApartSection, HasCrossing, IsFirstFault, AreSound, IsContourFault}
use Rattle.section_pairs.specs.Unchanged.{IsSameAt}
use Rattle.section_pairs.proofs.Firsts.{front_more}

pub outlines_are : (s : Section) → outlines_in (section_data s) ≡ point_lists s
outlines_are s = map-map (λ (c : ContourData). c.1) contour_data s.contours.items

pub names_are : (s : Section) → names_in (section_data s) ≡ map (λ (c : Contour). c.name) s.contours.items
names_are s = map-map (λ (c : ContourData). c.0) contour_data s.contours.items

-- the contours of sections, at one of them
pub contours_at_split : (sections : List Section) (i : ℕ) (x : Section) → i < length sections → x ≡ get_or sections i x
    → data_contours (map section_data sections) ≡ data_contours (map section_data (take i sections))
    ++ (map contour_data x.contours.items ++ data_contours (map section_data (drop (i + 1) sections)))
contours_at_split sections i x l e =
    ap (λ (xs : List Section). data_contours (map section_data xs)) (split_at sections i x l e)
    ∙ ap data_contours (map-append section_data (take i sections) (x ∷ drop (i + 1) sections))
    ∙ flat_map-append (λ (s : SectionData). s.1) (map section_data (take i sections))
    (section_data x ∷ map section_data (drop (i + 1) sections))

pub simple_more : (sections : List Section) (i : ℕ) (x : Section) → i < length sections → x ≡ get_or sections i x
    → All IsSimpleContour (data_contours (map section_data (take i sections)))
    → All IsSimpleContour (map contour_data x.contours.items)
    → All IsSimpleContour (data_contours (map section_data (take (i + 1) sections)))
simple_more sections i x l e h k =
    let both : data_contours (map section_data (take (i + 1) sections))
    ≡ data_contours (map section_data (take i sections)) ++ map contour_data x.contours.items =
    ap data_contours (front_more section_data sections i x l e)
    ∙ flat_map-append (λ (s : SectionData). s.1) (map section_data (take i sections)) (section_data x ∷ [])
    ∙ ap (λ (ys : List ContourData). data_contours (map section_data (take i sections)) ++ ys)
    (append-nil (map contour_data x.contours.items)) in
    subst (λ (ys : List ContourData). All IsSimpleContour ys) (sym both) (All-append IsSimpleContour _ _ h k)

-- the result of the test of sections, if all contours are simple
pub tested : (r : Result Unit Fault) (xs ys : List SectionData) → xs ≡ ys → All IsSimpleContour (data_contours xs)
    → MatchResult r (λ _. All IsApartSection xs) (IsFirstFault IsApartSection HasCrossing xs)
    → MatchResult r (λ _. AreSound ys) (IsContourFault ys)
tested (Ok u) xs ys e h k =
    let P : List SectionData → Type 0 = λ zs. AreSound zs in
    subst P e (record { simple = h; apart = k })
tested (Err fault) xs ys e h k =
    let P : List SectionData → Type 0 = λ zs. IsContourFault zs fault in
    subst P e (inr (record { simple = h; first = k }))

-- ---- sections that other sections have at the same place
pub item_at : {X : Type 0} (xs : List X) (i : ℕ) → i < length xs → (x : X) × (x ≡ get_or xs i x)
item_at [] i l = absurd (omega (arith, l))
item_at (x ∷ xs) zero l = (x, refl)
item_at (x ∷ xs) (suc i) l = item_at xs i (omega (arith, l))

pub all_left : {X : Type 0} (P : X → Type 0) (xs ys : List X) → All P (xs ++ ys) → All P xs
all_left P xs ys h k d l = subst P (get_or_append_left xs ys d k l) (h k d (omega (arith, l, length-append xs ys)))

pub all_right : {X : Type 0} (P : X → Type 0) (xs ys : List X) → All P (xs ++ ys) → All P ys
all_right P xs ys h k d l = subst P (get_or-append-add xs ys k d)
    (h (length xs + k) d (omega (arith, l, length-append xs ys)))

simple_at : (sections : List Section) (i : ℕ) (x : Section) → i < length sections → x ≡ get_or sections i x
    → All IsSimpleContour (data_contours (map section_data sections))
    → All IsSimpleContour (map contour_data x.contours.items)
simple_at sections i x l e h =
    let front = data_contours (map section_data (take i sections)) in
    let here = map contour_data x.contours.items in
    let rest = data_contours (map section_data (drop (i + 1) sections)) in
    all_left IsSimpleContour here rest
    (all_right IsSimpleContour front (here ++ rest)
    (subst (λ (ys : List ContourData). All IsSimpleContour ys) (contours_at_split sections i x l e) h))

data_at : (old sections : List Section) (i : ℕ) (y x : Section)
    → IsSameAt (map section_data old) (map section_data sections) i → i < length old → i < length sections
    → y ≡ get_or old i y → x ≡ get_or sections i x → section_data y ≡ section_data x
data_at old sections i y x h m l f e =
    ap section_data f ∙ sym (get_or-map section_data old i y (section_data x) m) ∙ h.same (section_data x)
    ∙ get_or-map section_data sections i x (section_data x) l ∙ ap section_data (sym e)

pub known_simple : (old sections : List Section) (i : ℕ) (x : Section) → i < length sections → x ≡ get_or sections i x
    → IsSameAt (map section_data old) (map section_data sections) i
    → All IsSimpleContour (data_contours (map section_data old))
    → All IsSimpleContour (map contour_data x.contours.items)
known_simple old sections i x l e h k =
    let m : i < length old = omega (arith, h.there, length-map old section_data) in
    let y = item_at old i m in
    subst (λ (s : SectionData). All IsSimpleContour s.1) (data_at old sections i y.0 x h m l y.1 e)
    (simple_at old i y.0 m y.1 k)

pub known_apart : (old sections : List Section) (i : ℕ) (x : Section) → i < length sections → x ≡ get_or sections i x
    → IsSameAt (map section_data old) (map section_data sections) i
    → All IsApartSection (map section_data old) → IsApartSection (section_data x)
known_apart old sections i x l e h k =
    let d = section_data x in
    subst IsApartSection (h.same d ∙ get_or-map section_data sections i x d l ∙ ap section_data (sym e)) (k i d h.there)
