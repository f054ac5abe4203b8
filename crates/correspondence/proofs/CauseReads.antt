-- The cause that is reported for a link is that of the definition.
use Rattle.std.proofs.Common.{◌≡◌, ℕ, ◌+◌, ◌<◌, ◌&&◌, Bool, List, [], ◌∷◌, length, map, take, get_or, find, Option, refl, sym, ap, ap₂, ◌∙◌, ◌++◌, bytes_eq}
use Rattle.std.specs.List.{list_any}
use Rattle.std.proofs.lemmas.List.{length-map, get_or-map, take-map, take_more, map-append}
use Rattle.fku_types.specs.declared.fault.LinkCause.{LinkCause}
use Rattle.section_core.specs.declared.parts.Section.{Section}
use Rattle.section_core.specs.declared.parts.Link.{Link}
use Rattle.section_core.specs.Parts.{SectionParts, LinkParts, Parts}
use Rattle.section_core.specs.Views.{section_parts, link_parts}
use Rattle.section_core.specs.Flat.{AreFlat}
use Rattle.correspondence.specs.Nesting.{depths}
use Rattle.correspondence.specs.declared.contour_places.ContourPlace.{ContourPlace}
use Rattle.correspondence.specs.Outlines.{Layer, layer, held_names, held_depths, link_at}
use Rattle.correspondence.specs.Correspondences.{links_names}
use Rattle.correspondence.specs.Links.{names_of, depths_of, contour_places, contour_place_of, name_at, cause_among, cause_of}
use Rattle.correspondence.specs.Named.{AreLinkedNames, Finds}
use Rattle.correspondence.proofs.Held.{layer_held}
use Rattle.section_core.proofs.Keeping.{names-same}

names_held : (ss : List Section) → map (λ (s : SectionParts). (layer s).names) (map section_parts ss)
    ≡ map held_names ss
names_held [] = refl
names_held (s ∷ ss) = ap₂ (λ (x : List (List ℕ)) (xs : List (List (List ℕ))). x ∷ xs) (names-same s.contours.items)
    (names_held ss)

depths_held : (ss : List Section) → AreFlat ss
    → map (λ (s : SectionParts). depths (layer s).outlines) (map section_parts ss) ≡ map held_depths ss
depths_held [] h = refl
depths_held (s ∷ ss) h = ap₂ (λ (x : List ℕ) (xs : List (List ℕ)). x ∷ xs)
    (ap (λ (l : Layer). depths l.outlines) (layer_held s h.0)) (depths_held ss h.1)

pub link_read : (S : Parts) (links : List Link) (i : ℕ) (item : Link) → map link_parts links ≡ S.links
    → i < length links → item ≡ get_or links i item → link_at S i ≡ link_parts item
link_read S links i item e l r =
    ap (λ (x : List LinkParts). get_or x i (record { below = []; above = [] })) (sym e)
    ∙ get_or-map link_parts links i item (record { below = []; above = [] }) l ∙ ap link_parts (sym r)

same_cause : (d e : List (List ℕ)) (a b : Bool) (x y u v : Option ContourPlace) → d ≡ e → a ≡ b → x ≡ y → u ≡ v
    → cause_among d a x u ≡ cause_among e b y v
same_cause d e a b x y u v p q r s = ap₂ (λ (m : List (List ℕ)) (t : Bool). cause_among m t x u) p q
    ∙ ap₂ (λ (o w : Option ContourPlace). cause_among e b o w) r s

pub depths_told : (S : Parts) (ss : List Section) → map section_parts ss ≡ S.sections → AreFlat ss
    → map held_depths ss ≡ depths_of S
depths_told S ss es flat = sym (ap (map (λ (s : SectionParts). depths (layer s).outlines)) (sym es)
    ∙ depths_held ss flat)

pub contour_place_found : (S : Parts) (ss : List Section) (found : List ℕ → Option ContourPlace)
    → map section_parts ss ≡ S.sections
    → Finds found (map held_names ss) (contour_places (map held_names ss) (length ss)) → (name : List ℕ)
    → found name ≡ contour_place_of (names_of S) name
contour_place_found S ss found es h name =
    let same : names_of S ≡ map held_names ss = ap (map (λ (s : SectionParts). (layer s).names)) (sym es)
    ∙ names_held ss in
    h name ∙ ap (λ (n : ℕ). find (λ p. bytes_eq name (name_at (map held_names ss) p))
    (contour_places (map held_names ss) n)) (sym (length-map ss held_names))
    ∙ ap (λ (names : List (List (List ℕ))). contour_place_of names name) (sym same)

pub cause_told : (S : Parts) (links : List Link) (i : ℕ) (item : Link) (r : Option LinkCause) (rows : List (List ℕ))
    (keys : List (List ℕ × List ℕ)) (found : List ℕ → Option ContourPlace)
    → map link_parts links ≡ S.links → i < length links → item ≡ get_or links i item
    → rows ≡ depths_of S → AreLinkedNames keys (map link_parts (take i links))
    → ((name : List ℕ) → found name ≡ contour_place_of (names_of S) name)
    → r ≡ cause_among rows (list_any (λ e. bytes_eq item.below e.0 && bytes_eq item.above e.1) keys) (found item.below)
    (found item.above) → r ≡ cause_of S i
unfolding cause_of
cause_told S links i item r rows keys found el l read deep ek places e =
    let link : link_parts item ≡ link_at S i = sym (link_read S links i item el l read) in
    let front : map link_parts (take i links) ≡ take i S.links = sym (take-map link_parts i links) ∙ ap (take i) el in
    let again : list_any (λ e. bytes_eq item.below e.0 && bytes_eq item.above e.1) keys
    ≡ list_any (links_names (link_at S i).below (link_at S i).above) (take i S.links) =
    ek item.below item.above ∙ ap₂ (λ (x : LinkParts) (xs : List LinkParts). list_any (links_names x.below x.above) xs)
    link front in
    e ∙ same_cause rows (depths_of S) _ _ (found item.below) (contour_place_of (names_of S) (link_at S i).below)
    (found item.above) (contour_place_of (names_of S) (link_at S i).above) deep again
    (places item.below ∙ ap (λ (x : LinkParts). contour_place_of (names_of S) x.below) link)
    (places item.above ∙ ap (λ (x : LinkParts). contour_place_of (names_of S) x.above) link)

pub depths_more : (ss : List Section) (i : ℕ) (item : Section) (before after : List (List ℕ)) (own : List ℕ)
    → i < length ss → item ≡ get_or ss i item → own ≡ held_depths item → before ≡ map held_depths (take i ss)
    → after ≡ before ++ own ∷ [] → after ≡ map held_depths (take (i + 1) ss)
depths_more ss i item before after own l r o b a =
    a ∙ ap₂ (λ (x : List (List ℕ)) (y : List ℕ). x ++ y ∷ []) b (o ∙ ap held_depths r)
    ∙ sym (ap (map held_depths) (take_more ss i item l)
    ∙ map-append held_depths (take i ss) (get_or ss i item ∷ []))
