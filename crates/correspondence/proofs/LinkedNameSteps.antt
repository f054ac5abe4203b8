-- The names of one more link.
use Rattle.std.proofs.Common.{◌≡◌, ℕ, ◌+◌, ◌<◌, ◌&&◌, ◌||◌, Bool, true, false, List, [], ◌∷◌, ◌++◌, length, map, take, get_or, refl, sym, ap, ap₂, ◌∙◌, subst, bytes_eq, if◌then◌else◌}
use Rattle.std.specs.List.{list_any}
use Rattle.std.proofs.lemmas.Bool.{and_parts, or_right}
use Rattle.std.proofs.lemmas.List.{map-append, take_more}
use Rattle.std.proofs.lemmas.List.Folds.{list_any-append}
use Rattle.section_core.specs.declared.parts.Link.{Link}
use Rattle.section_core.specs.Parts.{LinkParts}
use Rattle.section_core.specs.Views.{link_parts}
use Rattle.correspondence.specs.Correspondences.{links_names}
use Rattle.correspondence.specs.Named.{AreLinkedNames}
use Rattle.fku_types.proofs.TruthLaws.{or_false}
use Rattle.std.proofs.lemmas.Slice.Eq.{bytes_eq-Decides}

-- whether the link that was added names the two
pub added : (links : List LinkParts) (l : LinkParts) (one other : List ℕ)
    → list_any (links_names one other) (links ++ l ∷ [])
    ≡ (list_any (links_names one other) links || links_names one other l)
added links l one other = list_any-append (links_names one other) links (l ∷ [])
    ∙ ap (λ (b : Bool). list_any (links_names one other) links || b) (or_false (links_names one other l))

kept : (keys : List (List ℕ × List ℕ)) (links : List LinkParts) (l : LinkParts)
    → list_any (λ e. bytes_eq l.below e.0 && bytes_eq l.above e.1) keys ≡ true → AreLinkedNames keys links
    → AreLinkedNames keys (links ++ l ∷ [])
kept keys links l d h one other = by_case (links_names one other l) refl
  where
    by_case : (b : Bool) → links_names one other l ≡ b
        → list_any (λ e. bytes_eq one e.0 && bytes_eq other e.1) keys
        ≡ list_any (links_names one other) (links ++ l ∷ [])
    by_case false e = h one other ∙ sym
        (added links l one other ∙ ap (λ (b : Bool). list_any (links_names one other) links || b) e
        ∙ or_false (list_any (links_names one other) links))
    by_case true e =
        let p = and_parts (bytes_eq one l.below) (bytes_eq other l.above) e in
        let same : list_any (λ e. bytes_eq one e.0 && bytes_eq other e.1) keys ≡ true =
        ap₂ (λ (x y : List ℕ). list_any (λ e. bytes_eq x e.0 && bytes_eq y e.1) keys)
        ((bytes_eq-Decides one l.below).0 p.0) ((bytes_eq-Decides other l.above).0 p.1) ∙ d in
        same ∙ sym (added links l one other
        ∙ or_right (list_any (links_names one other) links) (links_names one other l) e)

joined_end : (keys : List (List ℕ × List ℕ)) (links : List LinkParts) (l : LinkParts) → AreLinkedNames keys links
    → AreLinkedNames (keys ++ (l.below, l.above) ∷ []) (links ++ l ∷ [])
joined_end keys links l h one other =
    list_any-append (λ e. bytes_eq one e.0 && bytes_eq other e.1) keys ((l.below, l.above) ∷ [])
    ∙ ap₂ (λ (a b : Bool). a || b) (h one other) (or_false (links_names one other l))
    ∙ sym (added links l one other)

pub linked_names_more : (keys after : List (List ℕ × List ℕ)) (links : List LinkParts) (l : LinkParts) (b a : List ℕ)
    → b ≡ l.below → a ≡ l.above
    → after ≡ (if list_any (λ e. bytes_eq b e.0 && bytes_eq a e.1) keys then keys else keys ++ (b, a) ∷ [])
    → AreLinkedNames keys links → AreLinkedNames after (links ++ l ∷ [])
linked_names_more keys after links l b a e f k h =
    let new : after ≡ (if list_any (λ e. bytes_eq l.below e.0 && bytes_eq l.above e.1) keys then keys else keys
    ++ (l.below, l.above) ∷ []) =
    k ∙ ap₂ (λ (x y : List ℕ). if list_any (λ e. bytes_eq x e.0 && bytes_eq y e.1) keys then keys else keys ++ (x, y)
    ∷ []) e f in
    by_case (list_any (λ e. bytes_eq l.below e.0 && bytes_eq l.above e.1) keys) refl new
  where
    by_case : (d : Bool) → list_any (λ e. bytes_eq l.below e.0 && bytes_eq l.above e.1) keys ≡ d
        → after ≡ (if list_any (λ e. bytes_eq l.below e.0 && bytes_eq l.above e.1) keys then keys else keys
        ++ (l.below, l.above) ∷ []) → AreLinkedNames after (links ++ l ∷ [])
    by_case true d n = subst (λ (ks : List (List ℕ × List ℕ)). AreLinkedNames ks (links ++ l ∷ []))
        (sym (n ∙ ap (λ (t : Bool). if t then keys else keys ++ (l.below, l.above) ∷ []) d)) (kept keys links l d h)
    by_case false d n = subst (λ (ks : List (List ℕ × List ℕ)). AreLinkedNames ks (links ++ l ∷ []))
        (sym (n ∙ ap (λ (t : Bool). if t then keys else keys ++ (l.below, l.above) ∷ []) d)) (joined_end keys links l h)

pub links_take : (links : List Link) (i : ℕ) (item : Link) → i < length links → item ≡ get_or links i item
    → map link_parts (take (i + 1) links) ≡ map link_parts (take i links) ++ link_parts item ∷ []
links_take links i item l e =
    ap (map link_parts) (take_more links i item l) ∙ map-append link_parts (take i links) (get_or links i item ∷ [])
    ∙ ap (λ (x : Link). map link_parts (take i links) ++ link_parts x ∷ []) (sym e)
