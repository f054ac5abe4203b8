-- Words that are those of an edit, or of none.
use Rattle.std.proofs.Common.{◌≡◌, ℕ, ℤ, pos, ◌<◌, false, List, [], ◌∷◌, ◌++◌, length, Some, refl, sym, ap, ap₂, ◌∙◌, subst, arith, length-append}
use Rattle.std.proofs.lemmas.List.{append_assoc, append-nil}
use Rattle.std.specs.Prelude.{codes, bytes_eq}
use Rattle.std.specs.List.{AllByRecursion, flat_map}
use Rattle.std.proofs.lemmas.Bool.{iff_false}
use Rattle.std.proofs.lemmas.Slice.Eq.{bytes_eq-Decides}
use Rattle.fku_types.specs.declared.points.Spot.{Spot}
use Rattle.text_io.specs.Text.{number_of}
use Rattle.text_io.specs.WordLists.{text, number, Matches}
use Rattle.section_edits.specs.declared.edit.Edit.TheVariants.{Move, Insert, Remove, AddContour, RemoveContour}
use Rattle.section_edits.specs.Lines.{IsName, IsIndex, InRange, IsSpotInRange, IsNoEdit, spot_words}
use Rattle.section_edits.specs.Reading.{NoVertex, IsSpotOf, NoSpot, AreSpots, NoSpots}

-- words that are no edit, by their keyword
pub move_only : (ws : List (List ℕ)) → NoVertex ws → IsNoEdit (codes "MOVE" ∷ ws)
move_only ws h (Move name i x y) (m, w) = h name i x y m.1 w.0 w.1 w.2 w.3
move_only ws h (Insert name i x y) (m, w) = iff_false (bytes_eq-Decides (codes "MOVE") (codes "INSERT")) refl m.0
move_only ws h (Remove name i) (m, w) = iff_false (bytes_eq-Decides (codes "MOVE") (codes "REMOVE")) refl m.0
move_only ws h (AddContour z name ps) (m, w) = iff_false (bytes_eq-Decides (codes "MOVE") (codes "ADD")) refl m.0
move_only ws h (RemoveContour name) (m, w) = iff_false (bytes_eq-Decides (codes "MOVE") (codes "DROP")) refl m.0

pub remove_only : (ws : List (List ℕ))
    → ((name : List ℕ) (i : ℕ) → Matches ws (text name ∷ number (pos i) ∷ []) → IsName name → IsIndex i → ⊥)
    → IsNoEdit (codes "REMOVE" ∷ ws)
remove_only ws h (Move name i x y) (m, w) = iff_false (bytes_eq-Decides (codes "REMOVE") (codes "MOVE")) refl m.0
remove_only ws h (Insert name i x y) (m, w) = iff_false (bytes_eq-Decides (codes "REMOVE") (codes "INSERT")) refl m.0
remove_only ws h (Remove name i) (m, w) = h name i m.1 w.0 w.1
remove_only ws h (AddContour z name ps) (m, w) = iff_false (bytes_eq-Decides (codes "REMOVE") (codes "ADD")) refl m.0
remove_only ws h (RemoveContour name) (m, w) = iff_false (bytes_eq-Decides (codes "REMOVE") (codes "DROP")) refl m.0

pub add_only : (ws : List (List ℕ))
    → ((z : ℤ) (name : List ℕ) (ps : List Spot)
    → Matches ws (number z ∷ text name ∷ number (pos (length ps)) ∷ flat_map spot_words ps) → InRange z → IsName name
    → IsIndex (length ps) → AllByRecursion IsSpotInRange ps → ⊥) → IsNoEdit (codes "ADD" ∷ ws)
add_only ws h (Move name i x y) (m, w) = iff_false (bytes_eq-Decides (codes "ADD") (codes "MOVE")) refl m.0
add_only ws h (Insert name i x y) (m, w) = iff_false (bytes_eq-Decides (codes "ADD") (codes "INSERT")) refl m.0
add_only ws h (Remove name i) (m, w) = iff_false (bytes_eq-Decides (codes "ADD") (codes "REMOVE")) refl m.0
add_only ws h (AddContour z name ps) (m, w) = h z name ps m.1 w.0 w.1 w.2 w.3
add_only ws h (RemoveContour name) (m, w) = iff_false (bytes_eq-Decides (codes "ADD") (codes "DROP")) refl m.0

-- another keyword, or no word
pub none_of : (w : List ℕ) (ws : List (List ℕ)) → bytes_eq w (codes "MOVE") ≡ false
    → bytes_eq w (codes "INSERT") ≡ false → bytes_eq w (codes "REMOVE") ≡ false → bytes_eq w (codes "ADD") ≡ false
    → bytes_eq w (codes "DROP") ≡ false → IsNoEdit (w ∷ ws)
none_of k ws a b c d e (Move name i x y) (m, w) = iff_false (bytes_eq-Decides k (codes "MOVE")) a m.0
none_of k ws a b c d e (Insert name i x y) (m, w) = iff_false (bytes_eq-Decides k (codes "INSERT")) b m.0
none_of k ws a b c d e (Remove name i) (m, w) = iff_false (bytes_eq-Decides k (codes "REMOVE")) c m.0
none_of k ws a b c d e (AddContour z name ps) (m, w) = iff_false (bytes_eq-Decides k (codes "ADD")) d m.0
none_of k ws a b c d e (RemoveContour name) (m, w) = iff_false (bytes_eq-Decides k (codes "DROP")) e m.0

-- ---- places
pub number_once : (w : List ℕ) (a b : ℤ) → number_of w ≡ Some a → number_of w ≡ Some b → a ≡ b
number_once w a b e f = let g : Some a ≡ Some b = sym e ∙ f in cc

pub same_spot : (p q : Spot) → p.x ≡ q.x → p.y ≡ q.y → p ≡ q
same_spot p q e f = ap₂ (λ (x y : ℤ). let r : Spot = record { x = x; y = y } in r) e f

spot_once : (a b : List ℕ) (p q : Spot) → IsSpotOf a b p → IsSpotOf a b q → p ≡ q
spot_once a b p q h k = same_spot p q (number_once a p.x q.x h.0 k.0) (number_once b p.y q.y h.1 k.1)

-- the places so far, and those of the words that are left
pub record Reads (ws rest : List (List ℕ)) (ps : List Spot) : Type 0 where
  pub join : (qs : List Spot) → AreSpots rest qs → AreSpots ws (ps ++ qs)
  pub split : (qs : List Spot) → AreSpots ws qs → (rs : List Spot) × (qs ≡ ps ++ rs) × AreSpots rest rs

split_more : (rest : List (List ℕ)) (ps qs : List Spot) (a b : List ℕ) (p : Spot) → IsSpotOf a b p → (rs : List Spot)
    → qs ≡ ps ++ rs → AreSpots (a ∷ b ∷ rest) rs → (ts : List Spot) × (qs ≡ (ps ++ p ∷ []) ++ ts) × AreSpots rest ts
split_more rest ps qs a b p s [] e h = absurd h.0
split_more rest ps qs a b p s (r ∷ rs) e h =
    let same : r ≡ p = spot_once a b r p (h.0.0, h.0.1.0, h.1.0) s in
    (rs, e ∙ ap (λ (x : Spot). ps ++ x ∷ rs) same ∙ sym (append_assoc ps (p ∷ []) rs), (h.0.1.1, h.1.1))

pub reads_more : (ws rest : List (List ℕ)) (ps : List Spot) (a b : List ℕ) (p : Spot) → Reads ws (a ∷ b ∷ rest) ps
    → IsSpotOf a b p → Reads ws rest (ps ++ p ∷ [])
reads_more ws rest ps a b p r s = record {
  join = λ (qs : List Spot) (h : AreSpots rest qs).
      subst (AreSpots ws) (sym (append_assoc ps (p ∷ []) qs)) (r.join (p ∷ qs) ((s.0, (s.1, h.0)), (s.2, h.1)));
  split = λ (qs : List Spot) (h : AreSpots ws qs). let x = r.split qs h in split_more rest ps qs a b p s x.0 x.1 x.2;
}

-- words that say too few places
pub too_few : (ws rest : List (List ℕ)) (ps : List Spot) (k count : ℕ) → Reads ws rest ps → length ps ≡ k → k < count
    → ((r : Spot) (rs : List Spot) → AreSpots rest (r ∷ rs) → ⊥) → NoSpots count ws
too_few ws rest ps k count r e lt none qs n h = let x = r.split qs h in left_over x.0 x.1 x.2
  where
    left_over : (rs : List Spot) → qs ≡ ps ++ rs → AreSpots rest rs → ⊥
    left_over [] f g = omega (arith, ap (λ (l : List Spot). length l) f, length-append ps [], e, n, lt)
    left_over (s ∷ rs) f g = none s rs g

pub no_first : (ws rest : List (List ℕ)) (ps : List Spot) (k count : ℕ) → Reads ws rest ps → length ps ≡ k → k < count
    → rest ≡ [] → NoSpots count ws
no_first ws rest ps k count r e lt f =
    too_few ws [] ps k count (subst (λ (xs : List (List ℕ)). Reads ws xs ps) f r) e lt (λ s rs h. h.0)

pub no_second : (ws rest : List (List ℕ)) (ps : List Spot) (k count : ℕ) (a : List ℕ) (more : List (List ℕ))
    → Reads ws rest ps → length ps ≡ k → k < count → rest ≡ a ∷ more → more ≡ [] → NoSpots count ws
no_second ws rest ps k count a more r e lt f g =
    too_few ws (a ∷ []) ps k count
    (subst (λ (xs : List (List ℕ)). Reads ws xs ps) (f ∙ ap (λ (xs : List (List ℕ)). a ∷ xs) g) r) e lt
    (λ s rs h. h.0.1)

two_words : (rest more after : List (List ℕ)) (a b : List ℕ) → rest ≡ a ∷ more → more ≡ b ∷ after
    → rest ≡ a ∷ b ∷ after
two_words rest more after a b f g = f ∙ ap (λ (xs : List (List ℕ)). a ∷ xs) g

pub no_place : (ws rest : List (List ℕ)) (ps : List Spot) (k count : ℕ) (a b : List ℕ) (more after : List (List ℕ))
    → Reads ws rest ps → length ps ≡ k → k < count → rest ≡ a ∷ more → more ≡ b ∷ after → NoSpot a b
    → NoSpots count ws
no_place ws rest ps k count a b more after r e lt f g n =
    too_few ws (a ∷ b ∷ after) ps k count
    (subst (λ (xs : List (List ℕ)). Reads ws xs ps) (two_words rest more after a b f g) r) e lt
    (λ s rs h. n s (h.0.0, h.0.1.0, h.1.0))

pub one_place : (ws rest : List (List ℕ)) (ps new : List Spot) (a b : List ℕ) (more after : List (List ℕ)) (p : Spot)
    → Reads ws rest ps → rest ≡ a ∷ more → more ≡ b ∷ after → IsSpotOf a b p → new ≡ ps ++ p ∷ [] → Reads ws after new
one_place ws rest ps new a b more after p r f g s e =
    subst (λ (xs : List Spot). Reads ws after xs) (sym e)
    (reads_more ws after ps a b p
    (subst (λ (xs : List (List ℕ)). Reads ws xs ps) (two_words rest more after a b f g) r) s)

pub all_places : (ws rest : List (List ℕ)) (ps : List Spot) → Reads ws rest ps → rest ≡ [] → AreSpots ws ps
all_places ws rest ps r f =
    subst (AreSpots ws) (append-nil ps)
    ((subst (λ (xs : List (List ℕ)). Reads ws xs ps) f r).join [] (tt, tt))
