-- Which contours of a section are in pairs.
use Rattle.std.proofs.Common.{◌≡◌, ℕ, zero, suc, ◌+◌, ◌<◌, ◌≤◌, ◌==◌, Bool, true, false, cond, inl, inr, List, [], ◌∷◌, ◌++◌, length, map, get_or, flat_map, refl, sym, ap, ap₂, ◌∙◌, arith, subst, eq-eqb, add-one}
use Rattle.std.specs.List.{AllByRecursion}
use Rattle.std.proofs.lemmas.Bool.{ne_eqb, cond-true, cond-false, cases_lt}
use Rattle.std.proofs.lemmas.List.{append-nil, get_or_past}
use Rattle.std.proofs.lemmas.Grind.{flat_map-append}
use Rattle.fku_types.proofs.ListLaws.{all_join}
use Rattle.section_core.specs.Parts.{Parts}
use Rattle.correspondence.specs.Places.{ArePlaces}
use Rattle.correspondence.specs.Outlines.{layer_at}
use Rattle.correspondence.specs.Correspondences.{Correspond}
use Rattle.correspondence.specs.Components.{Members, IsComponent, AreComponents}
use Rattle.correspondence.proofs.ComponentLaws.{below_places, above_places}
use Rattle.ring_polygons.specs.Composites.{composite}
use Rattle.ring_polygons.specs.declared.faces.Face.{Face}
use Rattle.ring_polygons.specs.declared.faces.Face.TheVariants.{Below, Above}
use Rattle.section_pairs.specs.Rings.{rings_at, pick}
use Rattle.section_pairs.specs.Pairs.{PairParts, pair_of, pairs_from}
use Rattle.section_pairs.specs.SectionFaults.{ArePairs}
use Rattle.surface_core.specs.Surfaces.{joins, joined_on}

-- how many contours a section has
abbrev pub count : Parts → ℕ → ℕ
count S s = length (layer_at S s).outlines

-- a function of pairs, of which those in gaps that pass a test give the places of one side
abbrev Gives : Parts → (PairParts → List ℕ) → (Members → List ℕ) → (ℕ → Bool) → Type 0
Gives S give side test = (g : ℕ) (c : Members) → give (pair_of S g c) ≡ cond (test g) (side c) []

here : (S : Parts) (give : PairParts → List ℕ) (side : Members → List ℕ) (test : ℕ → Bool) → Gives S give side test
    → (g : ℕ) → test g ≡ true → (cs : List Members) → flat_map give (map (pair_of S g) cs) ≡ flat_map side cs
here S give side test f g t [] = refl
here S give side test f g t (c ∷ cs) =
    ap₂ (λ (x y : List ℕ). x ++ y) (f g c ∙ cond-true {A = List ℕ} (test g) (side c) [] t)
    (here S give side test f g t cs)

elsewhere : (S : Parts) (give : PairParts → List ℕ) (side : Members → List ℕ) (test : ℕ → Bool) → Gives S give side test
    → (g : ℕ) → test g ≡ false → (cs : List Members) → flat_map give (map (pair_of S g) cs) ≡ []
elsewhere S give side test f g t [] = refl
elsewhere S give side test f g t (c ∷ cs) =
    ap₂ (λ (x y : List ℕ). x ++ y) (f g c ∙ cond-false {A = List ℕ} (test g) (side c) [] t)
    (elsewhere S give side test f g t cs)

none : (S : Parts) (give : PairParts → List ℕ) (side : Members → List ℕ) (test : ℕ → Bool) → Gives S give side test
    → (g : ℕ) (gaps : List (List Members)) → ((h : ℕ) → g ≤ h → test h ≡ false)
    → flat_map give (pairs_from S g gaps) ≡ []
none S give side test f g [] n = refl
none S give side test f g (cs ∷ gaps) n =
    flat_map-append give (map (pair_of S g) cs) (pairs_from S (g + 1) gaps)
    ∙ ap₂ (λ (x y : List ℕ). x ++ y) (elsewhere S give side test f g (n g (omega arith)) cs)
    (none S give side test f (g + 1) gaps (λ h a. n h (omega arith)))

only : (S : Parts) (give : PairParts → List ℕ) (side : Members → List ℕ) (test : ℕ → Bool) → Gives S give side test
    → (g i : ℕ) (gaps : List (List Members)) → ((h : ℕ) → h ≡ g + i → test h ≡ true)
    → ((h : ℕ) → (h ≡ g + i → ⊥) → test h ≡ false)
    → flat_map give (pairs_from S g gaps) ≡ flat_map side (get_or gaps i [])
only S give side test f g i [] y n = refl
only S give side test f g zero (cs ∷ gaps) y n =
    flat_map-append give (map (pair_of S g) cs) (pairs_from S (g + 1) gaps)
    ∙ ap₂ (λ (x y : List ℕ). x ++ y) (here S give side test f g (y g (omega arith)) cs)
    (none S give side test f (g + 1) gaps (λ h a. n h (λ e. absurd (omega arith))))
    ∙ append-nil (flat_map side cs)
only S give side test f g (suc i) (cs ∷ gaps) y n =
    flat_map-append give (map (pair_of S g) cs) (pairs_from S (g + 1) gaps)
    ∙ ap₂ (λ (x y : List ℕ). x ++ y) (elsewhere S give side test f g (n g (λ e. absurd (omega arith))) cs)
    (only S give side test f (g + 1) i gaps (λ h e. y h (omega arith)) (λ h ne. n h (λ e. ne (omega arith))))

above_at : (S : Parts) (s : ℕ) (gaps : List (List Members))
    → joined_on Above (pairs_from S 0 gaps) s ≡ flat_map (λ (c : Members). c.below) (get_or gaps s [])
above_at S s gaps =
    only S (joins Above s) (λ (c : Members). c.below) (λ g. g == s) (λ g c. refl) 0 s gaps
    (λ h e. eq-eqb h s (omega (arith, e))) (λ h ne. ne_eqb h s (λ e. ne (omega (arith, e))))

below_at : (S : Parts) (s : ℕ) (gaps : List (List Members))
    → joined_on Below (pairs_from S 0 gaps) (s + 1) ≡ flat_map (λ (c : Members). c.above) (get_or gaps s [])
below_at S s gaps =
    only S (joins Below (s + 1)) (λ (c : Members). c.above) (λ g. (g + 1) == (s + 1)) (λ g c. refl) 0 s gaps
    (λ h e. eq-eqb (h + 1) (s + 1) (omega (arith, e))) (λ h ne. ne_eqb (h + 1) (s + 1) (λ e. ne (omega (arith, e))))

-- no gap lies below the first section, and none above the last
pub first_below : (S : Parts) (ps : List PairParts) → ArePairs S ps → joined_on Below ps 0 ≡ []
first_below S ps h =
    ap (λ (xs : List PairParts). joined_on Below xs 0) h.pairs
    ∙ none S (joins Below 0) (λ (c : Members). c.above) (λ g. (g + 1) == 0) (λ g c. refl) 0 h.gaps
    (λ g a. ne_eqb (g + 1) 0 (λ e. absurd (omega (arith, e))))

pub last_below : (S : Parts) (ps : List PairParts) → ArePairs S ps → joined_on Below ps (length S.sections) ≡ []
last_below S ps h =
    ap (joined_on Below ps) (sym h.are_gaps.count)
    ∙ ap (λ (xs : List PairParts). joined_on Below xs (length h.gaps + 1)) h.pairs
    ∙ below_at S (length h.gaps) h.gaps
    ∙ ap (flat_map (λ (c : Members). c.above)) (get_or_past h.gaps (length h.gaps) [] (omega arith))

-- each contour is in at most one pair of a gap
places_above : (S : Parts) (ps : List PairParts) → ArePairs S ps → (s : ℕ)
    → ArePlaces (count S s) (joined_on Above ps s)
places_above S ps h s =
    let e : joined_on Above ps s ≡ flat_map (λ (c : Members). c.below) (get_or h.gaps s []) =
    ap (λ (xs : List PairParts). joined_on Above xs s) h.pairs ∙ above_at S s h.gaps in
    elim (cases_lt s (length h.gaps)) [
      | inl l ↦ (let cs = h.are_gaps.components s l in
          subst (ArePlaces (count S s)) (sym e)
          (below_places (Correspond S s) (count S s) (count S (s + 1)) (get_or h.gaps s []) cs.components cs.in_order))
      | inr ge ↦ subst (ArePlaces (count S s))
          (sym (e ∙ ap (flat_map (λ (c : Members). c.below)) (get_or_past h.gaps s [] ge))) (tt, tt)
    ]

next_below : (S : Parts) (ps : List PairParts) → ArePairs S ps → (s : ℕ)
    → ArePlaces (count S (s + 1)) (joined_on Below ps (s + 1))
next_below S ps h s =
    let e : joined_on Below ps (s + 1) ≡ flat_map (λ (c : Members). c.above) (get_or h.gaps s []) =
    ap (λ (xs : List PairParts). joined_on Below xs (s + 1)) h.pairs ∙ below_at S s h.gaps in
    elim (cases_lt s (length h.gaps)) [
      | inl l ↦ (let cs = h.are_gaps.components s l in
          subst (ArePlaces (count S (s + 1))) (sym e)
          (above_places (Correspond S s) (count S s) (count S (s + 1)) (get_or h.gaps s []) cs.components cs.in_order))
      | inr ge ↦ subst (ArePlaces (count S (s + 1)))
          (sym (e ∙ ap (flat_map (λ (c : Members). c.above)) (get_or_past h.gaps s [] ge))) (tt, tt)
    ]

places_below : (S : Parts) (ps : List PairParts) → ArePairs S ps → (s : ℕ)
    → ArePlaces (count S s) (joined_on Below ps s)
places_below S ps h zero = subst (ArePlaces (count S 0)) (sym (first_below S ps h)) (tt, tt)
places_below S ps h (suc s) = subst (λ (k : ℕ). ArePlaces (count S k) (joined_on Below ps k)) (add-one s)
    (next_below S ps h s)

pub places_on : (S : Parts) (ps : List PairParts) → ArePairs S ps → (face : Face) (s : ℕ)
    → ArePlaces (count S s) (joined_on face ps s)
places_on S ps h Below = places_below S ps h
places_on S ps h Above = places_above S ps h

-- a pair joins the composites of some contours below and above its gap
pub record IsJoint (S : Parts) (p : PairParts) : Type 0 where
  pub low : p.strip.low ≡ (composite (pick (rings_at S p.gap) p.below)).points
  pub low_ids : p.strip.low_ids ≡ (composite (pick (rings_at S p.gap) p.below)).ids
  pub high : p.strip.high ≡ (composite (pick (rings_at S (p.gap + 1)) p.above)).points
  pub high_ids : p.strip.high_ids ≡ (composite (pick (rings_at S (p.gap + 1)) p.above)).ids
  pub below : AllByRecursion (λ k. k < count S p.gap) p.below
  pub above : AllByRecursion (λ k. k < count S (p.gap + 1)) p.above
  pub some_below : 0 < length p.below
  pub some_above : 0 < length p.above

gap_joints : (S : Parts) (g : ℕ) (cs : List Members)
    → AllByRecursion (IsComponent (Correspond S g) (count S g) (count S (g + 1))) cs
    → AllByRecursion (IsJoint S) (map (pair_of S g) cs)
gap_joints S g [] h = tt
gap_joints S g (c ∷ cs) h = (
  record {
    low = refl;
    low_ids = refl;
    high = refl;
    high_ids = refl;
    below = h.0.below_there;
    above = h.0.above_there;
    some_below = h.0.some_below;
    some_above = h.0.some_above;
  },
  gap_joints S g cs h.1,
)

joints_from : (S : Parts) (g : ℕ) (gaps : List (List Members))
    → ((h i : ℕ) → h ≡ g + i → i < length gaps
    → AreComponents (Correspond S h) (count S h) (count S (h + 1)) (get_or gaps i []))
    → AllByRecursion (IsJoint S) (pairs_from S g gaps)
joints_from S g [] f = tt
joints_from S g (cs ∷ gaps) f =
    all_join (IsJoint S) (map (pair_of S g) cs) (pairs_from S (g + 1) gaps)
    (gap_joints S g cs (f g 0 (omega arith) (omega arith)).components)
    (joints_from S (g + 1) gaps (λ h i e l. f h (suc i) (omega arith) (omega arith)))

pub joints : (S : Parts) (ps : List PairParts) → ArePairs S ps → AllByRecursion (IsJoint S) ps
joints S ps h =
    subst (AllByRecursion (IsJoint S)) (sym h.pairs)
    (joints_from S 0 h.gaps (λ g i e l.
    subst (λ (k : ℕ). AreComponents (Correspond S k) (count S k) (count S (k + 1)) (get_or h.gaps i []))
    (let z : i ≡ g = omega (arith, e) in z) (h.are_gaps.components i l)))
