-- Some pairs in a row: what all pairs join at a section, and the strips of a gap, where no other pair gives any.
use Rattle.std.proofs.Common.{◌≡◌, ℕ, zero, suc, ◌+◌, ◌-◌, ◌<◌, ◌≤◌, Bool, if◌then◌else◌, List, [], ◌∷◌, ◌++◌, length, map, flat_map, take, drop, get_or, refl, sym, ap, ◌∙◌, subst, subst₂, arith}
use Rattle.std.proofs.lemmas.Bool.{ne_eqb}
use Rattle.std.proofs.lemmas.List.{length-take, length-drop, get_or-drop, get_or-take, take-map, drop-map}
use Rattle.std.proofs.lemmas.List.Folds.{flat_map-map}
use Rattle.strip_graph.specs.Strips.{Strip}
use Rattle.row_paths.specs.Solutions.{Solution, Solves}
use Rattle.pair_pool.specs.Solvers.{SolvesEach}
use Rattle.triangle_meshes.specs.Tiles.{tiles}
use Rattle.ring_polygons.specs.declared.faces.Face.{Face}
use Rattle.ring_polygons.specs.declared.faces.Face.TheVariants.{Below, Above}
use Rattle.section_pairs.specs.declared.gap_pairs.GapPair.{GapPair}
use Rattle.section_pairs.specs.Pairs.{PairParts, pair_parts}
use Rattle.surface_core.specs.Surfaces.{joins, joined_on, strip_triangles, strips_in}
use Rattle.surface_core.proofs.StripSteps.{tiles_in}

-- ---- what comes of no other element
none : {X Y : Type 0} (f : X → List Y) (xs : List X) → ((k : ℕ) (d : X) → k < length xs → f (get_or xs k d) ≡ [])
    → flat_map f xs ≡ []
none f [] h = refl
none {Y = Y} f (x ∷ xs) h = ap (λ (ys : List Y). ys ++ flat_map f xs) (h 0 x (omega arith))
    ∙ none f xs (λ k d l. h (suc k) d (omega (arith, l)))

up_to : {X Y : Type 0} (f : X → List Y) (n : ℕ) (xs : List X)
    → ((k : ℕ) (d : X) → n ≤ k → k < length xs → f (get_or xs k d) ≡ []) → flat_map f (take n xs) ≡ flat_map f xs
up_to f zero xs h = sym (none f xs (λ k d l. h k d (omega arith) l))
up_to f (suc n) [] h = refl
up_to {Y = Y} f (suc n) (x ∷ xs) h =
    ap (λ (ys : List Y). f x ++ ys) (up_to f n xs (λ k d m l. h (suc k) d (omega (arith, m)) (omega (arith, l))))

past : {X Y : Type 0} (f : X → List Y) (n : ℕ) (xs : List X)
    → ((k : ℕ) (d : X) → k < n → k < length xs → f (get_or xs k d) ≡ []) → flat_map f (drop n xs) ≡ flat_map f xs
past f zero xs h = refl
past f (suc n) [] h = refl
past {Y = Y} f (suc n) (x ∷ xs) h =
    past f n xs (λ k d m l. h (suc k) d (omega (arith, m)) (omega (arith, l)))
    ∙ ap (λ (ys : List Y). ys ++ flat_map f xs) (sym (h 0 x (omega arith) (omega arith)))

-- the elements from one place up to another
abbrev between : {X : Type 0} → ℕ → ℕ → List X → List X
between begin end xs = take (end - begin) (drop begin xs)

all_between : {X Y : Type 0} (f : X → List Y) (begin end : ℕ) (xs : List X) → begin ≤ end
    → ((k : ℕ) (d : X) → k < begin → k < length xs → f (get_or xs k d) ≡ [])
    → ((k : ℕ) (d : X) → end ≤ k → k < length xs → f (get_or xs k d) ≡ [])
    → flat_map f (between begin end xs) ≡ flat_map f xs
all_between f begin end xs le before after =
    up_to f (end - begin) (drop begin xs)
    (λ k d m l. ap f (get_or-drop begin xs k d)
    ∙ after (begin + k) d (omega (arith, m, le)) (omega (arith, l, length-drop begin xs)))
    ∙ past f begin xs before

-- ---- what pairs join at a section
joins_none : (face : Face) (s : ℕ) (p : PairParts) → (p.gap ≡ s → ⊥) → (p.gap + 1 ≡ s → ⊥) → joins face s p ≡ []
joins_none Below s p at below = ap (λ (b : Bool). if b then p.above else []) (ne_eqb (p.gap + 1) s below)
joins_none Above s p at below = ap (λ (b : Bool). if b then p.below else []) (ne_eqb p.gap s at)

pub near_joined : (face : Face) (s low high begin end : ℕ) (ps : List GapPair) → low ≡ s - 1 → high ≡ s + 1
    → begin ≤ end → ((k : ℕ) (d : GapPair) → k < begin → (get_or ps k d).gap < low)
    → ((k : ℕ) (d : GapPair) → end ≤ k → k < length ps → high ≤ (get_or ps k d).gap)
    → joined_on face (map pair_parts (take (end - begin) (drop begin ps))) s ≡ joined_on face (map pair_parts ps) s
near_joined face s low high begin end ps el eh le before after =
    let f : GapPair → List ℕ = λ p. joins face s (pair_parts p) in
    let here = between begin end ps in
    flat_map-map (joins face s) pair_parts here
    ∙ all_between f begin end ps le (λ k d m l.
    joins_none face s (pair_parts (get_or ps k d)) (λ e. absurd (omega (arith, e, el, before k d m)))
    (λ e. absurd (omega (arith, e, el, before k d m))))
    (λ k d m l. joins_none face s (pair_parts (get_or ps k d)) (λ e. absurd (omega (arith, e, eh, after k d m l)))
    (λ e. absurd (omega (arith, e, eh, after k d m l))))
    ∙ sym (flat_map-map (joins face s) pair_parts ps)

-- ---- the strips of a gap
no_tiles : (s : ℕ) (p : GapPair) (x : Solution) → (p.gap ≡ s → ⊥) → tiles_in s (pair_parts p) x ≡ []
no_tiles s p x other = ap (λ (b : Bool). if b then tiles p.pair.low_ids p.pair.high_ids x.row 0 x.word else [])
    (ne_eqb p.gap s other)

strips_none : (s : ℕ) (ps : List GapPair) (xs : List Solution)
    → ((k : ℕ) (d : GapPair) → k < length ps → (get_or ps k d).gap ≡ s → ⊥)
    → strip_triangles s (map pair_parts ps) xs ≡ []
strips_none s [] xs h = refl
strips_none s (p ∷ ps) [] h = refl
strips_none s (p ∷ ps) (x ∷ xs) h =
    ap (λ (ts : List (List ℕ)). ts ++ strip_triangles s (map pair_parts ps) xs) (no_tiles s p x (h 0 p (omega arith)))
    ∙ strips_none s ps xs (λ k d m. h (suc k) d (omega (arith, m)))

strips_up_to : (s n : ℕ) (ps : List GapPair) (xs : List Solution)
    → ((k : ℕ) (d : GapPair) → n ≤ k → k < length ps → (get_or ps k d).gap ≡ s → ⊥)
    → strip_triangles s (map pair_parts (take n ps)) (take n xs) ≡ strip_triangles s (map pair_parts ps) xs
strips_up_to s zero ps xs h = sym (strips_none s ps xs (λ k d. h k d (omega arith)))
strips_up_to s (suc n) [] xs h = refl
strips_up_to s (suc n) (p ∷ ps) [] h = refl
strips_up_to s (suc n) (p ∷ ps) (x ∷ xs) h =
    ap (λ (ts : List (List ℕ)). tiles_in s (pair_parts p) x ++ ts)
    (strips_up_to s n ps xs (λ k d m l. h (suc k) d (omega (arith, m)) (omega (arith, l))))

strips_past : (s n : ℕ) (ps : List GapPair) (xs : List Solution) → length xs ≡ length ps
    → ((k : ℕ) (d : GapPair) → k < n → k < length ps → (get_or ps k d).gap ≡ s → ⊥)
    → strip_triangles s (map pair_parts (drop n ps)) (drop n xs) ≡ strip_triangles s (map pair_parts ps) xs
strips_past s zero ps xs e h = refl
strips_past s (suc n) [] xs e h = refl
strips_past s (suc n) (p ∷ ps) [] e h = absurd (omega (arith, e))
strips_past s (suc n) (p ∷ ps) (x ∷ xs) e h =
    strips_past s n ps xs (omega (arith, e)) (λ k d m l. h (suc k) d (omega (arith, m)) (omega (arith, l)))
    ∙ ap (λ (ts : List (List ℕ)). ts ++ strip_triangles s (map pair_parts ps) xs)
    (sym (no_tiles s p x (h 0 p (omega arith) (omega arith))))

pub near_strips : (s begin end : ℕ) (ps : List GapPair) (xs : List Solution) → length xs ≡ length ps → begin ≤ end
    → ((k : ℕ) (d : GapPair) → k < begin → (get_or ps k d).gap < s)
    → ((k : ℕ) (d : GapPair) → end ≤ k → k < length ps → s + 1 ≤ (get_or ps k d).gap)
    → strip_triangles s (map pair_parts (take (end - begin) (drop begin ps))) (take (end - begin) (drop begin xs))
    ≡ strip_triangles s (map pair_parts ps) xs
near_strips s begin end ps xs same le before after =
    let other : (k : ℕ) (d : GapPair) → end - begin ≤ k → k < length (drop begin ps)
    → (get_or (drop begin ps) k d).gap ≡ s → ⊥ = λ k d m l e.
    let a = after (begin + k) d (omega (arith, m, le)) (omega (arith, l, length-drop begin ps)) in
    absurd (omega (arith, a, sym (ap (λ (p : GapPair). p.gap) (get_or-drop begin ps k d)) ∙ e)) in
    strips_up_to s (end - begin) (drop begin ps) (drop begin xs) other
    ∙ strips_past s begin ps xs same (λ k d m l e. absurd (omega (arith, e, before k d m)))

-- a solution for each of them
pub near_solved : (begin end : ℕ) (ps : List GapPair) (xs : List Solution)
    → SolvesEach (strips_in (map pair_parts ps)) xs
    → SolvesEach (strips_in (map pair_parts (take (end - begin) (drop begin ps)))) (take (end - begin) (drop begin xs))
near_solved begin end ps xs h =
    let n = end - begin in
    let strip : PairParts → Strip = λ q. q.strip in
    let ss = strips_in (map pair_parts ps) in
    let same : take n (drop begin ss) ≡ strips_in (map pair_parts (between begin end ps)) =
    ap (take n) (drop-map strip begin (map pair_parts ps)) ∙ take-map strip n (drop begin (map pair_parts ps))
    ∙ ap strips_in (ap (take n) (drop-map pair_parts begin ps) ∙ take-map pair_parts n (drop begin ps)) in
    subst (λ (ts : List Strip). SolvesEach ts (take n (drop begin xs))) same
    (record {
      count = omega (
        arith,
        h.count,
        length-take n (drop begin xs),
        length-drop begin xs,
        length-take n (drop begin ss),
        length-drop begin ss,
      );
      each = λ k p x l.
          let m : k < n = omega (arith, l, length-take n (drop begin ss)) in
          let there : begin + k < length ss = omega (arith, l, length-take n (drop begin ss), length-drop begin ss) in
          subst₂ Solves (sym (get_or-take n (drop begin ss) k p m ∙ get_or-drop begin ss k p))
          (sym (get_or-take n (drop begin xs) k x m ∙ get_or-drop begin xs k x)) (h.each (begin + k) p x there);
    })
