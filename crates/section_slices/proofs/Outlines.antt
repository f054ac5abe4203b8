-- The outlines of the pairs of dense gaps, pair by pair.
use Rattle.std.proofs.Common.{◌≡◌, ℕ, zero, suc, ◌+◌, ◌/◌, ◌<◌, ◌≤◌, Bool, true, false, cond, List, [], ◌∷◌, ◌++◌, length, map, filter, take, get_or, sym, ap, ◌∙◌, arith, subst, Vec, eq-eqb}
use Rattle.std.specs.Global.{Global}
use Rattle.std.specs.Prelude.{nat_le}
use Rattle.std.proofs.lemmas.Bool.{and_parts, ne_eqb}
use Rattle.std.proofs.lemmas.Bool.Decides.{nat_tests}
use Rattle.std.proofs.lemmas.List.{get_or-map, length-map, map-append}
use Rattle.std.proofs.lemmas.List.Elements.{filter-append}
use Rattle.std.proofs.Math.ListN.{length-append}
use Rattle.fku_types.specs.declared.points.Spot.{Spot}
use Rattle.section_core.specs.Parts.{Parts}
use Rattle.strip_graph.specs.Strips.{Strip}
use Rattle.strip_graph.specs.Slices.{slice_loop}
use Rattle.row_paths.specs.Solutions.{Solution, Solves}
use Rattle.pair_pool.specs.Solvers.{SolvesEach}
use Rattle.section_pairs.specs.declared.gap_pairs.GapPair.{GapPair}
use Rattle.section_pairs.specs.Pairs.{PairParts, pair_parts}
use Rattle.surface_core.specs.Surfaces.{strips_in}
use Rattle.section_pairs.proofs.Firsts.{front_more}
use Rattle.section_pairs.proofs.SectionRings.{each_more}
use Rattle.section_slices.specs.Roundings.{rounded_loop}
use Rattle.section_slices.specs.Densified.{rise, is_dense, are_single, dense_pairs, pair_at, no_pair, is_in, outline_at, IsMiddleOutline}
use Rattle.section_slices.specs.Marks.{outlines_of}

pub dense_rise : (S : Parts) (ps : List PairParts) (g : ℕ) → is_dense S ps g ≡ true → 2 ≤ rise S g
dense_rise S ps g e = let h = (and_parts (nat_le 2 (rise S g)) (are_single ps g) e).0 in grind (arith, nat_tests, h)

-- the pair at a place, as the code holds it
pub pair_is : (ps : List GapPair) (i : ℕ) (p : GapPair) → i < length ps → p ≡ get_or ps i p
    → pair_at (map pair_parts ps) i ≡ pair_parts p
pair_is ps i p l e = get_or-map pair_parts ps i p no_pair l ∙ ap pair_parts (sym e)

-- how many of the first i pass
abbrev pub rank : (PairParts → Bool) → List GapPair → ℕ → ℕ
rank test ps i = length (filter test (map pair_parts (take i ps)))

pub rank_more : (test : PairParts → Bool) (ps : List GapPair) (i : ℕ) (p : GapPair) → i < length ps → p ≡ get_or ps i p
    → rank test ps (i + 1) ≡ rank test ps i + length (cond (test (pair_parts p)) (pair_parts p ∷ []) [])
rank_more test ps i p l e =
    ap (λ (xs : List PairParts). length (filter test xs)) (front_more pair_parts ps i p l e)
    ∙ ap length (filter-append test (map pair_parts (take i ps)) (pair_parts p ∷ []))
    ∙ length-append (filter test (map pair_parts (take i ps))) (cond (test (pair_parts p)) (pair_parts p ∷ []) [])

-- the item at a rank
abbrev Ranks : PairParts → List PairParts → List PairParts → Type 0
Ranks p front all = (length front < length all) × ((d : PairParts) → get_or all (length front) d ≡ p)

pub ranked : (test : PairParts → Bool) (ps : List GapPair) (i : ℕ) (p : GapPair) → i < length ps → p ≡ get_or ps i p
    → test (pair_parts p) ≡ true
    → Ranks (pair_parts p) (filter test (map pair_parts (take i ps))) (filter test (map pair_parts ps))
ranked test [] i p l e t = absurd (omega (arith, l))
ranked test (x ∷ ps) zero p l e t =
    let rest : List PairParts = filter test (map pair_parts ps) in
    let passes : test (pair_parts x) ≡ true = ap (λ (q : GapPair). test (pair_parts q)) (sym e) ∙ t in
    subst (Ranks (pair_parts p) []) (sym (ap (λ (b : Bool). cond b (pair_parts x ∷ rest) rest) passes))
    (omega arith, λ d. ap pair_parts (sym e))
ranked test (x ∷ ps) (suc i) p l e t =
    let before = ranked test ps i p (omega (arith, l)) e t in
    let f : List PairParts = filter test (map pair_parts (take i ps)) in
    let r : List PairParts = filter test (map pair_parts ps) in
    elim (test (pair_parts x)) as (λ b.
    Ranks (pair_parts p) (cond b (pair_parts x ∷ f) f) (cond b (pair_parts x ∷ r) r)) [
      | true ↦ (omega (arith, before.0), before.1)
      | false ↦ before
    ]

-- the solution of a pair of a dense gap
abbrev pub dense_test : Parts → List GapPair → PairParts → Bool
dense_test S ps q = is_dense S (map pair_parts ps) q.gap

pub solution_there : (S : Parts) (ps : List GapPair) (xs : List Solution) (i : ℕ) (p : GapPair)
    → SolvesEach (strips_in (dense_pairs S (map pair_parts ps))) xs → i < length ps → p ≡ get_or ps i p
    → is_dense S (map pair_parts ps) p.gap ≡ true
    → rank (dense_test S ps) ps i < length xs
solution_there S ps xs i p h l e t =
    omega (
      arith,
      h.count,
      length-map (dense_pairs S (map pair_parts ps)) (λ (q : PairParts). q.strip),
      (ranked (dense_test S ps) ps i p l e t).0,
    )

pub solution_is : (S : Parts) (ps : List GapPair) (xs : List Solution) (i : ℕ) (p : GapPair) (x : Solution)
    → SolvesEach (strips_in (dense_pairs S (map pair_parts ps))) xs → i < length ps → p ≡ get_or ps i p
    → is_dense S (map pair_parts ps) p.gap ≡ true
    → (n : ℕ) → n ≡ rank (dense_test S ps) ps i → Solves p.pair (get_or xs n x)
solution_is S ps xs i p x h l e t n en =
    let all : List PairParts = dense_pairs S (map pair_parts ps) in
    let k : ℕ = rank (dense_test S ps) ps i in
    let here = ranked (dense_test S ps) ps i p l e t in
    let there : k < length (strips_in all) = omega (arith, here.0, length-map all (λ (q : PairParts). q.strip)) in
    let strip : get_or (strips_in all) k p.pair ≡ p.pair =
    get_or-map (λ (q : PairParts). q.strip) all k no_pair p.pair here.0
    ∙ ap (λ (q : PairParts). q.strip) (here.1 no_pair) in
    subst (λ (m : ℕ). Solves p.pair (get_or xs m x)) (sym en)
    (subst (λ (q : Strip). Solves q (get_or xs k x)) strip (h.each k p.pair x there))

-- an outline of a solved pair is its middle outline
pub outline_is : (S : Parts) (p : GapPair) (x : Solution) (rise_read : ℕ) (spots : List Spot) → Solves p.pair x
    → rise_read ≡ rise S p.gap → spots
    ≡ rounded_loop rise_read (slice_loop p.pair rise_read (rise_read / 2) x.row 0 x.word)
    → IsMiddleOutline S (pair_parts p) spots
outline_is S p x r spots h e f = record {
  solution = x;
  solves = h;
  spots = f
      ∙ ap (λ (n : ℕ). rounded_loop n (slice_loop p.pair n (n / 2) x.row 0 x.word)) e;
}

-- each outline up to now is that of its pair
abbrev pub AreSoFar : Parts → List GapPair → List (List Spot) → Type 0
AreSoFar S ps outlines = (k : ℕ) (d : List Spot) → k < length outlines
    → is_dense S (map pair_parts ps) (pair_at (map pair_parts ps) k).gap ≡ true
    → IsMiddleOutline S (pair_at (map pair_parts ps) k) (get_or outlines k d)

pub so_far_more : (S : Parts) (ps : List GapPair) (old new : List (Vec Spot Global)) (v : Vec Spot Global) (i : ℕ)
    (p : GapPair) → length old ≡ i → i < length ps → p ≡ get_or ps i p → new ≡ old ++ v ∷ []
    → (is_dense S (map pair_parts ps) p.gap ≡ true → IsMiddleOutline S (pair_parts p) v.items)
    → AreSoFar S ps (outlines_of old) → AreSoFar S ps (outlines_of new)
so_far_more S ps old new v i p n l e more here before =
    let Here : ℕ → List Spot → Type 0 =
    λ k spots. is_dense S (map pair_parts ps) (pair_at (map pair_parts ps) k).gap ≡ true
    → IsMiddleOutline S (pair_at (map pair_parts ps) k) spots in
    let there : pair_at (map pair_parts ps) (length (outlines_of old)) ≡ pair_parts p =
    ap (pair_at (map pair_parts ps)) (length-map old (λ (u : Vec Spot Global). u.items) ∙ n) ∙ pair_is ps i p l e in
    let last : Here (length (outlines_of old)) v.items =
    subst (λ (q : PairParts). is_dense S (map pair_parts ps) q.gap ≡ true → IsMiddleOutline S q v.items) (sym there)
    here in
    let all : (k : ℕ) (d : List Spot) → k < length (outlines_of old ++ v.items ∷ [])
    → Here k (get_or (outlines_of old ++ v.items ∷ []) k d) =
    each_more Here (outlines_of old) v.items before last in
    subst (AreSoFar S ps) (sym (ap outlines_of more ∙ map-append (λ (u : Vec Spot Global). u.items) old (v ∷ []))) all

-- whether the pair at a place is one of a gap
pub in_gap : (ps : List GapPair) (i g : ℕ) (p : GapPair) → i < length ps → p ≡ get_or ps i p → p.gap ≡ g
    → is_in g (pair_at (map pair_parts ps) i) ≡ true
in_gap ps i g p l e h = ap (is_in g) (pair_is ps i p l e) ∙ eq-eqb p.gap g h

pub not_in_gap : (ps : List GapPair) (i g : ℕ) (p : GapPair) → i < length ps → p ≡ get_or ps i p → (p.gap ≡ g → ⊥)
    → is_in g (pair_at (map pair_parts ps) i) ≡ false
not_in_gap ps i g p l e h = ap (is_in g) (pair_is ps i p l e) ∙ ne_eqb p.gap g h

pub outline_read : (outlines : List (Vec Spot Global)) (i : ℕ) (v : Vec Spot Global) → i < length outlines
    → v ≡ get_or outlines i v → outline_at (outlines_of outlines) i ≡ v.items
outline_read outlines i v l e = get_or-map (λ (u : Vec Spot Global). u.items) outlines i v [] l
    ∙ ap (λ (u : Vec Spot Global). u.items) (sym e)
