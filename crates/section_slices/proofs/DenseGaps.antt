-- Which gaps are dense, by the tests of the code.
use Rattle.std.proofs.Common.{◌≡◌, ℕ, ◌+◌, ◌<◌, ◌≤◌, Bool, false, cond, List, [], ◌∷◌, ◌++◌, length, map, filter, take, get_or, sym, ap, ◌∙◌, arith, subst, All}
use Rattle.std.specs.Prelude.{nat_le}
use Rattle.std.specs.List.{list_any}
use Rattle.std.proofs.lemmas.Bool.{and_left, and_right, ne_eqb}
use Rattle.std.proofs.lemmas.List.Elements.{All-weaker}
use Rattle.std.proofs.lemmas.List.Folds.{list_any_none}
use Rattle.std.proofs.lemmas.List.FromFn.{get_or-map-range_with_len, length-map-range_with_len}
use Rattle.fku_types.proofs.ListLaws.{any_map}
use Rattle.section_core.specs.Parts.{Parts}
use Rattle.strip_graph.specs.Strips.{Strip}
use Rattle.section_pairs.specs.declared.gap_pairs.GapPair.{GapPair}
use Rattle.section_pairs.specs.Pairs.{PairParts, pair_parts}
use Rattle.surface_core.specs.Surfaces.{strips_in}
use Rattle.surface_core.proofs.PassedStrips.{passed_more}
use Rattle.section_slices.specs.Densified.{rise, is_in, is_dense}
use Rattle.section_slices.specs.Marks.{dense_gaps}

no_pair : (n g : ℕ) (ps : List GapPair) → All (λ p. p.gap + 1 < n) ps → n ≤ g + 1
    → list_any (is_in g) (map pair_parts ps) ≡ false
no_pair n g ps h l =
    any_map pair_parts (is_in g) ps
    ∙ list_any_none (λ p. is_in g (pair_parts p)) ps
    (All-weaker (λ p. p.gap + 1 < n) (λ p. is_in g (pair_parts p) ≡ false)
    (λ p k. ne_eqb p.gap g (λ e. absurd (omega (arith, k, l, e)))) ps h)

-- no gap above the last section is dense
pub not_above : (S : Parts) (g : ℕ) (ps : List GapPair) → All (λ p. p.gap + 1 < length S.sections) ps
    → length S.sections ≤ g + 1 → is_dense S (map pair_parts ps) g ≡ false
not_above S g ps h l = and_right (nat_le 2 (rise S g)) _
    (and_left (list_any (is_in g) (map pair_parts ps)) _ (no_pair (length S.sections) g ps h l))

-- the mark of a gap
pub marked : (S : Parts) (ps : List PairParts) (dense : List Bool) (g : ℕ) (d : Bool) → dense ≡ dense_gaps S ps
    → g < length S.sections → get_or dense g d ≡ is_dense S ps g
marked S ps dense g d e l = ap (λ (bs : List Bool). get_or bs g d) e
    ∙ get_or-map-range_with_len (is_dense S ps) 0 (length S.sections) g g d l (omega arith)

-- the strips of the dense pairs among the first i
abbrev pub strips_so_far : Parts → List GapPair → ℕ → List Strip
strips_so_far S ps i = strips_in (filter (λ (p : PairParts). is_dense S (map pair_parts ps) p.gap)
    (map pair_parts (take i ps)))

pub strips_more : (S : Parts) (ps : List GapPair) (i : ℕ) (p : GapPair) → i < length ps → p ≡ get_or ps i p
    → strips_so_far S ps (i + 1) ≡ strips_so_far S ps i ++ cond (is_dense S (map pair_parts ps) p.gap) (p.pair ∷ []) []
strips_more S ps i p l e = passed_more (λ (q : PairParts). is_dense S (map pair_parts ps) q.gap) ps i p l e

-- the gap of one of the pairs
pub gap_there : (n : ℕ) (ps : List GapPair) (i : ℕ) (p : GapPair) → All (λ q. q.gap + 1 < n) ps → i < length ps
    → p ≡ get_or ps i p → p.gap + 1 < n
gap_there n ps i p h l e = subst (λ (q : GapPair). q.gap + 1 < n) (sym e) (h i p l)

pub count_marks : (S : Parts) (ps : List PairParts) (dense : List Bool) → dense ≡ dense_gaps S ps
    → length dense ≡ length S.sections
count_marks S ps dense e = ap length e ∙ length-map-range_with_len (is_dense S ps) 0 (length S.sections)
