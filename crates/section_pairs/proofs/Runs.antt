-- The pairs of one gap among those of all gaps.
use Rattle.std.proofs.Common.{◌≡◌, ℕ, zero, suc, ◌+◌, ◌-◌, ◌<◌, ◌≤◌, List, [], ◌∷◌, ◌++◌, length, map, flat_map, take, drop, get_or, inl, inr, All, refl, sym, ap, ◌∙◌, subst, arith}
use Rattle.std.proofs.lemmas.Bool.{cases_lt}
use Rattle.std.proofs.lemmas.List.{length-map, length-append, length-drop, get_or-map, get_or_append_left, get_or-append_right, drop_more, drop-map, take-map, get_or-drop}
use Rattle.std.proofs.Math.Seq.{take-append_seam, drop-append_seam}
use Rattle.fku_types.specs.declared.rules.CostRule.TheVariants.{Span}
use Rattle.section_core.specs.Parts.{Parts}
use Rattle.correspondence.specs.Components.{Members}
use Rattle.section_pairs.specs.declared.gap_pairs.GapPair.{GapPair}
use Rattle.section_pairs.specs.Pairs.{PairParts, pair_parts, pair_of, pairs_from, sides_of, sides_from, IsShort}
use Rattle.section_pairs.specs.SectionFaults.{ArePairs}
use Rattle.section_pairs.specs.Unchanged.{AreGapPairs, BeginAt}
use Rattle.section_pairs.proofs.SectionData.{item_at, all_left, all_right}

abbrev no_members : Members
no_members = record { below = []; above = [] }

-- ---- a pair from gap g on lies in gap g or above
abbrev pub IsFrom : ℕ → List PairParts → Type 0
IsFrom g ps = (k : ℕ) (d : PairParts) → k < length ps → g ≤ (get_or ps k d).gap

pub pairs_in_gap : (S : Parts) (g : ℕ) (cs : List Members) (k : ℕ) (d : PairParts) → k < length (map (pair_of S g) cs)
    → (get_or (map (pair_of S g) cs) k d).gap ≡ g
pairs_in_gap S g cs k d l = ap (λ (p : PairParts). p.gap)
    (get_or-map (pair_of S g) cs k no_members d (omega (arith, l, length-map cs (pair_of S g))))

from_later : (g h : ℕ) (ps : List PairParts) → g ≤ h → IsFrom h ps → IsFrom g ps
from_later g h ps le f k d l = omega (arith, le, f k d l)

from_both : (g : ℕ) (ps qs : List PairParts) → IsFrom g ps → IsFrom g qs → IsFrom g (ps ++ qs)
from_both g ps qs f h k d l = elim (cases_lt k (length ps)) [
  | inl m ↦ subst (λ (p : PairParts). g ≤ p.gap) (sym (get_or_append_left ps qs d k m)) (f k d m)
  | inr m ↦ subst (λ (p : PairParts). g ≤ p.gap) (sym (get_or-append_right ps qs (length ps) k d refl m))
      (h (k - length ps) d (omega (arith, l, m, length-append ps qs)))
]

pub pairs_rise : (S : Parts) (g : ℕ) (gs : List (List Members)) → IsFrom g (pairs_from S g gs)
pairs_rise S g [] k d l = absurd (omega (arith, l))
pairs_rise S g (cs ∷ gs) k d l =
    from_both g (map (pair_of S g) cs) (pairs_from S (g + 1) gs) (λ n e m. omega (arith, pairs_in_gap S g cs n e m))
    (from_later g (g + 1) (pairs_from S (g + 1) gs) (omega arith) (pairs_rise S (g + 1) gs)) k d l

-- ---- where the pairs of a gap end
run_length : (S : Parts) (g n : ℕ) (cs : List Members) (gs : List (List Members)) (qs : List PairParts) (d : PairParts)
    → qs ≡ pairs_from S g (cs ∷ gs) → n ≤ length qs
    → ((k : ℕ) → k < n → (get_or qs k d).gap ≡ g) → (n < length qs → (get_or qs n d).gap ≡ g → ⊥)
    → n ≡ length (map (pair_of S g) cs)
run_length S g n cs gs qs d e le run stop =
    let here = map (pair_of S g) cs in
    let rest = pairs_from S (g + 1) gs in
    let size = length-append here rest in
    elim (cases_lt n (length here)) [
      | inl l ↦ absurd (stop (omega (arith, l, size, ap length e))
          (ap (λ (ps : List PairParts). (get_or ps n d).gap) e
          ∙ ap (λ (p : PairParts). p.gap) (get_or_append_left here rest d n l) ∙ pairs_in_gap S g cs n d l))
      | inr ge ↦ elim (cases_lt (length here) n) [
        | inl m ↦
            let k = length here in
            let in_gap : (get_or rest (k - k) d).gap ≡ g =
            ap (λ (p : PairParts). p.gap) (sym (get_or-append_right here rest k k d refl (omega arith)))
            ∙ ap (λ (ps : List PairParts). (get_or ps k d).gap) (sym e) ∙ run k m in
            absurd (omega (arith, in_gap, pairs_rise S (g + 1) gs (k - k) d (omega (arith, m, le, size, ap length e))))
        | inr m ↦ omega (arith, ge, m)
      ]
    ]

-- they are the pairs of its components, and after them begin those of the next gap
pub run_is : (S : Parts) (g n : ℕ) (cs : List Members) (gs : List (List Members)) (qs : List PairParts) (d : PairParts)
    → qs ≡ pairs_from S g (cs ∷ gs) → n ≤ length qs
    → ((k : ℕ) → k < n → (get_or qs k d).gap ≡ g) → (n < length qs → (get_or qs n d).gap ≡ g → ⊥)
    → (take n qs ≡ map (pair_of S g) cs) × (drop n qs ≡ pairs_from S (g + 1) gs)
run_is S g n cs gs qs d e le run stop =
    let here = map (pair_of S g) cs in
    let rest = pairs_from S (g + 1) gs in
    let size = run_length S g n cs gs qs d e le run stop in (
      ap (take n) e ∙ ap (λ (m : ℕ). take m (here ++ rest)) size ∙ take-append_seam here rest,
      ap (drop n) e ∙ ap (λ (m : ℕ). drop m (here ++ rest)) size ∙ drop-append_seam here rest,
    )

-- ---- the same at a place of the pairs that the code holds
drop_past : {X : Type 0} (xs : List X) (n : ℕ) → length xs ≤ n → drop n xs ≡ []
drop_past [] zero l = refl
drop_past [] (suc n) l = refl
drop_past (x ∷ xs) zero l = absurd (omega (arith, l))
drop_past (x ∷ xs) (suc n) l = drop_past xs n (omega (arith, l))

drop_drop : {X : Type 0} (xs : List X) (m n : ℕ) → drop n (drop m xs) ≡ drop (m + n) xs
drop_drop xs zero n = let e : n ≡ 0 + n = omega arith in ap (λ (k : ℕ). drop k xs) e
drop_drop {X = X} [] (suc m) n = drop_past {X = X} [] n (omega arith)
    ∙ sym (drop_past {X = X} [] (suc m + n) (omega arith))
drop_drop (x ∷ xs) (suc m) n =
    let e : suc (m + n) ≡ suc m + n = omega arith in
    drop_drop xs m n ∙ ap (λ (k : ℕ). drop k (x ∷ xs)) e

abbrev no_pair : PairParts
no_pair = record {
  strip = record { low = []; low_ids = []; high = []; high_ids = []; cost = Span };
  gap = 0;
  below =
      [];
  above = [];
}

-- the pair at a place, in its parts and as it is held
gap_at : (ps : List GapPair) (k : ℕ) (l : k < length ps)
    → (get_or (map pair_parts ps) k no_pair).gap ≡ (get_or ps k (item_at ps k l).0).gap
gap_at ps k l = ap (λ (q : PairParts). q.gap) (get_or-map pair_parts ps k (item_at ps k l).0 no_pair l)

-- the pairs of the gap, and the place where those of the next gap begin
run_here : (S : Parts) (ps : List GapPair) (gaps : List (List Members)) (g begin end : ℕ)
    → drop begin (map pair_parts ps) ≡ pairs_from S g (drop g gaps) → begin ≤ end → end ≤ length ps
    → ((k : ℕ) (d : GapPair) → begin ≤ k → k < end → (get_or ps k d).gap ≡ g)
    → ((d : GapPair) → end < length ps → (get_or ps end d).gap ≡ g → ⊥) → g < length gaps
    → (map pair_parts (take (end - begin) (drop begin ps)) ≡ map (pair_of S g) (get_or gaps g []))
    × (drop end (map pair_parts ps) ≡ pairs_from S (g + 1) (drop (g + 1) gaps))
run_here S ps gaps g begin end e le fit run stop there =
    let n = end - begin in
    let qs = drop begin (map pair_parts ps) in
    let size : length qs ≡ length ps - begin =
    omega (arith, length-drop begin (map pair_parts ps), length-map ps pair_parts) in
    let whole : qs ≡ pairs_from S g (get_or gaps g [] ∷ drop (g + 1) gaps) = e
    ∙ ap (pairs_from S g) (drop_more gaps g [] there) in
    let at : (k : ℕ) (l : begin + k < length ps)
    → (get_or qs k no_pair).gap ≡ (get_or ps (begin + k) (item_at ps (begin + k) l).0).gap =
    λ k l. ap (λ (q : PairParts). q.gap) (get_or-drop begin (map pair_parts ps) k no_pair)
    ∙ gap_at ps (begin + k) l in
    let in_run : (k : ℕ) → k < n → (get_or qs k no_pair).gap ≡ g = λ k l.
    let m : begin + k < length ps = omega (arith, l, le, fit) in
    at k m ∙ run (begin + k) (item_at ps (begin + k) m).0 (omega arith) (omega (arith, l, le)) in
    let last : begin + n ≡ end = omega (arith, le) in
    let ends : n < length qs → (get_or qs n no_pair).gap ≡ g → ⊥ = λ l h.
    let m : begin + n < length ps = omega (arith, l, size) in
    let x = (item_at ps (begin + n) m).0 in
    stop x (omega (arith, m, last)) (ap (λ (k : ℕ). (get_or ps k x).gap) (sym last) ∙ sym (at n m) ∙ h) in
    let r = run_is S g n (get_or gaps g []) (drop (g + 1) gaps) qs no_pair whole (omega (arith, size, fit, le)) in_run
    ends in (
      sym (ap (take n) (drop-map pair_parts begin ps) ∙ take-map pair_parts n (drop begin ps)) ∙ r.0,
      sym (drop_drop (map pair_parts ps) begin n ∙ ap (λ (k : ℕ). drop k (map pair_parts ps)) last) ∙ r.1,
    )

pub next_begin : (S : Parts) (ps : List GapPair) (g begin end : ℕ) → BeginAt S (map pair_parts ps) g begin → begin ≤ end
    → end ≤ length ps
    → ((k : ℕ) (d : GapPair) → begin ≤ k → k < end → (get_or ps k d).gap ≡ g)
    → ((d : GapPair) → end < length ps → (get_or ps end d).gap ≡ g → ⊥) → BeginAt S (map pair_parts ps) (g + 1) end
next_begin S ps g begin end b le fit run stop gaps are e =
    let qs = drop begin (map pair_parts ps) in
    let last : begin + (end - begin) ≡ end = omega (arith, le) in
    elim (cases_lt g (length gaps)) [
      | inl l ↦ (run_here S ps gaps g begin end (b gaps are e) le fit run stop l).1
      | inr ge ↦
          let none : qs ≡ [] = b gaps are e ∙ ap (pairs_from S g) (drop_past gaps g ge) in
          let few : length ps ≤ end = omega (
            arith,
            le,
            ap length none,
            length-drop begin (map pair_parts ps),
            length-map ps pair_parts,
          ) in
          drop_past (map pair_parts ps) end (omega (arith, few, length-map ps pair_parts))
          ∙ sym (ap (pairs_from S (g + 1)) (drop_past gaps (g + 1) (omega (arith, ge))))
    ]

sides_at : (S : Parts) (b : ℕ) (gaps : List (List Members)) (k : ℕ) → k < length gaps
    → All IsShort (sides_from S b gaps) → All IsShort (flat_map (sides_of S (b + k)) (get_or gaps k []))
sides_at S b [] k l h = absurd (omega (arith, l))
sides_at S b (cs ∷ gaps) zero l h =
    let e : b ≡ b + 0 = omega arith in
    subst (λ (n : ℕ). All IsShort (flat_map (sides_of S n) cs)) e
    (all_left IsShort (flat_map (sides_of S b) cs) (sides_from S (b + 1) gaps) h)
sides_at S b (cs ∷ gaps) (suc k) l h =
    let e : (b + 1) + k ≡ b + suc k = omega arith in
    subst (λ (n : ℕ). All IsShort (flat_map (sides_of S n) (get_or gaps k []))) e
    (sides_at S (b + 1) gaps k (omega (arith, l))
    (all_right IsShort (flat_map (sides_of S b) cs) (sides_from S (b + 1) gaps) h))

pub gap_here : (S : Parts) (ps : List GapPair) (g begin end : ℕ) → ArePairs S (map pair_parts ps)
    → BeginAt S (map pair_parts ps) g begin → begin ≤ end → end ≤ length ps
    → ((k : ℕ) (d : GapPair) → begin ≤ k → k < end → (get_or ps k d).gap ≡ g)
    → ((d : GapPair) → end < length ps → (get_or ps end d).gap ≡ g → ⊥) → g + 1 < length S.sections
    → AreGapPairs S g (map pair_parts (take (end - begin) (drop begin ps)))
gap_here S ps g begin end h b le fit run stop there =
    let l : g < length h.gaps = omega (arith, there, h.are_gaps.count) in
    let short : All IsShort (flat_map (sides_of S (0 + g)) (get_or h.gaps g [])) = sides_at S 0 h.gaps g l h.short in
    let e : 0 + g ≡ g = omega arith in
    record {
      members = get_or h.gaps g [];
      are_members = h.are_gaps.components g l;
      pairs = (run_here S ps h.gaps g begin end (b h.gaps h.are_gaps h.pairs) le fit run stop l).0;
      short = subst (λ (n : ℕ). All IsShort (flat_map (sides_of S n) (get_or h.gaps g []))) e short;
    }
