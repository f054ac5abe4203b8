-- The pairs of sections are in the order of their gaps.
use Rattle.std.proofs.Common.{◌≡◌, ℕ, ◌+◌, ◌-◌, ◌<◌, ◌≤◌, List, [], ◌∷◌, ◌++◌, length, map, get_or, inl, inr, refl, sym, ap, ◌∙◌, subst, arith}
use Rattle.std.specs.List.Sorted.{IsNonDecreasingBy}
use Rattle.std.proofs.lemmas.Bool.{cases_lt}
use Rattle.std.proofs.lemmas.List.{length-map, length-append, get_or-map, get_or_append_left, get_or-append_right}
use Rattle.section_core.specs.Parts.{Parts}
use Rattle.correspondence.specs.Components.{Members}
use Rattle.section_pairs.specs.declared.gap_pairs.GapPair.{GapPair}
use Rattle.section_pairs.specs.Pairs.{PairParts, pair_parts, pair_of, pairs_from}
use Rattle.section_pairs.specs.SectionFaults.{ArePairs}
use Rattle.section_pairs.proofs.Runs.{pairs_in_gap, pairs_rise}

from_gap : (S : Parts) (g : ℕ) (gs : List (List Members))
    → IsNonDecreasingBy (λ (p : PairParts). p.gap) (pairs_from S g gs)
from_gap S g [] i j d le l = absurd (omega (arith, l))
from_gap S g (cs ∷ gs) i j d le l =
    let here = map (pair_of S g) cs in
    let rest = pairs_from S (g + 1) gs in
    let n = length here in
    let left : (k : ℕ) → k < n → (get_or (here ++ rest) k d).gap ≡ g =
    λ k m. ap (λ (p : PairParts). p.gap) (get_or_append_left here rest d k m) ∙ pairs_in_gap S g cs k d m in
    let right : (k : ℕ) → n ≤ k → (get_or (here ++ rest) k d).gap ≡ (get_or rest (k - n) d).gap =
    λ k m. ap (λ (p : PairParts). p.gap) (get_or-append_right here rest n k d refl m) in
    elim (cases_lt j n) [
      | inl m ↦ omega (arith, left i (omega (arith, le, m)), left j m)
      | inr m ↦
          let there : j - n < length rest = omega (arith, l, m, length-append here rest) in
          elim (cases_lt i n) [
            | inl k ↦ omega (arith, left i k, right j m, pairs_rise S (g + 1) gs (j - n) d there)
            | inr k ↦ omega (
              arith,
              right i k,
              right j m,
              from_gap S (g + 1) gs (i - n) (j - n) d (omega (arith, le, k, m)) there,
            )
          ]
    ]

pub pairs_sorted : (S : Parts) (ps : List GapPair) → ArePairs S (map pair_parts ps)
    → IsNonDecreasingBy (λ (p : GapPair). p.gap) ps
pairs_sorted S ps h i j d le l =
    let at : (k : ℕ) → k < length ps → (get_or (map pair_parts ps) k (pair_parts d)).gap ≡ (get_or ps k d).gap =
    λ k m. ap (λ (p : PairParts). p.gap) (get_or-map pair_parts ps k d (pair_parts d) m) in
    let rise : IsNonDecreasingBy (λ (p : PairParts). p.gap) (map pair_parts ps) =
    subst (IsNonDecreasingBy (λ (p : PairParts). p.gap)) (sym h.pairs) (from_gap S 0 h.gaps) in
    omega (
      arith,
      at i (omega (arith, le, l)),
      at j l,
      rise i j (pair_parts d) le (omega (arith, l, length-map ps pair_parts)),
    )
