-- Gaps in a row, their pairs and their faults.
use Rattle.std.proofs.Common.{inl, inr, ◌≡◌, ℕ, zero, suc, refl, ◌+◌, ◌-◌, ◌<◌, ◌≤◌, List, [], ◌∷◌, ◌++◌, length, get_or, map, flat_map, sym, ap, ap₂, ◌∙◌, subst, append_assoc, arith, Vec}
use Rattle.std.specs.Global.{Global}
use Rattle.std.specs.Prelude.{All, Result, Ok, Err, IfOk, IfErr}
use Rattle.std.proofs.lemmas.Bool.{cases_lt}
use Rattle.std.proofs.lemmas.List.{length-append, map-append, append-nil, get_or_append_left, get_or-append-add}
use Rattle.std.proofs.lemmas.List.Elements.{All-append, All-nil}
use Rattle.fku_types.specs.declared.limits.TheConstants.{MAX_CONTOURS, MAX_PAIRS}
use Rattle.fku_types.specs.declared.fault.Fault.{Fault}
use Rattle.fku_types.specs.declared.fault.Fault.TheVariants.{NoMemory}
use Rattle.section_core.specs.declared.parts.Section.{Section}
use Rattle.section_core.specs.Parts.{Parts}
use Rattle.section_core.specs.Flat.{section_data}
use Rattle.section_core.specs.ValidSections.{section_of, contours_in, AreValidSections}
use Rattle.correspondence.specs.Components.{Members}
use Rattle.correspondence.specs.Gaps.{AreGapMembers}
use Rattle.strip_graph.specs.Strips.{IsStrip}
use Rattle.section_pairs.specs.declared.gap_pairs.GapPair.{GapPair}
use Rattle.section_pairs.specs.Pairs.{PairParts, pair_parts, pair_of, sides_of, pairs_from, sides_from, AreGaps, IsShort}
use Rattle.section_pairs.specs.SectionFaults.{IsFirstFault, HasLongSide, OrNoMemory, IsSideFault, IsFound, IsPairsFault, ArePairs, AreWellLinked}
use Rattle.section_pairs.specs.Ranges.{AreGapsIn, ArePairsIn, AreHeldIn, IsSideFaultIn, IsGapResult}
use Rattle.section_pairs.proofs.Firsts.{first_left, first_right}
use Rattle.section_pairs.proofs.SectionRings.{count_is, some_section}
use Rattle.section_pairs.proofs.PairCounts.{all_few, pairs_few, pairs_in_gaps}

pairs_from-append : (S : Parts) (b m : ℕ) (gs hs : List (List Members)) → b + length gs ≡ m
    → pairs_from S b (gs ++ hs) ≡ pairs_from S b gs ++ pairs_from S m hs
pairs_from-append S b m [] hs e =
    let same : b ≡ m = omega (arith, e) in
    ap (λ (n : ℕ). pairs_from S n hs) same
pairs_from-append S b m (c ∷ gs) hs e =
    ap (λ (ys : List PairParts). map (pair_of S b) c ++ ys) (pairs_from-append S (b + 1) m gs hs (omega (arith, e)))
    ∙ sym (append_assoc (map (pair_of S b) c) (pairs_from S (b + 1) gs) (pairs_from S m hs))

sides_from-append : (S : Parts) (b m : ℕ) (gs hs : List (List Members)) → b + length gs ≡ m
    → sides_from S b (gs ++ hs) ≡ sides_from S b gs ++ sides_from S m hs
sides_from-append S b m [] hs e =
    let same : b ≡ m = omega (arith, e) in
    ap (λ (n : ℕ). sides_from S n hs) same
sides_from-append S b m (c ∷ gs) hs e =
    ap (λ (ys : List (ℕ × ℕ)). flat_map (sides_of S b) c ++ ys) (sides_from-append S (b + 1) m gs hs (omega (arith, e)))
    ∙ sym (append_assoc (flat_map (sides_of S b) c) (sides_from S (b + 1) gs) (sides_from S m hs))

-- ---- two ranges of gaps
abbrev pub Answer : Type 0
Answer = Result (Vec GapPair Global) Fault

gaps_joined : (S : Parts) (b m e : ℕ) (gs hs : List (List Members)) → AreGapsIn S b m gs → AreGapsIn S m e hs
    → AreGapsIn S b e (gs ++ hs)
gaps_joined S b m e gs hs h k = record {
  count = omega (arith, h.count, k.count, length-append gs hs);
  components = at;
}
  where
    at : (i : ℕ) → i < length (gs ++ hs) → AreGapMembers S (b + i) (get_or (gs ++ hs) i [])
    at i l = elim (cases_lt i (length gs)) [
      | inl lt ↦ subst (λ (cs : List Members). AreGapMembers S (b + i) cs) (sym (get_or_append_left gs hs [] i lt))
          (h.components i lt)
      | inr ge ↦
          let j : ℕ = i - length gs in
          let place : length gs + j ≡ i = omega (arith, ge) in
          let gap : m + j ≡ b + i = omega (arith, h.count, ge) in
          let within : j < length hs = omega (arith, l, ge, length-append gs hs) in
          subst (λ (n : ℕ). AreGapMembers S n (get_or (gs ++ hs) i [])) gap
          (subst (λ (cs : List Members). AreGapMembers S (m + j) cs)
          (sym (get_or-append-add gs hs j []) ∙ ap (λ (n : ℕ). get_or (gs ++ hs) n []) place)
          (k.components j within))
    ]

pairs_joined : (S : Parts) (b m e : ℕ) (ps qs : List PairParts) → ArePairsIn S b m ps → ArePairsIn S m e qs
    → ArePairsIn S b e (ps ++ qs)
pairs_joined S b m e ps qs h k = record {
  gaps = h.gaps ++ k.gaps;
  are_gaps = gaps_joined S b m e h.gaps k.gaps h.are_gaps k.are_gaps;
  short = subst (λ (ys : List (ℕ × ℕ)). All IsShort ys) (sym (sides_from-append S b m h.gaps k.gaps h.are_gaps.count))
      (All-append IsShort (sides_from S b h.gaps) (sides_from S m k.gaps) h.short k.short);
  pairs = ap₂ (λ (xs ys : List PairParts). xs ++ ys) h.pairs k.pairs
      ∙ sym (pairs_from-append S b m h.gaps k.gaps h.are_gaps.count);
}

fault_left : (S : Parts) (b m e : ℕ) (fault : Fault) (hs : List (List Members)) → IsSideFaultIn S b m fault
    → AreGapsIn S m e hs → IsSideFaultIn S b e fault
fault_left S b m e fault hs h k = record {
  gaps = h.gaps ++ hs;
  are_gaps = gaps_joined S b m e h.gaps hs h.are_gaps k;
  first = subst (λ (ys : List (ℕ × ℕ)). IsFirstFault IsShort HasLongSide ys fault)
      (sym (sides_from-append S b m h.gaps hs h.are_gaps.count))
      (first_left IsShort HasLongSide (sides_from S b h.gaps) (sides_from S m hs) fault h.first);
}

fault_right : (S : Parts) (b m e : ℕ) (fault : Fault) (ps : List PairParts) → ArePairsIn S b m ps
    → IsSideFaultIn S m e fault → IsSideFaultIn S b e fault
fault_right S b m e fault ps h k = record {
  gaps = h.gaps ++ k.gaps;
  are_gaps = gaps_joined S b m e h.gaps k.gaps h.are_gaps k.are_gaps;
  first = subst (λ (ys : List (ℕ × ℕ)). IsFirstFault IsShort HasLongSide ys fault)
      (sym (sides_from-append S b m h.gaps k.gaps h.are_gaps.count))
      (first_right IsShort HasLongSide (sides_from S b h.gaps) (sides_from S m k.gaps) fault h.short k.first);
}

-- ---- all gaps
whole_gaps : (S : Parts) (n : ℕ) (gs : List (List Members)) → n + 1 ≡ length S.sections → AreGapsIn S 0 n gs
    → AreGaps S gs
whole_gaps S n gs e h = record {
  count = omega (arith, e, h.count);
  components = λ g l.
      let same : 0 + g ≡ g = omega arith in
      subst (λ (k : ℕ). AreGapMembers S k (get_or gs g [])) same (h.components g l);
}

whole_pairs : (S : Parts) (n : ℕ) (ps : List PairParts) → n + 1 ≡ length S.sections → AreWellLinked S
    → ArePairsIn S 0 n ps → ArePairs S ps
whole_pairs S n ps e l h = record {
  linked = l;
  gaps = h.gaps;
  are_gaps = whole_gaps S n h.gaps e h.are_gaps;
  short =
      h.short;
  pairs = h.pairs;
}

whole_fault : (S : Parts) (n : ℕ) (fault : Fault) → n + 1 ≡ length S.sections → IsSideFaultIn S 0 n fault
    → IsSideFault S fault
whole_fault S n fault e h = record { gaps = h.gaps; are_gaps = whole_gaps S n h.gaps e h.are_gaps; first = h.first }

-- the last gap has the last section above it
pub last_gap : (ss : List Section) (S : Parts) → map section_data ss ≡ map section_of S.sections → AreValidSections ss
    → length S.sections - 1 + 1 ≡ length S.sections
last_gap ss S e k = omega (arith, some_section ss k, count_is ss S.sections e)

-- ---- no gap, and one gap
pub none_held : (S : Parts) (b : ℕ) (ps : List GapPair) → ps ≡ [] → AreHeldIn S b b ps
none_held S b ps e = subst (AreHeldIn S b b) (sym e) (
  record {
    gaps = [];
    are_gaps = record { count = omega arith; components = λ k l. absurd (omega (arith, l)) };
    short = All-nil IsShort;
    pairs = refl;
  },
  All-nil (λ (p : GapPair). IsStrip p.pair),
)

one_gap : (S : Parts) (g : ℕ) (cs : List Members) → AreGapMembers S g cs → AreGapsIn S g (g + 1) (cs ∷ [])
one_gap S g cs h = record { count = omega arith; components = at }
  where
    at : (k : ℕ) → k < 1 → AreGapMembers S (g + k) (get_or (cs ∷ []) k [])
    at zero l =
        let here : g ≡ g + 0 = omega arith in
        subst (λ (n : ℕ). AreGapMembers S n cs) here h
    at (suc k) l = absurd (omega (arith, l))

-- the result for the components of a gap is that for the gap
pub one_result : (S : Parts) (g : ℕ) (cs : List Members) (r : Answer) → AreGapMembers S g cs
    → IfOk r (λ v. map pair_parts v.items ≡ map (pair_of S g) cs)
    → IfOk r (λ v. All (λ (p : GapPair). IsStrip p.pair) v.items)
    → IfOk r (λ _. All IsShort (flat_map (sides_of S g) cs))
    → IfErr r (OrNoMemory (IsFirstFault IsShort HasLongSide (flat_map (sides_of S g) cs))) → IsGapResult S g (g + 1) r
one_result S g cs (Ok v) m ps strips short f = (
  record {
    gaps = cs ∷ [];
    are_gaps = one_gap S g cs m;
    short = subst (λ (ys : List (ℕ × ℕ)). All IsShort ys) (sym (append-nil (flat_map (sides_of S g) cs))) short;
    pairs = ps ∙ sym (append-nil (map (pair_of S g) cs));
  },
  strips,
)
one_result S g cs (Err fault) m ps strips short (inl e) = inl e
one_result S g cs (Err fault) m ps strips short (inr f) = inr (record {
  gaps = cs ∷ [];
  are_gaps = one_gap S g cs m;
  first = subst (λ (ys : List (ℕ × ℕ)). IsFirstFault IsShort HasLongSide ys fault)
      (sym (append-nil (flat_map (sides_of S g) cs))) f;
})

-- ---- the result for all gaps
pub told_pairs : (S : Parts) (n : ℕ) (r : Answer) → n + 1 ≡ length S.sections → AreWellLinked S → IsGapResult S 0 n r
    → IfOk r (λ v. ArePairs S (map pair_parts v.items))
told_pairs S n (Ok v) e l h = whole_pairs S n (map pair_parts v.items) e l h.0
told_pairs S n (Err f) e l h = tt

pub told_strips : (S : Parts) (n : ℕ) (r : Answer) → IsGapResult S 0 n r
    → IfOk r (λ v. All (λ (p : GapPair). IsStrip p.pair) v.items)
told_strips S n (Ok v) h = h.1
told_strips S n (Err f) h = tt

pub told_gaps : (S : Parts) (n : ℕ) (r : Answer) → n + 1 ≡ length S.sections → IsGapResult S 0 n r
    → IfOk r (λ v. All (λ (p : GapPair). p.gap + 1 < length S.sections) v.items)
told_gaps S n (Ok v) e h = pairs_in_gaps S h.0.gaps v.items (whole_gaps S n h.0.gaps e h.0.are_gaps) h.0.pairs
told_gaps S n (Err f) e h = tt

pub told_count : (ss : List Section) (S : Parts) (n : ℕ) (r : Answer) → map section_data ss ≡ map section_of S.sections
    → length (contours_in ss) ≤ MAX_CONTOURS → n + 1 ≡ length S.sections
    → IsGapResult S 0 n r → IfOk r (λ v. length v.items ≤ MAX_PAIRS)
told_count ss S n (Ok v) d l e h =
    pairs_few S h.0.gaps v.items h.0.pairs
    (omega (arith, l, all_few ss S h.0.gaps d (whole_gaps S n h.0.gaps e h.0.are_gaps)))
told_count ss S n (Err f) d l e h = tt

pub told_fault : (S : Parts) (n : ℕ) (r : Answer) → n + 1 ≡ length S.sections → AreWellLinked S → IsGapResult S 0 n r
    → IfErr r (IsPairsFault S)
told_fault S n (Ok v) e l h = tt
told_fault S n (Err f) e l (inl h) = inl h
told_fault S n (Err f) e l (inr h) = inr (IsFound.in_composites f l (whole_fault S n f e h))

-- ---- results for two ranges
pub told_left : (S : Parts) (b m e : ℕ) (fault : Fault) (ps : List PairParts) → OrNoMemory (IsSideFaultIn S b m) fault
    → ArePairsIn S m e ps → OrNoMemory (IsSideFaultIn S b e) fault
told_left S b m e fault ps (inl h) k = inl h
told_left S b m e fault ps (inr h) k = inr (fault_left S b m e fault k.gaps h k.are_gaps)

pub told_first : (S : Parts) (b m e : ℕ) (fault other : Fault) → OrNoMemory (IsSideFaultIn S b m) fault
    → OrNoMemory (IsSideFaultIn S m e) other → (other ≡ NoMemory → ⊥) → OrNoMemory (IsSideFaultIn S b e) fault
told_first S b m e fault other (inl h) k n = inl h
told_first S b m e fault other (inr h) (inl k) n = absurd (n k)
told_first S b m e fault other (inr h) (inr k) n = inr (fault_left S b m e fault k.gaps h k.are_gaps)

pub told_right : (S : Parts) (b m e : ℕ) (fault : Fault) (ps : List GapPair) → AreHeldIn S b m ps
    → OrNoMemory (IsSideFaultIn S m e) fault → OrNoMemory (IsSideFaultIn S b e) fault
told_right S b m e fault ps h (inl k) = inl k
told_right S b m e fault ps h (inr k) = inr (fault_right S b m e fault (map pair_parts ps) h.0 k)

pub held_joined : (S : Parts) (b m e : ℕ) (ps qs : List GapPair) → AreHeldIn S b m ps → AreHeldIn S m e qs
    → AreHeldIn S b e (ps ++ qs)
held_joined S b m e ps qs h k = (
  subst (ArePairsIn S b e) (sym (map-append pair_parts ps qs))
      (pairs_joined S b m e (map pair_parts ps) (map pair_parts qs) h.0 k.0),
  All-append (λ (p : GapPair). IsStrip p.pair) ps qs h.1 k.1,
)
