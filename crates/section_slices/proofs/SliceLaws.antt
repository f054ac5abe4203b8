-- A height has one slice of a stack of sections, or one fault.
use Rattle.std.proofs.Common.{◌≡◌, ◌⊎◌, inl, inr, ℕ, ◌+◌, ◌<◌, ◌≤◌, List, map, refl, sym, ap, ap₂, ◌∙◌, arith, ℤ, pos}
use Rattle.std.proofs.lemmas.Int.{ints}
use Rattle.std.proofs.lemmas.Bool.{cases_lt}
use Rattle.fku_types.specs.declared.fault.Fault.{Fault}
use Rattle.section_core.specs.Parts.{Parts}
use Rattle.section_core.specs.Laws.{AreRising, heights}
use Rattle.section_core.proofs.Rising.{higher}
use Rattle.correspondence.specs.Outlines.{section_at}
use Rattle.strip_graph.specs.Strips.{Strip}
use Rattle.pair_pool.proofs.SolutionLists.{same_solutions}
use Rattle.section_pairs.specs.Pairs.{PairParts}
use Rattle.surface_core.specs.Surfaces.{strips_in}
use Rattle.section_pairs.proofs.PairLaws.{one_pairs}
use Rattle.section_pairs.proofs.FoundLaws.{one_found, paired_or_found}
use Rattle.section_slices.specs.Slices.{IsGapAt, IsOutside, IsOnSection, IsHeightFault, outside, on_section, IsSlice, IsSliceFault, found, at_height, pairs_in_gap, loops_at}
use Rattle.section_slices.specs.declared.slices.SliceLoops.{SliceLoops}
use Rattle.section_slices.proofs.SliceHeights.{no_fault, no_section}

-- no height lies in a gap and in a later one
not_later : (S : Parts) (z : ℤ) (g h : ℕ) → AreRising (heights S.sections) → IsGapAt S z g → IsGapAt S z h → g < h → ⊥
not_later S z g h r a b l = by (cases_lt (g + 1) h)
  where
    by : (g + 1 < h) ⊎ (h ≤ g + 1) → ⊥
    by (inl m) = absurd (omega (
      arith,
      ints,
      a.below_high,
      b.above_low,
      higher S.sections (g + 1) h no_section r m (omega (arith, b.there)),
    ))
    by (inr m) = absurd (omega (
      arith,
      ints,
      a.below_high,
      b.above_low,
      ap (λ (k : ℕ). (section_at S k).z) (let e : h ≡ g + 1 = omega (arith, l, m) in e),
    ))

-- the gap around a height is unique
pub one_gap : (S : Parts) (z : ℤ) (g h : ℕ) → AreRising (heights S.sections) → IsGapAt S z g → IsGapAt S z h → g ≡ h
one_gap S z g h r a b = by (cases_lt g h) (cases_lt h g)
  where
    by : (g < h) ⊎ (h ≤ g) → (h < g) ⊎ (g ≤ h) → g ≡ h
    by (inl l) m = absurd (not_later S z g h r a b l)
    by (inr l) (inl m) = absurd (not_later S z h g r b a m)
    by (inr l) (inr m) = omega (arith, l, m)

pub one_slice : (S : Parts) → AreRising (heights S.sections) → (z : ℤ) (s t : SliceLoops) → IsSlice S z s
    → IsSlice S z t → (s.den ≡ t.den) × (map (λ l. l.items) s.loops.items ≡ map (λ l. l.items) t.loops.items)
one_slice S r z s t a b =
    let gap : a.gap ≡ b.gap = one_gap S z a.gap b.gap r a.at b.at in
    let low : (section_at S a.gap).z ≡ (section_at S b.gap).z = ap (λ (g : ℕ). (section_at S g).z) gap in
    let high : (section_at S (a.gap + 1)).z ≡ (section_at S (b.gap + 1)).z =
    ap (λ (g : ℕ). (section_at S (g + 1)).z) gap in
    let den : a.d ≡ b.d = omega (arith, ints, a.heights, b.heights, low, high) in
    let part : a.t ≡ b.t = omega (arith, ints, a.part, b.part, low) in
    let ps : a.pairs ≡ b.pairs = one_pairs S a.pairs b.pairs a.are_pairs b.are_pairs in
    let strips : ℕ → List PairParts → List Strip = λ g qs. strips_in (pairs_in_gap g qs) in
    let same : strips a.gap a.pairs ≡ strips b.gap b.pairs = ap₂ strips gap ps in
    let xs : a.solutions ≡ b.solutions =
    same_solutions (strips a.gap a.pairs) (strips b.gap b.pairs) a.solutions b.solutions same a.chosen b.chosen in (
      a.den ∙ ap pos den ∙ sym b.den,
      a.loops ∙ ap₂ (λ (d k : ℕ). loops_at d k (strips a.gap a.pairs) a.solutions) den part
          ∙ ap₂ (loops_at b.d b.t) same xs ∙ sym b.loops,
    )

pub slice_or_fault : (S : Parts) → AreRising (heights S.sections) → (z : ℤ) (s : SliceLoops) (f : Fault) → IsSlice S z s
    → IsSliceFault S z f → ⊥
slice_or_fault S r z s f a (found _ h) = paired_or_found S a.pairs f a.are_pairs h
slice_or_fault S r z s f a (at_height _ ps _ h) = no_fault S z a.gap f r a.at h

-- a height outside is not that of a section
pub not_on_section : (S : Parts) (z : ℤ) → IsOutside S z → IsOnSection S z → ⊥
not_on_section S z (inl all) (k, l, e) = absurd (omega (arith, ints, e, all k no_section l))
not_on_section S z (inr all) (k, l, e) = absurd (omega (arith, ints, e, all k no_section l))

one_height_fault : (S : Parts) (z : ℤ) (f g : Fault) → IsHeightFault S z f → IsHeightFault S z g → f ≡ g
one_height_fault S z f g (outside a) (outside b) = refl
one_height_fault S z f g (outside a) (on_section b) = absurd (not_on_section S z a b)
one_height_fault S z f g (on_section a) (outside b) = absurd (not_on_section S z b a)
one_height_fault S z f g (on_section a) (on_section b) = refl

pub one_slice_fault : (S : Parts) (z : ℤ) (f g : Fault) → IsSliceFault S z f → IsSliceFault S z g → f ≡ g
one_slice_fault S z f g (found _ a) (found _ b) = one_found S f g a b
one_slice_fault S z f g (found _ a) (at_height _ ps p b) = absurd (paired_or_found S ps f p a)
one_slice_fault S z f g (at_height _ ps p a) (found _ b) = absurd (paired_or_found S ps g p b)
one_slice_fault S z f g (at_height _ ps p a) (at_height _ qs q b) = one_height_fault S z f g a b
