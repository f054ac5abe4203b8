-- Slices of the surface of sections at a height between two of them.
use Rattle.std.specs.Prelude.{◌≡◌, ◌⊎◌, ℕ, ◌+◌, ◌<◌, ◌==◌, List, [], ◌∷◌, Option, Some, None, All, filter, length, map, ℤ, pos, ◌-ℤ◌, ◌<ℤ◌}
use Rattle.fku_types.specs.declared.fault.Fault.{Fault}
use Rattle.fku_types.specs.declared.fault.Fault.TheVariants.{Outside, OnSection}
use Rattle.section_core.specs.Parts.{Parts, SectionParts}
use Rattle.correspondence.specs.Outlines.{section_at}
use Rattle.strip_graph.specs.declared.slices.Cut.{Cut}
use Rattle.strip_graph.specs.Strips.{Strip}
use Rattle.strip_graph.specs.Slices.{slice_loop}
use Rattle.row_paths.specs.Solutions.{Solution}
use Rattle.pair_pool.specs.Solvers.{SolvesEach}
use Rattle.section_pairs.specs.Pairs.{PairParts}
use Rattle.section_pairs.specs.SectionFaults.{ArePairs, IsFound}
use Rattle.surface_core.specs.Surfaces.{strips_in}
use Rattle.section_slices.specs.declared.slices.SliceLoops.{SliceLoops}

-- a height lies between those of section g and of the next one
pub record IsGapAt (S : Parts) (z : ℤ) (g : ℕ) : Type 0 where
  pub there : g + 1 < length S.sections
  pub above_low : (section_at S g).z <ℤ z
  pub below_high : z <ℤ (section_at S (g + 1)).z

-- a height lies below those of all sections, or above them
abbrev pub IsOutside : Parts → ℤ → Type 0
IsOutside S z = All (λ (s : SectionParts). z <ℤ s.z) S.sections ⊎ All (λ (s : SectionParts). s.z <ℤ z) S.sections

-- a height is that of a section
abbrev pub IsOnSection : Parts → ℤ → Type 0
IsOnSection S z = (k : ℕ) × (k < length S.sections) × ((section_at S k).z ≡ z)

-- the pairs of gap g, in their order
abbrev pub pairs_in_gap : ℕ → List PairParts → List PairParts
pairs_in_gap g pairs = filter (λ (p : PairParts). p.gap == g) pairs

-- for each strip with its solution, the loop t/d of the way up: along the spans of its tiling, each number times d
abbrev pub loops_at : ℕ → ℕ → List Strip → List Solution → List (List Cut)
loops_at d t (s ∷ strips) (x ∷ solutions) = slice_loop s d t x.row 0 x.word ∷ loops_at d t strips solutions
loops_at d t strips solutions = []

-- the slice at a height: of the gap around it, t above the lower of two heights that differ by d, with a loop for each
-- of the gap's pairs
pub record IsSlice (S : Parts) (z : ℤ) (slice : SliceLoops) : Type 0 where
  pub gap : ℕ
  pub at : IsGapAt S z gap
  pub pairs : List PairParts
  pub are_pairs : ArePairs S pairs
  pub solutions : List Solution
  pub chosen : SolvesEach (strips_in (pairs_in_gap gap pairs)) solutions
  pub d : ℕ
  pub t : ℕ
  pub heights : pos d ≡ (section_at S (gap + 1)).z -ℤ (section_at S gap).z
  pub part : pos t ≡ z -ℤ (section_at S gap).z
  pub den : slice.den ≡ pos d
  pub loops : map (λ l. l.items) slice.loops.items ≡ loops_at d t (strips_in (pairs_in_gap gap pairs)) solutions

-- a slice, or none if the height is outside
abbrev pub IsCut : ℤ → Parts → Option SliceLoops → Type 0
IsCut z S (Some s) = IsSlice S z s
IsCut z S None = IsOutside S z

-- how many loops there are
abbrev pub loop_count : Option SliceLoops → ℕ
loop_count (Some s) = length s.loops.items
loop_count None = 0

-- the strips that a slice needs: of the pairs of the gap around the height, in order, and none if there is no gap
pub data AreStripsAt (z : ℤ) (S : Parts) : List Strip → Type 0 where
  in_gap : (g : ℕ) (pairs : List PairParts) → IsGapAt S z g → ArePairs S pairs
      → AreStripsAt z S (strips_in (pairs_in_gap g pairs))
  no_gap : ((g : ℕ) → IsGapAt S z g → ⊥) → AreStripsAt z S []

-- there is no gap around a height: it is outside, or that of a section
pub data IsHeightFault (S : Parts) (z : ℤ) : Fault → Type 0 where
  outside : IsOutside S z → IsHeightFault S z (Outside z)
  on_section : IsOnSection S z → IsHeightFault S z (OnSection z)

-- why there is no slice: the first fault of the sections; or, if they have none, that of the height
pub data IsSliceFault (S : Parts) (z : ℤ) : Fault → Type 0 where
  found : (fault : Fault) → IsFound S fault → IsSliceFault S z fault
  at_height : (fault : Fault) (pairs : List PairParts) → ArePairs S pairs → IsHeightFault S z fault
      → IsSliceFault S z fault
