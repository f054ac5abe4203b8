-- The pairs of some gaps, and the findings of some sections.
use Rattle.std.specs.Prelude.{◌≡◌, ℕ, ◌+◌, ◌<◌, List, [], length, map, slice_index_or, All, Result, MatchResult, Vec}
use Rattle.std.specs.Global.{Global}
use Rattle.fku_types.specs.declared.fault.Fault.{Fault}
use Rattle.strip_graph.specs.Strips.{IsStrip}
use Rattle.section_core.specs.Parts.{Parts}
use Rattle.section_core.specs.Flat.{SectionData}
use Rattle.correspondence.specs.Components.{Members}
use Rattle.correspondence.specs.Gaps.{AreGapMembers}
use Rattle.section_pairs.specs.declared.gap_pairs.GapPair.{GapPair}
use Rattle.section_pairs.specs.declared.findings.Findings.{Findings}
use Rattle.section_pairs.specs.Pairs.{PairParts, pair_parts, pairs_from, sides_from, IsShort}
use Rattle.section_pairs.specs.SectionFaults.{IsFirstFault, HasLongSide, OrNoMemory, IsSimpleContour, HasSelfCrossing, IsApartSection, HasCrossing, data_contours}

-- the components of the gaps b to e - 1
pub record AreGapsIn (S : Parts) (b e : ℕ) (gaps : List (List Members)) : Type 0 where
  pub count : b + length gaps ≡ e
  pub components : (k : ℕ) → k < length gaps → AreGapMembers S (b + k) (slice_index_or gaps k [])

-- the pairs of these gaps, if no composite is too long
pub record ArePairsIn (S : Parts) (b e : ℕ) (ps : List PairParts) : Type 0 where
  pub gaps : List (List Members)
  pub are_gaps : AreGapsIn S b e gaps
  pub short : All IsShort (sides_from S b gaps)
  pub pairs : ps ≡ pairs_from S b gaps

-- the first composite of these gaps that is too long: by gap, by component, and below before above
pub record IsSideFaultIn (S : Parts) (b e : ℕ) (fault : Fault) : Type 0 where
  pub gaps : List (List Members)
  pub are_gaps : AreGapsIn S b e gaps
  pub first : IsFirstFault IsShort HasLongSide (sides_from S b gaps) fault

-- these pairs as the code holds them, each with its strip
abbrev pub AreHeldIn : Parts → ℕ → ℕ → List GapPair → Type 0
AreHeldIn S b e ps = ArePairsIn S b e (map pair_parts ps) × All (λ p. IsStrip p.pair) ps

-- the result for these gaps: their pairs, the first composite that is too long, or `NoMemory`
abbrev pub IsGapResult : Parts → ℕ → ℕ → Result (Vec GapPair Global) Fault → Type 0
IsGapResult S b e r = MatchResult r (λ v. AreHeldIn S b e v.items) (OrNoMemory (IsSideFaultIn S b e))

-- the results of the tests of sections xs, and of the pairs of the gaps b to e - 1
pub record AreFindings (S : Parts) (xs : List SectionData) (b e : ℕ) (f : Findings) : Type 0 where
  pub simple : MatchResult f.simple (λ _. All IsSimpleContour (data_contours xs))
      (IsFirstFault IsSimpleContour HasSelfCrossing (data_contours xs))
  pub apart : MatchResult f.apart (λ _. All IsApartSection xs) (IsFirstFault IsApartSection HasCrossing xs)
  pub pairs : IsGapResult S b e f.pairs
