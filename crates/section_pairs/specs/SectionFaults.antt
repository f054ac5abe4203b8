-- The first fault that sections have beyond their text.
use Rattle.std.specs.Prelude.{◌≡◌, ◌⊎◌, ℕ, ◌<◌, List, ◌∷◌, ◌++◌, length, map, All}
use Rattle.std.specs.List.{flat_map}
use Rattle.fku_types.specs.declared.limits.TheConstants.{MAX_COMPOSITE_VERTICES}
use Rattle.fku_types.specs.declared.points.Point.{Point}
use Rattle.fku_types.specs.declared.fault.Fault.{Fault}
use Rattle.fku_types.specs.declared.fault.Fault.TheVariants.{Composite, Link, NoMemory}
use Rattle.fku_types.specs.declared.fault.LinkCause.{LinkCause}
use Rattle.section_core.specs.Parts.{Parts}
use Rattle.section_core.specs.ValidSections.{section_of}
use Rattle.section_core.specs.Flat.{ContourData, SectionData}
use Rattle.correspondence.specs.Simple.{IsSimple, IsSelfCrossing}
use Rattle.correspondence.specs.Apart.{AreApart, IsCrossing}
use Rattle.correspondence.specs.Components.{Members}
use Rattle.correspondence.specs.Links.{AreGood, IsFirstBad}
use Rattle.section_pairs.specs.Pairs.{PairParts, AreGaps, IsShort, pairs_from, sides_from}

-- the first item of a list that is not good, and its fault
pub record IsFirstFault {X : Type 0} (Good : X → Type 0) (Has : X → Fault → Type 0) (xs : List X)
    (fault : Fault) : Type 0 where
  pub before : List X
  pub item : X
  pub after : List X
  pub split : xs ≡ before ++ item ∷ after
  pub good_before : All Good before
  pub has : Has item fault

-- the contours of sections, in file order
abbrev pub data_contours : List SectionData → List ContourData
data_contours sections = flat_map (λ (s : SectionData). s.1) sections

-- it is `NoMemory`, or one of these faults
abbrev pub OrNoMemory : (Fault → Type 0) → Fault → Type 0
OrNoMemory Is fault = (fault ≡ NoMemory) ⊎ Is fault

-- the names of a section's contours, and their points
abbrev pub names_in : SectionData → List (List ℕ)
names_in s = map (λ (c : ContourData). c.0) s.1

abbrev pub outlines_in : SectionData → List (List Point)
outlines_in s = map (λ (c : ContourData). c.1) s.1

abbrev pub IsSimpleContour : ContourData → Type 0
IsSimpleContour c = IsSimple c.1

abbrev pub HasSelfCrossing : ContourData → Fault → Type 0
HasSelfCrossing c fault = IsSelfCrossing c.0 c.1 fault

abbrev pub IsApartSection : SectionData → Type 0
IsApartSection s = AreApart (outlines_in s)

abbrev pub HasCrossing : SectionData → Fault → Type 0
HasCrossing s fault = IsCrossing (names_in s) (outlines_in s) fault

-- every contour is simple, and no two contours of a section share a point
pub record AreSound (sections : List SectionData) : Type 0 where
  pub simple : All IsSimpleContour (data_contours sections)
  pub apart : All IsApartSection sections

-- the first contour that is not simple; or, if all are, the first section whose contours are not apart
pub record IsLaterFault (sections : List SectionData) (fault : Fault) : Type 0 where
  pub simple : All IsSimpleContour (data_contours sections)
  pub first : IsFirstFault IsApartSection HasCrossing sections fault

abbrev pub IsContourFault : List SectionData → Fault → Type 0
IsContourFault sections fault =
    IsFirstFault IsSimpleContour HasSelfCrossing (data_contours sections) fault ⊎ IsLaterFault sections fault

-- the fault has the section and the size of a composite that is too long
abbrev pub HasLongSide : ℕ × ℕ → Fault → Type 0
HasLongSide side (Composite section count) = (section ≡ side.0) × (count ≡ side.1) × (MAX_COMPOSITE_VERTICES < count)
HasLongSide side _ = ⊥

-- a composite is too long, and this is its fault; or it is `NoMemory`, and the composite is not
abbrev pub IsComposeFault : ℕ × ℕ → Fault → Type 0
IsComposeFault side fault = HasLongSide side fault ⊎ ((fault ≡ NoMemory) × IsShort side)

-- `NoMemory` comes only if contours and sections have no fault, since their tests take no memory
abbrev pub IsLateMemory : Parts → Fault → Type 0
IsLateMemory S fault = fault ≡ NoMemory → AreSound (map section_of S.sections)

-- contours and sections have no fault, and all links are good
pub record AreWellLinked (S : Parts) : Type 0 where
  pub sound : AreSound (map section_of S.sections)
  pub links : AreGood S (length S.links)

-- the first composite that is too long: by gap, by component, and below before above
pub record IsSideFault (S : Parts) (fault : Fault) : Type 0 where
  pub gaps : List (List Members)
  pub are_gaps : AreGaps S gaps
  pub first : IsFirstFault IsShort HasLongSide (sides_from S 0 gaps) fault

-- the first fault of sections beyond their text: of contours and sections, else of a link, else of a composite
pub data IsFound (S : Parts) : Fault → Type 0 where
  in_contours : (fault : Fault) → IsContourFault (map section_of S.sections) fault → IsFound S fault
  in_links : (below above : List ℕ) (cause : LinkCause) (k : ℕ) → AreSound (map section_of S.sections)
      → IsFirstBad S k below above cause → IsFound S (Link below above cause)
  in_composites : (fault : Fault) → AreWellLinked S → IsSideFault S fault → IsFound S fault

-- what `pairs` refuses: it is `NoMemory`, or this is the first fault
abbrev pub IsPairsFault : Parts → Fault → Type 0
IsPairsFault S fault = OrNoMemory (IsFound S) fault

-- the pairs of sections without a fault, by gap and component
pub record ArePairs (S : Parts) (ps : List PairParts) : Type 0 where
  pub linked : AreWellLinked S
  pub gaps : List (List Members)
  pub are_gaps : AreGaps S gaps
  pub short : All IsShort (sides_from S 0 gaps)
  pub pairs : ps ≡ pairs_from S 0 gaps
