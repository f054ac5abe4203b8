-- The laws that parts keep, and the order in which they are tested.
use Rattle.std.specs.Prelude.{ℕ, ◌≡◌, ◌≤◌, ⊤, List, [], ◌∷◌, map, length, take, Some, slice_get, ℤ, pos, ◌≤ℤ◌, ◌<ℤ◌}
use Rattle.std.specs.List.{flat_map, AllByRecursion, sum_by}
use Rattle.fku_types.specs.declared.limits.TheConstants.{MAX_CONTOURS, MAX_CONTOUR_VERTICES, MAX_LINKS, MAX_OBJECTS, MAX_SECTIONS, MAX_SECTION_VERTICES, MAX_VERTICES}
use Rattle.fku_types.specs.Points.{IsCoordinate}
use Rattle.fku_types.specs.declared.rules.CostRule.TheVariants.{Mix}
use Rattle.fku_types.specs.Rules.{IsWeighted}
use Rattle.fku_types.specs.declared.fault.LimitName.{LimitName}
use Rattle.fku_types.specs.declared.fault.LimitName.TheVariants.{Bytes, Sections, Contours, Vertices, SectionVertices, ContourVertices, Links, Edits, Objects}
use Rattle.section_core.specs.declared.parts.Version.{Version}
use Rattle.section_core.specs.declared.parts.Version.TheVariants.{One, Two}
use Rattle.section_core.specs.Parts.{Spot, CostParts, span, area, mix, Parts, SectionParts, ObjectParts, FileParts, asked, contours_of, all_sections}

abbrev pub IsSpot : Spot → Type 0
IsSpot p = IsCoordinate p.0 × IsCoordinate p.1

-- two numbers that are the weights of a cost rule
abbrev pub AreWeights : ℤ → ℤ → Type 0
AreWeights (pos a) (pos b) = IsWeighted (Mix a b)
AreWeights a b = ⊥

abbrev pub IsMix : ℤ × ℤ → Type 0
IsMix w = AreWeights w.0 w.1

-- no name occurs twice
abbrev pub AreDistinct : List (List ℕ) → Type 0
AreDistinct [] = ⊤
AreDistinct (name ∷ more) = AllByRecursion (λ other. name ≡ other → ⊥) more × AreDistinct more

-- each number is above the one before
abbrev pub AreRising : List ℤ → Type 0
AreRising [] = ⊤
AreRising (z ∷ []) = ⊤
AreRising (y ∷ z ∷ more) = (y <ℤ z) × AreRising (z ∷ more)

-- the weights of a cost rule, if it has any
abbrev pub weights : CostParts → List (ℤ × ℤ)
weights span = []
weights area = []
weights (mix a b) = (a, b) ∷ []

abbrev pub heights : List SectionParts → List ℤ
heights sections = map (λ s. s.z) sections

abbrev pub names : List SectionParts → List (List ℕ)
names sections = map (λ c. c.name) (contours_of sections)

-- the stated counts of points
abbrev pub counts : List SectionParts → List ℤ
counts sections = map (λ c. c.count) (contours_of sections)

abbrev pub points : List SectionParts → List Spot
points sections = flat_map (λ c. c.points) (contours_of sections)

-- how many vertices the contours of a section state
abbrev pub section_vertices : SectionParts → ℕ
section_vertices s = sum_by (λ c. asked c.count) s.contours

-- what the laws need of a text's parts: each list in file order
pub record Facts : Type 0 where
  -- the names of objects that lines state
  pub objects : List (List ℕ)
  -- the heights of each object's sections
  pub heights : List (List ℤ)
  pub names : List (List ℕ)
  pub counts : List ℤ
  pub points : List Spot
  -- the weights of the cost rule
  pub weights : List (ℤ × ℤ)
  -- the vertices that each section states
  pub sums : List ℕ
  pub links : ℕ

-- version 1 states no name of an object
abbrev pub told_names : Version → List ObjectParts → List (List ℕ)
told_names One objects = []
told_names Two objects = map (λ o. o.name) objects

abbrev pub facts : FileParts → Facts
facts F = record {
  objects = told_names F.version F.objects;
  heights = map (λ o. heights o.sections) F.objects;
  names = names (all_sections F.objects);
  counts = counts (all_sections F.objects);
  points = points (all_sections F.objects);
  weights = weights F.cost;
  sums = map section_vertices (all_sections F.objects);
  links = sum_by (λ o. length o.links) F.objects;
}

-- the laws, except the form of the lines
pub data Law : Type 0 where
  in_range : Law
  name_once : Law
  rising : Law
  within : LimitName → Law

-- as many points as a contour may have
abbrev pub IsPointCount : ℤ → Type 0
IsPointCount k = (pos 3 ≤ℤ k) × (k ≤ℤ pos MAX_CONTOUR_VERTICES)

-- the limits, counted over all objects
abbrev pub KeepsLimit : LimitName → Facts → Type 0
KeepsLimit ContourVertices f = AllByRecursion IsPointCount f.counts
KeepsLimit SectionVertices f = AllByRecursion (λ n. n ≤ MAX_SECTION_VERTICES) f.sums
KeepsLimit Vertices f = sum_by asked f.counts ≤ MAX_VERTICES
KeepsLimit Contours f = length f.names ≤ MAX_CONTOURS
KeepsLimit Sections f = sum_by length f.heights ≤ MAX_SECTIONS
KeepsLimit Links f = f.links ≤ MAX_LINKS
KeepsLimit Objects f = length f.objects ≤ MAX_OBJECTS
KeepsLimit Bytes f = ⊤
KeepsLimit Edits f = ⊤

-- contours have different names, and so have objects; heights rise within each object
abbrev pub Keeps : Law → Facts → Type 0
Keeps in_range f = AllByRecursion (AllByRecursion IsCoordinate) f.heights × AllByRecursion IsSpot f.points
    × AllByRecursion IsMix f.weights
Keeps name_once f = AreDistinct f.names × AreDistinct f.objects
Keeps rising f = AllByRecursion AreRising f.heights
Keeps (within limit) f = KeepsLimit limit f

-- the order in which the faults of a line are reported
abbrev pub law_order : List Law
law_order = in_range ∷ name_once ∷ rising
    ∷ within ContourVertices ∷ within SectionVertices ∷ within Vertices ∷ within Contours
    ∷ within Sections ∷ within Links ∷ within Objects ∷ []

abbrev pub KeepsAll : List Law → Facts → Type 0
KeepsAll laws f = AllByRecursion (λ law. Keeps law f) laws

-- the facts keep the laws before this one, and not this one
abbrev pub BreaksFirst : Law → Facts → Type 0
BreaksFirst law f = (k : ℕ) × (slice_get law_order k ≡ Some law) × KeepsAll (take k law_order) f × (Keeps law f → ⊥)

-- ranges, distinct names, rising heights and limits hold
abbrev pub IsLawfulFile : FileParts → Type 0
IsLawfulFile F = KeepsAll law_order (facts F)

-- the same for one object
pub record IsLawful (S : Parts) : Type 0 where
  pub in_range : AllByRecursion IsCoordinate (heights S.sections)
  pub spots : AllByRecursion IsSpot (points S.sections)
  pub weighted : AllByRecursion IsMix (weights S.cost)
  pub apart : AreDistinct (names S.sections)
  pub rising : AreRising (heights S.sections)
  pub counted : AllByRecursion IsPointCount (counts S.sections)
  pub small : AllByRecursion (λ n. n ≤ MAX_SECTION_VERTICES) (map section_vertices S.sections)
  pub few_vertices : sum_by asked (counts S.sections) ≤ MAX_VERTICES
  pub few_contours : length (names S.sections) ≤ MAX_CONTOURS
  pub few_sections : length (heights S.sections) ≤ MAX_SECTIONS
  pub few_links : length S.links ≤ MAX_LINKS
