-- The parts of a section text and the lines that stand for them.
use Rattle.std.specs.Prelude.{ℕ, ◌≡◌, Bool, true, false, List, [], ◌∷◌, ◌++◌, map, length, ℤ, pos, negsuc, codes}
use Rattle.std.specs.List.{flat_map, AllByRecursion}
use Rattle.fku_types.specs.Names.{is_name}
use Rattle.text_io.specs.WordLists.{Word, text, number}
use Rattle.fku_types.specs.declared.rules.PairRule.{PairRule}
use Rattle.fku_types.specs.declared.rules.PairRule.TheVariants.{Overlap, Links}
use Rattle.section_core.specs.declared.parts.Version.{Version}
use Rattle.section_core.specs.declared.parts.Version.TheVariants.{One, Two}

-- a point of a contour, x and y
abbrev pub Spot : Type 0
Spot = ℤ × ℤ

-- a contour: its name, the stated count of points, and the points
pub record ContourParts : Type 0 where
  pub name : List ℕ
  pub count : ℤ
  pub points : List Spot

-- a section: its height, and its contours
pub record SectionParts : Type 0 where
  pub z : ℤ
  pub contours : List ContourParts

-- a cost rule: the weights of a mix are any integers
pub data CostParts : Type 0 where
  span : CostParts
  area : CostParts
  mix : ℤ → ℤ → CostParts

-- a link: the name of the lower contour, and that of the upper one
pub record LinkParts : Type 0 where
  pub below : List ℕ
  pub above : List ℕ

-- the parts of one object: the rules, and its sections and links
pub record Parts : Type 0 where
  pub cost : CostParts
  pub rule : PairRule
  pub sections : List SectionParts
  pub links : List LinkParts

-- an object of a text: its name, its sections, and its links
pub record ObjectParts : Type 0 where
  pub name : List ℕ
  pub sections : List SectionParts
  pub links : List LinkParts

-- the parts of a whole text
pub record FileParts : Type 0 where
  pub version : Version
  pub cost : CostParts
  pub rule : PairRule
  pub objects : List ObjectParts

-- the number in the first line
abbrev pub version_number : Version → ℕ
version_number One = 1
version_number Two = 2

-- whether a reader of versions up to the latest reads a version
abbrev pub is_read : Version → Version → Bool
is_read One One = true
is_read One Two = false
is_read Two version = true

-- the name of the one object of version 1, which no line states
abbrev pub only_name : List ℕ
only_name = codes "object"

-- one object as a text of version 1
abbrev pub as_file : Parts → FileParts
as_file S = record {
  version = One;
  cost = S.cost;
  rule = S.rule;
  objects = record { name = only_name; sections = S.sections; links = S.links } ∷ [];
}

-- how many points a stated count asks for: 0 for a negative count
abbrev pub asked : ℤ → ℕ
asked (pos n) = n
asked (negsuc n) = 0

-- the contours of sections, in file order
abbrev pub contours_of : List SectionParts → List ContourParts
contours_of sections = flat_map (λ s. s.contours) sections

-- the sections of objects, in file order
abbrev pub all_sections : List ObjectParts → List SectionParts
all_sections objects = flat_map (λ o. o.sections) objects

-- a contour has a name, and as many points as its count asks for
abbrev pub IsCountedContour : ContourParts → Type 0
IsCountedContour c = (is_name c.name ≡ true) × (length c.points ≡ asked c.count)

abbrev pub IsLink : LinkParts → Type 0
IsLink l = (is_name l.below ≡ true) × (is_name l.above ≡ true)

-- there are links only under Links
abbrev pub IsLinked : PairRule → List LinkParts → Type 0
IsLinked Overlap links = links ≡ []
IsLinked Links links = AllByRecursion IsLink links

-- parts that can be written as lines, whatever their numbers are
pub record IsParts (S : Parts) : Type 0 where
  pub contours : AllByRecursion IsCountedContour (contours_of S.sections)
  pub links : IsLinked S.rule S.links

-- version 1 has one object, of one name; in version 2 objects have any names
abbrev pub AreObjects : Version → List ObjectParts → Type 0
AreObjects One objects = (o : ObjectParts) × (objects ≡ o ∷ []) × (o.name ≡ only_name)
AreObjects Two objects = AllByRecursion (λ o. is_name o.name ≡ true) objects

-- a text's parts that can be written as lines, whatever their numbers are
pub record IsFile (F : FileParts) : Type 0 where
  pub objects : AreObjects F.version F.objects
  pub contours : AllByRecursion IsCountedContour (contours_of (all_sections F.objects))
  pub links : AllByRecursion (λ o. IsLinked F.rule o.links) F.objects

abbrev pub rule_word : PairRule → List ℕ
rule_word Overlap = codes "overlap"
rule_word Links = codes "links"

abbrev pub point_line : Spot → List Word
point_line p = number p.0 ∷ number p.1 ∷ []

abbrev pub contour_lines : ContourParts → List (List Word)
contour_lines c = (text (codes "CONTOUR") ∷ text c.name ∷ number c.count ∷ []) ∷ map point_line c.points

abbrev pub section_lines : SectionParts → List (List Word)
section_lines s = (text (codes "SECTION") ∷ number s.z ∷ []) ∷ flat_map contour_lines s.contours

abbrev pub link_line : LinkParts → List Word
link_line l = text (codes "LINK") ∷ text l.below ∷ text l.above ∷ []

abbrev pub link_lines : PairRule → List LinkParts → List (List Word)
link_lines Overlap links = []
link_lines Links links = map link_line links

abbrev pub version_line : Version → List Word
version_line version = text (codes "SECTIONS") ∷ number (pos (version_number version)) ∷ []

abbrev pub cost_line : CostParts → List Word
cost_line span = text (codes "COST") ∷ text (codes "span") ∷ []
cost_line area = text (codes "COST") ∷ text (codes "area") ∷ []
cost_line (mix a b) = text (codes "COST") ∷ text (codes "mix") ∷ number a ∷ number b ∷ []

abbrev pub rule_line : PairRule → List Word
rule_line rule = text (codes "PAIR") ∷ text (rule_word rule) ∷ []

abbrev pub head_lines : Version → CostParts → PairRule → List (List Word)
head_lines version cost rule = version_line version ∷ cost_line cost ∷ rule_line rule ∷ []

abbrev pub object_line : List ℕ → List Word
object_line name = text (codes "OBJECT") ∷ text name ∷ []

-- in version 2 an object begins with its name
abbrev pub name_lines : Version → List ℕ → List (List Word)
name_lines One name = []
name_lines Two name = object_line name ∷ []

-- the lines of sections and links
abbrev pub body_lines : PairRule → List SectionParts → List LinkParts → List (List Word)
body_lines rule sections links = flat_map section_lines sections ++ link_lines rule links

abbrev pub object_lines : Version → PairRule → ObjectParts → List (List Word)
object_lines version rule o = name_lines version o.name ++ body_lines rule o.sections o.links

abbrev pub end_line : List Word
end_line = text (codes "END") ∷ []

-- the word lists of a text of these parts
abbrev pub file_lines : FileParts → List (List Word)
file_lines F = head_lines F.version F.cost F.rule ++ flat_map (object_lines F.version F.rule) F.objects ++ end_line ∷ []

-- the same for one object as a text of version 1
abbrev pub part_lines : Parts → List (List Word)
part_lines S = file_lines (as_file S)
