-- A section text read one line after another: what a line says by itself, and the parts read so far.
use Rattle.std.specs.Prelude.{ℕ, zero, suc, ◌≡◌, Bool, true, false, ◌&&◌, List, [], ◌∷◌, ◌++◌, map, ℤ, pos, negsuc, Option, None, Some, if◌then◌else◌, codes, ⊤}
use Rattle.std.specs.List.{flat_map}
use Rattle.std.specs.Option.{option_and_then, option_map}
use Rattle.std.specs.Cmp.Lexicographic.{pointwise}
use Rattle.std.specs.Bool.{nat_eq}
use Rattle.fku_types.specs.Names.{is_name}
use Rattle.text_io.specs.Text.{number_of}
use Rattle.fku_types.specs.declared.rules.PairRule.{PairRule}
use Rattle.fku_types.specs.declared.rules.PairRule.TheVariants.{Overlap, Links}
use Rattle.section_core.specs.declared.parts.Version.{Version}
use Rattle.section_core.specs.declared.parts.Version.TheVariants.{One, Two}
use Rattle.section_core.specs.Parts.{Spot, CostParts, span, area, mix, ContourParts, SectionParts, LinkParts, ObjectParts, FileParts, is_read, only_name, version_line, cost_line, rule_line, object_line, point_line, link_line, end_line, asked}
use Rattle.text_io.specs.WordLists.{Word, text, number}

-- what a line says
pub data Item : Type 0 where
  version : Version → Item
  cost_is : CostParts → Item
  rule_is : PairRule → Item
  object : List ℕ → Item
  section : ℤ → Item
  contour : List ℕ → ℤ → Item
  point : Spot → Item
  link : LinkParts → Item
  finish : Item

abbrev pub item_line : Item → List Word
item_line (version v) = version_line v
item_line (cost_is cost) = cost_line cost
item_line (rule_is rule) = rule_line rule
item_line (object name) = object_line name
item_line (section z) = text (codes "SECTION") ∷ number z ∷ []
item_line (contour name count) = text (codes "CONTOUR") ∷ text name ∷ number count ∷ []
item_line (point p) = point_line p
item_line (link l) = link_line l
item_line finish = end_line

-- names of items are names
abbrev pub IsItem : Item → Type 0
IsItem (object name) = is_name name ≡ true
IsItem (contour name count) = is_name name ≡ true
IsItem (link l) = (is_name l.below ≡ true) × (is_name l.above ≡ true)
IsItem item = ⊤

abbrev pub contour_items : ContourParts → List Item
contour_items c = contour c.name c.count ∷ map point c.points

abbrev pub section_items : SectionParts → List Item
section_items s = section s.z ∷ flat_map contour_items s.contours

abbrev pub link_items : PairRule → List LinkParts → List Item
link_items Overlap links = []
link_items Links links = map link links

abbrev pub head_items : Version → CostParts → PairRule → List Item
head_items v cost rule = version v ∷ cost_is cost ∷ rule_is rule ∷ []

abbrev pub name_items : Version → List ℕ → List Item
name_items One name = []
name_items Two name = object name ∷ []

-- the items of sections and links
abbrev pub body_items : PairRule → List SectionParts → List LinkParts → List Item
body_items rule sections links = flat_map section_items sections ++ link_items rule links

abbrev pub object_items : Version → PairRule → ObjectParts → List Item
object_items v rule o = name_items v o.name ++ body_items rule o.sections o.links

-- the items of a text's parts
abbrev pub file_items : FileParts → List Item
file_items F = head_items F.version F.cost F.rule ++ flat_map (object_items F.version F.rule) F.objects ++ finish ∷ []

-- what has been read of an object: the last section and its last contour may still be open
pub data Body : Type 0 where
  bare : Body
  in_section : List SectionParts → ℤ → List ContourParts → Body
  -- the last contour lacks one point more than the last number says
  in_contour : List SectionParts → ℤ → List ContourParts → List ℕ → ℤ → List Spot → ℕ → Body
  in_links : List SectionParts → List LinkParts → Body

abbrev pub with_section : List SectionParts → ℤ → List ContourParts → List SectionParts
with_section front z contours = front ++ record { z = z; contours = contours } ∷ []

abbrev pub with_contour : List ContourParts → List ℕ → ℤ → List Spot → List ContourParts
with_contour contours name count points = contours ++ record { name = name; count = count; points = points } ∷ []

-- a contour begins; it is whole at once if its count asks for no point
abbrev pub opened : List SectionParts → ℤ → List ContourParts → List ℕ → ℤ → List Spot → ℕ → Body
opened front z contours name count points zero = in_section front z (with_contour contours name count points)
opened front z contours name count points (suc missing) = in_contour front z contours name count points missing

-- links come only under Links
abbrev pub linked : PairRule → List SectionParts → List LinkParts → LinkParts → Option Body
linked Overlap sections links l = None
linked Links sections links l = Some (in_links sections (links ++ l ∷ []))

-- an object after one more item, or none if the item has no place there
abbrev pub step : PairRule → Body → Item → Option Body
step rule bare (section z) = Some (in_section [] z [])
step rule bare (link l) = linked rule [] [] l
step rule (in_section front z contours) (section y) = Some (in_section (with_section front z contours) y [])
step rule (in_section front z contours) (contour name count) =
    Some (opened front z contours name count [] (asked count))
step rule (in_section front z contours) (link l) = linked rule (with_section front z contours) [] l
step rule (in_contour front z contours name count points missing) (point p) =
    Some (opened front z contours name count (points ++ p ∷ []) missing)
step rule (in_links sections links) (link l) = linked rule sections links l
step rule body item = None

-- what has been read of an object, as parts
abbrev pub sections_of : Body → List SectionParts
sections_of bare = []
sections_of (in_section front z contours) = with_section front z contours
sections_of (in_contour front z contours name count points missing) =
    with_section front z (with_contour contours name count points)
sections_of (in_links sections links) = sections

abbrev pub links_of : Body → List LinkParts
links_of (in_links sections links) = links
links_of body = []

abbrev pub object_of : List ℕ → Body → ObjectParts
object_of name body = record { name = name; sections = sections_of body; links = links_of body }

-- no contour lacks a point
abbrev pub is_whole : Body → Bool
is_whole (in_contour front z contours name count points missing) = false
is_whole body = true

-- what has been read of a text: the last object may still be open
pub data State : Type 0 where
  at_version : State
  at_cost : Version → State
  at_rule : Version → CostParts → State
  -- version 2, before its first object
  no_object : CostParts → PairRule → State
  in_object : Version → CostParts → PairRule → List ObjectParts → List ℕ → Body → State
  ended : FileParts → State

-- after the head: in version 1 the one object has begun
abbrev pub begun : Version → CostParts → PairRule → State
begun One cost rule = in_object One cost rule [] only_name bare
begun Two cost rule = no_object cost rule

-- the next object begins, only in version 2
abbrev pub next_object : Version → CostParts → PairRule → List ObjectParts → List ℕ → Option State
next_object One cost rule objects name = None
next_object Two cost rule objects name = Some (in_object Two cost rule objects name bare)

-- inside an object: the next one, END, or an item of this one
abbrev pub inside : Version → CostParts → PairRule → List ObjectParts → List ℕ → Body → Item → Option State
inside v cost rule front name body (object next) =
    if is_whole body then next_object v cost rule (front ++ object_of name body ∷ []) next else None
inside v cost rule front name body finish =
    if is_whole body then Some (ended
    (record { version = v; cost = cost; rule = rule; objects = front ++ object_of name body ∷ [] })) else None
inside v cost rule front name body item = option_map (in_object v cost rule front name) (step rule body item)

-- the state after one more item, or none if the item has no place there
abbrev pub advance : Version → State → Item → Option State
advance latest at_version (version v) = if is_read latest v then Some (at_cost v) else None
advance latest (at_cost v) (cost_is cost) = Some (at_rule v cost)
advance latest (at_rule v cost) (rule_is rule) = Some (begun v cost rule)
advance latest (no_object cost rule) (object name) = Some (in_object Two cost rule [] name bare)
advance latest (no_object cost rule) finish =
    Some (ended (record { version = Two; cost = cost; rule = rule; objects = [] }))
advance latest (in_object v cost rule front name body) item = inside v cost rule front name body item
advance latest state item = None

-- the state after items
abbrev pub run : Version → State → List Item → Option State
run latest state [] = Some state
run latest state (item ∷ items) = option_and_then (λ next. run latest next items) (advance latest state item)

-- the objects before any line that states one
abbrev pub first_objects : Version → List ObjectParts
first_objects One = object_of only_name bare ∷ []
first_objects Two = []

-- the parts read so far; a rule that is not read yet has any value
abbrev pub parts_of : State → FileParts
parts_of at_version = record { version = Two; cost = span; rule = Overlap; objects = [] }
parts_of (at_cost v) = record { version = v; cost = span; rule = Overlap; objects = first_objects v }
parts_of (at_rule v cost) = record { version = v; cost = cost; rule = Overlap; objects = first_objects v }
parts_of (no_object cost rule) = record { version = Two; cost = cost; rule = rule; objects = [] }
parts_of (in_object v cost rule front name body) =
    record { version = v; cost = cost; rule = rule; objects = front ++ object_of name body ∷ [] }
parts_of (ended parts) = parts

abbrev pub same : List ℕ → List ℕ → Bool
same bytes word = pointwise nat_eq bytes word

abbrev pub version_of : Option ℤ → Option Item
version_of None = None
version_of (Some (pos n)) = if nat_eq n 1 then Some (version One) else (if nat_eq n 2 then Some (version Two) else None)
version_of (Some (negsuc n)) = None

abbrev pub as_cost : List ℕ → Option Item
as_cost word = if same word (codes "span") then Some (cost_is span)
    else (if same word (codes "area") then Some (cost_is area) else None)

abbrev pub as_rule : List ℕ → Option Item
as_rule word = if same word (codes "overlap") then Some (rule_is Overlap)
    else (if same word (codes "links") then Some (rule_is Links) else None)

abbrev pub object_said : List ℕ → Option Item
object_said word = if is_name word then Some (object word) else None

-- two words: a point, or a keyword and a word
abbrev pub as_pair : Option ℤ → List ℕ → List ℕ → Option Item
as_pair (Some x) first second = option_map (λ y. point (x, y)) (number_of second)
as_pair None first second =
    if same first (codes "SECTION") then option_map section (number_of second)
    else (if same first (codes "OBJECT") then object_said second
    else (if same first (codes "SECTIONS") then version_of (number_of second)
    else (if same first (codes "COST") then as_cost second
    else (if same first (codes "PAIR") then as_rule second else None))))

-- three words: a contour or a link
abbrev pub triple_of : List ℕ → List ℕ → List ℕ → Option Item
triple_of first second third =
    if same first (codes "CONTOUR")
    then (if is_name second then option_map (contour second) (number_of third) else None)
    else (if same first (codes "LINK") && is_name second
    && is_name third then Some (link (record { below = second; above = third })) else None)

abbrev pub mix_of : Option ℤ → Option ℤ → Option Item
mix_of (Some a) (Some b) = Some (cost_is (mix a b))
mix_of a b = None

-- four words: a mix
abbrev pub quad_of : List ℕ → List ℕ → List ℕ → List ℕ → Option Item
quad_of first second third fourth =
    if same first (codes "COST") && same second (codes "mix") then mix_of (number_of third) (number_of fourth) else None

-- what a line says by itself; none for a line that is in no section text
abbrev pub item_of : List (List ℕ) → Option Item
item_of [] = None
item_of (a ∷ []) = if same a (codes "END") then Some finish else None
item_of (a ∷ b ∷ []) = as_pair (number_of a) a b
item_of (a ∷ b ∷ c ∷ []) = triple_of a b c
item_of (a ∷ b ∷ c ∷ d ∷ []) = quad_of a b c d
item_of (a ∷ b ∷ c ∷ d ∷ e ∷ more) = None
