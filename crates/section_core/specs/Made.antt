-- Parts that a caller passes in, one piece after another in text order, and their first fault.
use Rattle.std.specs.Prelude.{◌≡◌, ℕ, ◌<◌, ◌&&◌, Bool, true, false, List, [], ◌∷◌, ◌++◌, map, length, ℤ, pos, Option, None, Some, Result, Ok, Err, if◌then◌else◌}
use Rattle.std.specs.Ordering.{int_eq}
use Rattle.std.specs.List.{flat_map, AllByRecursion}
use Rattle.fku_types.specs.declared.points.Point.{Point}
use Rattle.fku_types.specs.declared.rules.PairRule.{PairRule}
use Rattle.fku_types.specs.declared.rules.PairRule.TheVariants.{Overlap}
use Rattle.fku_types.specs.declared.fault.Fault.{Fault}
use Rattle.fku_types.specs.declared.fault.Fault.TheVariants.{NoMemory, Form, NoContours}
use Rattle.section_core.specs.declared.parts.Contour.{Contour}
use Rattle.section_core.specs.declared.parts.Section.{Section}
use Rattle.section_core.specs.declared.parts.Link.{Link}
use Rattle.section_core.specs.declared.tally.Tally.{Tally}
use Rattle.fku_types.specs.Names.{is_name}
use Rattle.section_core.specs.Parts.{CostParts, contours_of}
use Rattle.section_core.specs.Laws.{Facts, Law, in_range, law_order, KeepsAll, BreaksFirst}
use Rattle.section_core.specs.Reading.{broken, fault_at}
use Rattle.section_core.specs.Machine.{Item, cost_is, section, contour, point, link}
use Rattle.section_core.specs.Steps.{after, first_broken, is_coordinate}
use Rattle.section_core.specs.Tallies.{Tallies}
use Rattle.section_core.specs.Views.{spot_of, section_parts, link_parts}

-- an item, or a point that is not at the height of its section
pub data Piece : Type 0 where
  whole : Item → Piece
  askew : Piece

abbrev pub point_piece : ℤ → Point → Piece
point_piece z p = if int_eq p.z z then whole (point (spot_of p)) else askew

abbrev pub contour_pieces : ℤ → Contour → List Piece
contour_pieces z c = whole (contour c.name (pos (length c.points.items))) ∷ map (point_piece z) c.points.items

abbrev pub section_pieces : Section → List Piece
section_pieces s = whole (section s.z) ∷ flat_map (contour_pieces s.z) s.contours.items

abbrev pub link_piece : Link → Piece
link_piece l = whole (link (link_parts l))

-- the pieces in text order; links come last under either rule
abbrev pub pieces_of : CostParts → List Section → List Link → List Piece
pieces_of cost sections links = whole (cost_is cost) ∷ (flat_map section_pieces sections ++ map link_piece links)

-- one object, of which nothing has been passed yet
abbrev pub nothing : Facts
nothing = record {
  objects = [];
  heights = [] ∷ [];
  names = [];
  counts = [];
  points = [];
  weights = [];
  sums = [];
  links = 0;
}

abbrev pub facts_after : Facts → List Item → Facts
facts_after f [] = f
facts_after f (item ∷ items) = facts_after (after f item) items

-- The piece breaks this law first, after items that break none.
abbrev pub PieceBreaks : Facts → Piece → Law → Type 0
PieceBreaks f askew law = law ≡ in_range
PieceBreaks f (whole item) law = BreaksFirst law (after f item)

-- The first piece at fault, after whole ones that break no law.
pub record HasPieceFault (pieces : List Piece) (law : Law) : Type 0 where
  pub before : List Item
  pub piece : Piece
  pub rest : List Piece
  pub split : pieces ≡ map whole before ++ piece ∷ rest
  pub lawful_before : KeepsAll law_order (facts_after nothing before)
  pub breaks : PieceBreaks (facts_after nothing before) piece law

-- No piece is at fault.
pub record ArePiecesLawful (pieces : List Piece) : Type 0 where
  pub items : List Item
  pub split : pieces ≡ map whole items
  pub lawful : KeepsAll law_order (facts_after nothing items)

-- The pieces have this fault; `NoMemory` is not a fault of pieces.
abbrev pub IsPieceFault : List Piece → Fault → Type 0
IsPieceFault pieces NoMemory = Unit {0}
IsPieceFault pieces fault = (law : Law) × HasPieceFault pieces law × (fault ≡ fault_at (broken law) 0)

-- The pieces contain a contour such that neither it nor a piece before it is at fault.
pub record KeepsName (pieces : List Piece) : Type 0 where
  pub before : List Item
  pub name : List ℕ
  pub count : ℤ
  pub rest : List Piece
  pub split : pieces ≡ map whole before ++ whole (contour name count) ∷ rest
  pub lawful : KeepsAll law_order (after (facts_after nothing before) (contour name count))

-- Memory runs out only while the name of such a contour is stored.
abbrev pub IsMakeMemory : List Piece → Fault → Type 0
IsMakeMemory pieces fault = fault ≡ NoMemory → KeepsName pieces

-- The parts have this fault; `NoMemory` is not a fault of parts.
abbrev pub IsMakeFault : CostParts → PairRule → List Section → List Link → Fault → Type 0
IsMakeFault cost rule sections links NoMemory = Unit {0}
IsMakeFault cost rule sections links (Form n) =
    (n ≡ 0) × (rule ≡ Overlap) × (0 < length links) × ArePiecesLawful (pieces_of cost sections links)
IsMakeFault cost rule sections links NoContours =
    (contours_of (map section_parts sections) ≡ []) × (rule ≡ Overlap → links ≡ [])
    × ArePiecesLawful (pieces_of cost sections links)
IsMakeFault cost rule sections links fault = IsPieceFault (pieces_of cost sections links) fault

-- The result is this fault, unless memory runs out.
abbrev pub Refuses : {T : Type 0} → Fault → Result T Fault → Type 0
Refuses NoMemory r = Unit {0}
Refuses fault (Ok v) = ⊥
Refuses fault (Err NoMemory) = Unit {0}
Refuses fault (Err told) = told ≡ fault

-- The result is no fault, unless memory runs out.
abbrev pub Accepts : {T : Type 0} → Result T Fault → Type 0
Accepts (Ok v) = Unit {0}
Accepts (Err fault) = fault ≡ NoMemory

-- one piece after another: the facts at the end, or the first law that is broken
abbrev pub walked : Option Law → Result Facts Law → Result Facts Law
walked None r = r
walked (Some law) r = Err law

abbrev pub walk : Facts → List Piece → Result Facts Law
walk f [] = Ok f
walk f (askew ∷ more) = Err in_range
walk f (whole item ∷ more) = walked (first_broken f item) (walk (after f item) more)

-- whether the name of a contour is stored on the way, before any piece at fault; only that takes memory
abbrev pub kept_by : Option Law → Item → Bool → Bool
kept_by (Some law) item more = false
kept_by None (contour name count) more = true
kept_by None item more = more

abbrev pub keeps_name : Facts → List Piece → Bool
keeps_name f [] = false
keeps_name f (askew ∷ more) = false
keeps_name f (whole item ∷ more) = kept_by (first_broken f item) item (keeps_name (after f item) more)

-- the code returns this, with the tally of the facts; memory may run out where it is taken
abbrev pub AnswersWalk : Bool → Result Facts Law → Result (Unit {0}) Fault → Tally → Type 0
AnswersWalk asks (Ok f) (Ok u) t = Tallies t f
AnswersWalk asks w (Err NoMemory) t = asks ≡ true
AnswersWalk asks (Err law) (Err fault) t = fault ≡ fault_at (broken law) 0
AnswersWalk asks (Ok f) (Err fault) t = ⊥
AnswersWalk asks (Err law) (Ok u) t = ⊥

abbrev pub Walks : Facts → List Piece → Result (Unit {0}) Fault → Tally → Type 0
Walks f pieces r t = AnswersWalk (keeps_name f pieces) (walk f pieces) r t

-- the point is at this height, and in its range
abbrev pub is_good : ℤ → Point → Bool
is_good z p = int_eq p.z z && (is_coordinate p.x && is_coordinate p.y)

-- the names are names
abbrev pub IsNamed : Contour → Type 0
IsNamed c = is_name c.name ≡ true

abbrev pub AreNamed : Section → Type 0
AreNamed s = AllByRecursion IsNamed s.contours.items

abbrev pub IsLinkNamed : Link → Type 0
IsLinkNamed l = (is_name l.below ≡ true) × (is_name l.above ≡ true)
