-- How a line reads as an edit: a relation between whole lines and edits.
use Rattle.std.specs.Prelude.{ℕ, ℤ, ◌≡◌, ◌<◌, ◌^◌, true, List, [], ◌∷◌, length, pos, codes}
use Rattle.std.specs.List.{flat_map, AllByRecursion}
use Rattle.fku_types.specs.declared.points.Spot.{Spot}
use Rattle.fku_types.specs.Names.{is_name}
use Rattle.text_io.specs.Text.{words}
use Rattle.text_io.specs.WordLists.{Word, Line, text, number, Matches}
use Rattle.section_core.specs.Steps.{is_coordinate}
use Rattle.section_edits.specs.declared.edit.Edit.{Edit}
use Rattle.section_edits.specs.declared.edit.Edit.TheVariants.{Move, Insert, Remove, AddContour, RemoveContour}
use Rattle.section_edits.specs.declared.edit.EditFault.{EditFault}
use Rattle.section_edits.specs.declared.edit.EditFault.TheVariants.{EditForm, NoMemory}

-- a point of a new contour is two numbers
abbrev pub spot_words : Spot → List Word
spot_words p = number p.x ∷ number p.y ∷ []

-- the words of the line that stands for an edit
abbrev pub edit_words : Edit → List Word
edit_words (Move name index x y) = text (codes "MOVE") ∷ text name ∷ number (pos index) ∷ number x ∷ number y ∷ []
edit_words (Insert name index x y) = text (codes "INSERT") ∷ text name ∷ number (pos index) ∷ number x ∷ number y ∷ []
edit_words (Remove name index) = text (codes "REMOVE") ∷ text name ∷ number (pos index) ∷ []
edit_words (AddContour z name points) =
    text (codes "ADD") ∷ number z ∷ text name ∷ number (pos (length points)) ∷ flat_map spot_words points
edit_words (RemoveContour name) = text (codes "DROP") ∷ text name ∷ []

abbrev pub IsName : List ℕ → Type 0
IsName name = is_name name ≡ true

-- an index, or a count of points, is below 2 ^ 32
abbrev pub IsIndex : ℕ → Type 0
IsIndex n = n < 2 ^ 32

-- a coordinate or a height is in range
abbrev pub InRange : ℤ → Type 0
InRange z = is_coordinate z ≡ true

abbrev pub IsSpotInRange : Spot → Type 0
IsSpotInRange p = InRange p.x × InRange p.y

-- an edit that a line may stand for: names are names, indices and counts below 2 ^ 32, coordinates and heights in range
abbrev pub IsWritableEdit : Edit → Type 0
IsWritableEdit (Move name index x y) = IsName name × IsIndex index × InRange x × InRange y
IsWritableEdit (Insert name index x y) = IsName name × IsIndex index × InRange x × InRange y
IsWritableEdit (Remove name index) = IsName name × IsIndex index
IsWritableEdit (AddContour z name points) =
    InRange z × IsName name × IsIndex (length points) × AllByRecursion IsSpotInRange points
IsWritableEdit (RemoveContour name) = IsName name

-- the words of a line are those of an edit: keywords and names byte for byte, numbers by value
abbrev pub ReadsAsEdit : Line → Edit → Type 0
ReadsAsEdit line e = Matches line (edit_words e) × IsWritableEdit e

-- they are those of no edit
abbrev pub IsNoEdit : Line → Type 0
IsNoEdit line = (e : Edit) → ReadsAsEdit line e → ⊥

-- what the reader of a line refuses; `NoMemory` is not a fault of a line
abbrev pub IsLineFault : List ℕ → EditFault → Type 0
IsLineFault line EditForm = IsNoEdit (words line)
IsLineFault line NoMemory = Unit {0}
IsLineFault line _ = ⊥
