-- What the words of an edit's line say, piece by piece.
use Rattle.std.specs.Prelude.{ℕ, ℤ, ◌≡◌, List, [], ◌∷◌, length, pos, Some, Result, Ok, Err}
use Rattle.std.specs.List.{flat_map, AllByRecursion}
use Rattle.fku_types.specs.declared.points.Spot.{Spot}
use Rattle.text_io.specs.Text.{number_of}
use Rattle.text_io.specs.WordLists.{Word, text, number, Matches}
use Rattle.section_edits.specs.declared.lines.Vertex.{Vertex}
use Rattle.section_edits.specs.declared.edit.Edit.{Edit}
use Rattle.section_edits.specs.declared.edit.EditFault.{EditFault}
use Rattle.section_edits.specs.declared.edit.EditFault.TheVariants.{EditForm, NoMemory}
use Rattle.section_edits.specs.Lines.{IsName, IsIndex, InRange, IsSpotInRange, ReadsAsEdit, IsNoEdit, spot_words}

-- the word is not an integer in the range of coordinates
abbrev pub NoCoordinate : List ℕ → Type 0
NoCoordinate word = (z : ℤ) → InRange z → number_of word ≡ Some z → ⊥

-- the words are those of this edit, or of none
abbrev pub IsReading : List (List ℕ) → Result Edit EditFault → Type 0
IsReading ws (Ok e) = ReadsAsEdit ws e
IsReading ws (Err EditForm) = IsNoEdit ws
IsReading ws (Err NoMemory) = Unit {0}
IsReading ws (Err _) = ⊥

-- a contour's name, an index, and a place
abbrev pub vertex_words : List ℕ → ℕ → ℤ → ℤ → List Word
vertex_words name index x y = text name ∷ number (pos index) ∷ number x ∷ number y ∷ []

abbrev pub IsVertexOf : List (List ℕ) → Vertex → Type 0
IsVertexOf ws v = Matches ws (vertex_words v.name v.index v.x v.y) × IsName v.name × IsIndex v.index × InRange v.x
    × InRange v.y

abbrev pub NoVertex : List (List ℕ) → Type 0
NoVertex ws = (name : List ℕ) (index : ℕ) (x y : ℤ) → Matches ws (vertex_words name index x y) → IsName name
    → IsIndex index → InRange x → InRange y → ⊥

-- two words that say a place
abbrev pub IsSpotOf : List ℕ → List ℕ → Spot → Type 0
IsSpotOf a b p = (number_of a ≡ Some p.x) × (number_of b ≡ Some p.y) × IsSpotInRange p

abbrev pub NoSpot : List ℕ → List ℕ → Type 0
NoSpot a b = (p : Spot) → IsSpotOf a b p → ⊥

-- words that say places
abbrev pub AreSpots : List (List ℕ) → List Spot → Type 0
AreSpots ws ps = Matches ws (flat_map spot_words ps) × AllByRecursion IsSpotInRange ps

-- words that do not say so many places
abbrev pub NoSpots : ℕ → List (List ℕ) → Type 0
NoSpots count ws = (ps : List Spot) → length ps ≡ count → AreSpots ws ps → ⊥
