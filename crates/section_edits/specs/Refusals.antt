-- The first refusal of an edit, of those that need no whole sections.
use Rattle.std.specs.Prelude.{ℕ, ◌≡◌, Bool, not, ◌&&◌, List, [], ◌∷◌, length, nat_le, nat_lt, Option, None, Some, Result, Ok, Err, if◌then◌else◌}
use Rattle.std.specs.List.{list_any}
use Rattle.fku_types.specs.declared.points.Spot.{Spot}
use Rattle.fku_types.specs.declared.fault.Fault.TheVariants.{NoContours}
use Rattle.section_core.specs.Parts.{Parts, as_file, contours_of}
use Rattle.section_core.specs.Laws.{within, facts, BreaksFirst, IsLawful}
use Rattle.section_core.specs.Reading.{HasContour}
use Rattle.section_core.specs.Steps.{is_coordinate}
use Rattle.section_edits.specs.declared.edit.Edit.{Edit}
use Rattle.section_edits.specs.declared.edit.Edit.TheVariants.{Move, Insert, Remove, AddContour, RemoveContour}
use Rattle.section_edits.specs.declared.edit.EditFault.{EditFault}
use Rattle.section_edits.specs.declared.edit.EditFault.TheVariants.{EditForm, NoContour, NoSection, NoVertex, TooFew, NameTwice, Limit, Found, NoMemory}
use Rattle.section_edits.specs.Contours.{has_contour_named, has_section_at, spots_of}
use Rattle.section_edits.specs.Changes.{changed}

-- a test, and the refusal of an edit for which it is true
abbrev pub Test : Type 0
Test = Bool × EditFault

-- the refusal of the first test that is true
abbrev pub first_of : List Test → Option EditFault
first_of [] = None
first_of ((passes, refusal) ∷ more) = if passes then Some refusal else first_of more

-- a place is out of range
abbrev pub is_far : Spot → Bool
is_far p = not (is_coordinate p.x && is_coordinate p.y)

abbrev pub vertex_count_of : Parts → List ℕ → ℕ
vertex_count_of S name = length (spots_of S.sections name)

-- the tests of the edit itself, in their order: coordinates, contour or section, vertex, too few vertices, name
abbrev pub own_tests : Parts → Edit → List Test
own_tests S (Move name index x y) =
    (is_far (record { x = x; y = y }), EditForm)
    ∷ (not (has_contour_named S.sections name), NoContour name)
    ∷ (nat_le (vertex_count_of S name) index, NoVertex name index)
    ∷ []
own_tests S (Insert name index x y) =
    (is_far (record { x = x; y = y }), EditForm)
    ∷ (not (has_contour_named S.sections name), NoContour name)
    ∷ (nat_lt (vertex_count_of S name) index, NoVertex name index)
    ∷ []
own_tests S (Remove name index) =
    (not (has_contour_named S.sections name), NoContour name)
    ∷ (nat_le (vertex_count_of S name) index, NoVertex name index)
    ∷ (nat_le (vertex_count_of S name) 3, TooFew name)
    ∷ []
own_tests S (AddContour z name points) =
    (list_any is_far points, EditForm)
    ∷ (not (has_section_at S.sections z), NoSection z)
    ∷ (nat_lt (length points) 3, TooFew name)
    ∷ (has_contour_named S.sections name, NameTwice name)
    ∷ []
own_tests S (RemoveContour name) = (not (has_contour_named S.sections name), NoContour name) ∷ []

-- why the parts after an edit are refused, if they are: a limit is the first law of texts that they break, or they have
-- no contour
abbrev pub IsLateRefusal : Parts → Option EditFault → Type 0
IsLateRefusal S None = IsLawful S × HasContour S
IsLateRefusal S (Some (Limit limit)) = BreaksFirst (within limit) (facts (as_file S))
IsLateRefusal S (Some (Found NoContours)) = IsLawful S × (contours_of S.sections ≡ [])
IsLateRefusal S (Some fault) = ⊥

-- the refusal of the edit's own tests comes before that of the parts after it
abbrev pub IsOwnOr : Option EditFault → Parts → Option EditFault → Type 0
IsOwnOr (Some fault) S refusal = refusal ≡ Some fault
IsOwnOr None S refusal = IsLateRefusal S refusal

-- why the edit is refused, if it is
abbrev pub IsRefusal : Parts → Edit → Option EditFault → Type 0
IsRefusal S e refusal = IsOwnOr (first_of (own_tests S e)) (changed S e) refusal

-- a call returns a value that has P, where there is no refusal, or the refusal; memory may run out
abbrev pub AnswersOrRefuses : {T : Type 0} → (Option EditFault → Type 0) → Result T EditFault → (T → Type 0) → Type 0
AnswersOrRefuses Is (Ok v) P = Is None × P v
AnswersOrRefuses Is (Err NoMemory) P = Unit {0}
AnswersOrRefuses Is (Err fault) P = Is (Some fault)

-- memory runs out only where the edit's own tests refuse nothing: it is asked for after them, and before the limits are
-- tested
abbrev pub IsEditMemory : Parts → Edit → EditFault → Type 0
IsEditMemory S e fault = fault ≡ NoMemory → first_of (own_tests S e) ≡ None
