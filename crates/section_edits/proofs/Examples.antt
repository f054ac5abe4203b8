-- The worked edits of two squares, computed.
use Rattle.std.proofs.Common.{◌≡◌, ℕ, pos, negsuc, List, [], ◌∷◌, Some, refl, sym, ap, ◌∙◌, lit<}
use Rattle.std.specs.Prelude.{codes}
use Rattle.std.proofs.lemmas.Bool.{false≢true}
use Rattle.fku_types.specs.declared.points.Spot.{Spot as Place}
use Rattle.fku_types.specs.declared.rules.PairRule.TheVariants.{Overlap}
use Rattle.section_core.specs.Steps.{is_coordinate}
use Rattle.section_core.specs.Parts.{span, Spot, ContourParts, SectionParts, Parts}
use Rattle.text_io.specs.Text.{words}
use Rattle.section_edits.specs.declared.edit.Edit.TheVariants.{Move, Insert, Remove, AddContour, RemoveContour}
use Rattle.section_edits.specs.declared.edit.EditFault.TheVariants.{EditForm, NoContour, NoSection, NoVertex, TooFew, NameTwice}
use Rattle.section_edits.specs.Lines.{ReadsAsEdit, IsNoEdit}
use Rattle.section_edits.specs.Changes.{contour_with, changed}
use Rattle.section_edits.specs.Refusals.{IsRefusal}
use Rattle.section_edits.proofs.Wording.{none_of, move_only, number_once}

-- squares a and b at heights 0 and 10
abbrev at : ℕ → ℕ → Spot
at x y = (pos x, pos y)

abbrev square : List Spot
square = at 0 0 ∷ at 10 0 ∷ at 10 10 ∷ at 0 10 ∷ []

abbrev section : ℕ → List ContourParts → SectionParts
section z cs = record { z = pos z; contours = cs }

abbrev of_sections : List SectionParts → Parts
of_sections ss = record { cost = span; rule = Overlap; sections = ss; links = [] }

abbrev a : List ℕ
a = codes "a"

abbrev b : List ℕ
b = codes "b"

abbrev with_b : List Spot → Parts
with_b spots = of_sections (section 0 (contour_with a square ∷ []) ∷ section 10 (contour_with b spots ∷ []) ∷ [])

abbrev squares : Parts
squares = with_b square

abbrev triangle : Parts
triangle = with_b (at 10 0 ∷ at 10 10 ∷ at 0 10 ∷ [])

-- ---- a move, and the move back
moved : changed squares (Move b 2 (pos 12) (pos 12)) ≡ with_b (at 0 0 ∷ at 10 0 ∷ at 12 12 ∷ at 0 10 ∷ [])
moved = refl

moved_back : changed (changed squares (Move b 2 (pos 12) (pos 12))) (Move b 2 (pos 10) (pos 10)) ≡ squares
moved_back = refl

-- ---- one more vertex, at the end, and its removal
inserted : changed squares (Insert b 4 (pos 0) (pos 5)) ≡ with_b (at 0 0 ∷ at 10 0 ∷ at 10 10 ∷ at 0 10 ∷ at 0 5 ∷ [])
inserted = refl

removed_again : changed (changed squares (Insert b 4 (pos 0) (pos 5))) (Remove b 4) ≡ squares
removed_again = refl

inserted_past : IsRefusal squares (Insert b 5 (pos 0) (pos 5)) (Some (NoVertex b 5))
inserted_past = refl

-- ---- refusals, one after another
no_contour : IsRefusal squares (Move (codes "q") 0 (pos 1) (pos 1)) (Some (NoContour (codes "q")))
no_contour = refl

no_vertex : IsRefusal squares (Move b 4 (pos 1) (pos 1)) (Some (NoVertex b 4))
no_vertex = refl

removed : changed squares (Remove b 0) ≡ triangle
removed = refl

too_few : IsRefusal triangle (Remove b 0) (Some (TooFew b))
too_few = refl

abbrev corners : List Place
corners = record { x = pos 0; y = pos 0 } ∷ record { x = pos 5; y = pos 0 } ∷ record { x = pos 0; y = pos 5 } ∷ []

name_twice : IsRefusal triangle (AddContour (pos 10) a corners) (Some (NameTwice a))
name_twice = refl

no_section : IsRefusal triangle (AddContour (pos 11) (codes "d") corners) (Some (NoSection (pos 11)))
no_section = refl

added : changed squares (AddContour (pos 10) (codes "d") corners)
    ≡ of_sections (section 0 (contour_with a square ∷ [])
    ∷ section 10 (contour_with b square ∷ contour_with (codes "d") (at 0 0 ∷ at 5 0 ∷ at 0 5 ∷ []) ∷ []) ∷ [])
added = refl

too_far : IsRefusal triangle (Move b 0 (pos 1000000) (pos 0)) (Some EditForm)
too_far = refl

dropped : changed triangle (RemoveContour b) ≡ of_sections (section 0 (contour_with a square ∷ []) ∷ section 10 [] ∷ [])
dropped = refl

-- ---- lines
move_line : ReadsAsEdit (words (codes "MOVE b 2 12 12")) (Move b 2 (pos 12) (pos 12))
move_line = ((refl, (refl, (refl, (refl, (refl, tt))))), (refl, lit< tt, refl, refl))

low_line : ReadsAsEdit (words (codes "MOVE\tb 002  -5 5")) (Move b 2 (negsuc 4) (pos 5))
low_line = ((refl, (refl, (refl, (refl, (refl, tt))))), (refl, lit< tt, refl, refl))

add_line : ReadsAsEdit (words (codes "ADD 10 d 3 0 0 5 0 0 5")) (AddContour (pos 10) (codes "d") corners)
add_line = (
  (refl, (refl, (refl, (refl, (refl, (refl, (refl, (refl, (refl, (refl, tt)))))))))),
  (refl, refl, lit< tt, ((refl, refl), ((refl, refl), ((refl, refl), tt)))),
)

turn_line : IsNoEdit (words (codes "TURN b"))
turn_line = none_of (codes "TURN") (b ∷ []) refl refl refl refl refl

far_line : IsNoEdit (words (codes "MOVE b 0 1000000 0"))
far_line =
    move_only (b ∷ codes "0" ∷ codes "1000000" ∷ codes "0" ∷ [])
    (λ name i x y m n k p q.
    let s : x ≡ pos 1000000 = number_once (codes "1000000") x (pos 1000000) m.1.1.0 refl in
    absurd (false≢true (ap is_coordinate (sym s) ∙ p)))
