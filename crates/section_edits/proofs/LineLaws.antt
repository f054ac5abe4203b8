-- A line stands for at most one edit.
use Rattle.std.proofs.Common.{◌≡◌, ℕ, pos, List, [], ◌∷◌, get_or, refl, ap, ap₂, arith}
use Rattle.std.specs.List.{AllZip, flat_map}
use Rattle.fku_types.specs.declared.points.Spot.{Spot}
use Rattle.text_io.specs.WordLists.{Matches}
use Rattle.section_edits.specs.declared.edit.Edit.{Edit}
use Rattle.section_edits.specs.declared.edit.Edit.TheVariants.{Move, Insert, Remove, AddContour, RemoveContour}
use Rattle.section_edits.specs.Lines.{edit_words, spot_words}
use Rattle.section_edits.proofs.Wording.{same_spot}
use Rattle.text_io.proofs.WordLaws.{SameWord, same_words}

same_spots : (ps qs : List Spot) → AllZip SameWord (flat_map spot_words ps) (flat_map spot_words qs) → ps ≡ qs
same_spots [] [] h = refl
same_spots [] (q ∷ qs) h = absurd h
same_spots (p ∷ ps) [] h = absurd h
same_spots (p ∷ ps) (q ∷ qs) h = ap₂ (λ (s : Spot) (ss : List Spot). s ∷ ss) (same_spot p q h.0 h.1.0)
    (same_spots ps qs h.1.1)

same_edit : (e f : Edit) → AllZip SameWord (edit_words e) (edit_words f) → e ≡ f
same_edit (Move n i x y) (Move m j u v) h =
    let name : n ≡ m = h.1.0 in
    let index : pos i ≡ pos j = h.1.1.0 in
    let place : x ≡ u = h.1.1.1.0 in
    let other : y ≡ v = h.1.1.1.1.0 in
    cc
same_edit (Insert n i x y) (Insert m j u v) h =
    let name : n ≡ m = h.1.0 in
    let index : pos i ≡ pos j = h.1.1.0 in
    let place : x ≡ u = h.1.1.1.0 in
    let other : y ≡ v = h.1.1.1.1.0 in
    cc
same_edit (Remove n i) (Remove m j) h =
    let name : n ≡ m = h.1.0 in
    let index : pos i ≡ pos j = h.1.1.0 in
    cc
same_edit (AddContour z n ps) (AddContour w m qs) h =
    let height : z ≡ w = h.1.0 in
    let name : n ≡ m = h.1.1.0 in
    let points : ps ≡ qs = same_spots ps qs h.1.1.1.1 in
    cc
same_edit (RemoveContour n) (RemoveContour m) h = let name : n ≡ m = h.1.0 in cc
same_edit e f h = absurd (omega (arith, ap (λ (w : List ℕ). get_or w 0 0) h.0))

pub one_edit : (ws : List (List ℕ)) (e f : Edit) → Matches ws (edit_words e) → Matches ws (edit_words f) → e ≡ f
one_edit ws e f h k = same_edit e f (same_words ws (edit_words e) (edit_words f) h k)
