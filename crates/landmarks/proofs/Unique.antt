-- Good marks have one chosen marked tiling, and one list of least pieces.
use Rattle.std.proofs.Common.{◌≡◌, ℕ, ◌+◌, ◌*◌, ◌/◌, ◌%◌, ◌<◌, ◌≤◌, ℤ, pos, List, [], ◌∷◌, All, Contains, map, length, get_or, refl, ap, ap₂, sym, ◌∙◌, subst, arith, ◌⊎◌, inl, inr}
use Rattle.std.proofs.lemmas.Bool.{cases_lt}
use Rattle.std.proofs.lemmas.Nat.{div_below, mod_below, div-add-mod'}
use Rattle.std.proofs.lemmas.List.{ext_get_or, get_or_default}
use Rattle.std.proofs.lemmas.List.Elements.{All-head, All-tail, All-contains}
use Rattle.std.proofs.lemmas.List.Sorted.{IsPermutation-refl}
use Rattle.strip_graph.specs.declared.tilings.Step.{Step}
use Rattle.strip_graph.specs.Words.{Arcs, word_cost}
use Rattle.strip_graph.specs.Strips.{Strip, arcs, rows, cols}
use Rattle.strip_graph.specs.Distances.{distance}
use Rattle.strip_graph.proofs.Canonical.{not_after_both}
use Rattle.landmarks.specs.declared.marks.Mark.{Mark}
use Rattle.landmarks.specs.declared.pieces.Piece.{Piece}
use Rattle.landmarks.specs.declared.pieces.Marked.{Marked}
use Rattle.landmarks.specs.Marks.{IsLeastMarked, IsChosenMarked}
use Rattle.landmarks.specs.Faults.{mark_at, AreSoundMarks}
use Rattle.landmarks.specs.Pieces.{IsLeastPiece}
use Rattle.landmarks.specs.Marked.{SolvesMarked, Part, part_of, SaySame}
use Rattle.landmarks.proofs.Apart.{apart}
use Rattle.landmarks.proofs.Soundness.{AreSet, holds_set}
use Rattle.landmarks.proofs.Alike.{IsLike, AreLike, alike_set}

-- the value at an index of a least piece
value : Arcs → Mark → ℕ → ℕ → ℤ
value a from cols i = pos (distance a from.row from.col (i / (cols + 1)) (i % (cols + 1)))

value_is : (a : Arcs) (p : Piece) → IsLeastPiece a p → (i : ℕ) → i < length p.phi.items
    → get_or p.phi.items i (pos 0) ≡ value a p.from p.cols i
unfolding value
value_is a p k i lt =
    let w : ℕ = p.cols + 1 in
    let row : i / w < p.rows + 1 = div_below i w (p.rows + 1) (omega arith) (omega (arith, k.count)) in
    let col : i % w < w = mod_below i w (omega arith) in
    ap (λ (x : ℕ). get_or p.phi.items x (pos 0)) (sym (div-add-mod' i w))
    ∙ k.values (i / w) (i % w) (omega (arith, row)) (omega (arith, col))

-- least pieces at the same places are equal
part_same : (a : Arcs) (p q : Piece) → IsLike p q → IsLeastPiece a p → IsLeastPiece a q → part_of p ≡ part_of q
part_same a p q e k l =
    let len : length p.phi.items ≡ length q.phi.items = k.count ∙ ap₂ (λ (x y : ℕ). (x + 1) * (y + 1)) e.1 e.2
    ∙ sym l.count in
    let phi = ext_get_or (pos 0) p.phi.items q.phi.items len
    (λ i lt. value_is a p k i lt ∙ ap₂ (λ (x : Mark) (y : ℕ). value a x y i) e.0 e.2
    ∙ sym (value_is a q l i (omega (arith, len)))) in
    let cost : p.cost ≡ q.cost = k.cost ∙ ap₂ (λ (x : Mark) (y : ℕ). pos (distance a x.row x.col y p.cols)) e.0 e.1
    ∙ ap (λ (y : ℕ). pos (distance a q.from.row q.from.col q.rows y)) e.2 ∙ sym l.cost in
    made p.from q.from p.rows q.rows p.cols q.cols p.cost q.cost p.phi.items q.phi.items e.0 e.1 e.2 cost phi
  where
    made : (f f' : Mark) (r r' c c' : ℕ) (x x' : ℤ) (v v' : List ℤ) → f ≡ f' → r ≡ r' → c ≡ c' → x ≡ x' → v ≡ v'
        → (let one : Part = record { from = f; rows = r; cols = c; cost = x; values = v } in one)
        ≡ record { from = f'; rows = r'; cols = c'; cost = x'; values = v' }
    made f f' r r' c c' x x' v v' p q s t u = cc

parts_same : (a : Arcs) (ps qs : List Piece) → AreLike ps qs → All (IsLeastPiece a) ps → All (IsLeastPiece a) qs
    → map part_of ps ≡ map part_of qs
parts_same a [] [] e k l = refl
parts_same a [] (q ∷ qs) e k l = absurd e
parts_same a (p ∷ ps) [] e k l = absurd e
parts_same a (p ∷ ps) (q ∷ qs) e k l =
    ap₂ (λ (x : Part) (xs : List Part). x ∷ xs)
    (part_same a p q e.0 (All-head (IsLeastPiece a) p ps k) (All-head (IsLeastPiece a) q qs l))
    (parts_same a ps qs e.1 (All-tail (IsLeastPiece a) p ps k) (All-tail (IsLeastPiece a) q qs l))

-- marks of one row are equal
same_row : (m n : ℕ) (marks : List Mark) (x y : Mark) → AreSoundMarks m n marks → Contains marks x → Contains marks y
    → x.row ≡ y.row → x ≡ y
same_row m n marks x y g (i, li, ei) (j, lj, ej) e = by (cases_lt i j) (cases_lt j i)
  where
    at_i : x ≡ mark_at marks i
    at_i = sym ei ∙ get_or_default marks i x (record { row = 0; col = 0 }) li

    at_j : y ≡ mark_at marks j
    at_j = sym ej ∙ get_or_default marks j y (record { row = 0; col = 0 }) lj

    rows : (mark_at marks i).row ≡ (mark_at marks j).row
    rows = ap (λ (k : Mark). k.row) (sym at_i) ∙ e ∙ ap (λ (k : Mark). k.row) at_j

    by : (i < j) ⊎ (j ≤ i) → (j < i) ⊎ (i ≤ j) → x ≡ y
    by (inl lt) _ = absurd (apart m n marks marks g (IsPermutation-refl marks) i j lt lj (inl rows))
    by (inr le) (inl lt) = absurd (apart m n marks marks g (IsPermutation-refl marks) j i lt li (inl (sym rows)))
    by (inr le) (inr ge) = let same : i ≡ j = omega arith in at_i ∙ ap (mark_at marks) same ∙ sym at_j

-- the chosen marked tiling is unique
pub chosen_marked_unique : (a : Arcs) (m n : ℕ) (marks : List Mark) (at at' : Mark) (w w' : List Step)
    → AreSoundMarks m n marks → IsChosenMarked a m n marks at w → IsChosenMarked a m n marks at' w' → (at ≡ at')
    × (w ≡ w')
chosen_marked_unique a m n marks at at' w w' g f h =
    let row : at.row ≡ at'.row = omega (
      arith,
      All-contains (λ e. at.row ≤ e.row) marks at' f.start.least h.start.is_mark,
      All-contains (λ e. at'.row ≤ e.row) marks at h.start.least f.start.is_mark,
    ) in
    let e : at ≡ at' = same_row m n marks at at' g f.start.is_mark h.start.is_mark row in
    let back = subst (λ (k : Mark). IsLeastMarked a m n marks k.row k.col w') (sym e) h.least in
    let there = subst (λ (k : Mark). IsLeastMarked a m n marks k.row k.col w) e f.least in
    (e, not_after_both w w' (f.first_word w' back) (h.first_word w there))

-- the solution is unique
pub solved_marked_unique : (p : Strip) (marks : List Mark) (t u : Marked) → AreSoundMarks (rows p) (cols p) marks
    → SolvesMarked p marks t → SolvesMarked p marks u → SaySame t u
solved_marked_unique p marks t u g s v =
    let k = chosen_marked_unique (arcs p) (rows p) (cols p) marks t.at u.at t.word.items u.word.items g s.chosen
    v.chosen in
    let set = subst (λ (x : Mark). AreSet (rows p) (cols p) marks x u.pieces.items) (sym k.0)
    (holds_set p marks u g v.holds) in
    record {
      at = k.0;
      cost = s.cost ∙ ap₂ (λ (x : Mark) (w : List Step). pos (word_cost (arcs p) x.row x.col w)) k.0 k.1 ∙ sym v.cost;
      word = k.1;
      pieces = parts_same (arcs p) t.pieces.items u.pieces.items
          (alike_set (rows p) (cols p) marks t.at t.pieces.items u.pieces.items (holds_set p marks t g s.holds) set)
          s.pieces v.pieces;
    }
