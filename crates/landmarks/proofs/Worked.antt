-- The definitions at worked examples: marks on two equal squares, one above the other.
use Rattle.std.proofs.Common.{◌≡◌, ℕ, zero, suc, ◌+◌, ◌*◌, ◌<◌, ℤ, pos, ◌-ℤ◌, Bool, T, List, map, [], ◌∷◌, length, All, Vec, sum_by, lit<, lit≤, arith, ◌⊎◌, inl, inr}
use Rattle.std.specs.Int.Signed.{le_z, le_z_yes}
use Rattle.std.proofs.lemmas.List.Elements.{All-cons, All-nil}
use mathlib.Core.Path.{refl}
use Rattle.std.specs.declared.alloc.Global.{Global}
use Rattle.plane_geom.specs.Planes.{signed_sum}
use Rattle.plane_geom.specs.Rings.{around}
use Rattle.plane_geom.specs.Lengths.{distance_square}
use Rattle.fku_types.specs.Points.{square}
use Rattle.strip_graph.specs.declared.tilings.Step.{Step}
use Rattle.strip_graph.specs.declared.tilings.Step.TheVariants.{V, H}
use Rattle.strip_graph.specs.Words.{Arcs, word_cost, words_with, all_words}
use Rattle.strip_graph.specs.Strips.{arcs}
use Rattle.strip_graph.specs.Distances.{distance, IsFirst}
use Rattle.strip_graph.specs.Certificates.{IsModest}
use Rattle.strip_graph.proofs.LeastWords.{first_none, first_v, first_h, first_h_last}
use Rattle.strip_graph.proofs.ComputedTests.{modest, passes, passes_at, list_at}
use Rattle.strip_graph.proofs.Worked.{squares}
use Rattle.landmarks.specs.declared.marks.Mark.{Mark}
use Rattle.landmarks.specs.declared.marks.MarkFault.TheVariants.{NoSpan, Cross}
use Rattle.landmarks.specs.declared.pieces.Piece.{Piece}
use Rattle.landmarks.specs.declared.pieces.Marked.{Marked}
use Rattle.landmarks.specs.Marks.{Passes, IsFirstMark}
use Rattle.landmarks.specs.Faults.{mark_at, ShareLine, GoAcross, IsGood, IsFirstFaultOfMarks, HasNoSpan}
use Rattle.landmarks.specs.Pieces.{AreJoined, AreParts, HasPieceValues, IsBound, phi_at}
use Rattle.landmarks.specs.Marked.{HoldsMarked}

abbrev mark : ℕ → ℕ → Mark
mark i j = record { row = i; col = j }

abbrev piece : ℕ → ℕ → ℕ → ℕ → ℕ → Vec ℤ Global → Piece
piece i j rows cols cost phi = record { from = mark i j; rows = rows; cols = cols; cost = pos cost; phi = phi }

-- one mark: the piece round both rings, its word and its values; it costs more than the least tiling, which does not
-- pass that span
one_mark_cost : (distance (arcs squares) 0 2 4 4 ≡ 1400)
    × (word_cost (arcs squares) 0 2 (V ∷ V ∷ V ∷ H ∷ V ∷ H ∷ H ∷ H ∷ []) ≡ 1400)
unfolding arcs around distance_square square distance words_with all_words
one_mark_cost = (refl, refl)

-- no word of that cost comes before it
one_mark_word : IsFirst (arcs squares) 0 2 4 4 (V ∷ V ∷ V ∷ H ∷ V ∷ H ∷ H ∷ H ∷ [])
unfolding arcs around distance_square square distance words_with all_words
one_mark_word =
    let a = arcs squares in
    let last = first_h_last a 4 3 2 (H ∷ H ∷ [])
    (first_h_last a 4 4 1 (H ∷ []) (first_h_last a 4 5 0 [] (first_none a 4 6))) in
    let middle = first_h a 3 2 0 3 (V ∷ H ∷ H ∷ H ∷ []) (lit< tt) (first_v a 3 3 0 3 (H ∷ H ∷ H ∷ []) refl last) in
    first_v a 0 2 3 4 (V ∷ V ∷ H ∷ V ∷ H ∷ H ∷ H ∷ []) refl
    (first_v a 1 2 2 4 (V ∷ H ∷ V ∷ H ∷ H ∷ H ∷ []) refl (first_v a 2 2 1 4 (H ∷ V ∷ H ∷ H ∷ H ∷ []) refl middle))

-- the values of its row r
abbrev values : ℕ → List ℕ
values r = map (distance (arcs squares) 0 2 r) (0 ∷ 1 ∷ 2 ∷ 3 ∷ 4 ∷ [])

one_mark_values : (values 0 ≡ 0 ∷ 200 ∷ 300 ∷ 500 ∷ 800 ∷ []) × (values 1 ≡ 200 ∷ 500 ∷ 500 ∷ 600 ∷ 800 ∷ [])
    × (values 2 ≡ 300 ∷ 500 ∷ 800 ∷ 800 ∷ 900 ∷ []) × (values 3 ≡ 500 ∷ 600 ∷ 800 ∷ 1100 ∷ 1100 ∷ [])
    × (values 4 ≡ 800 ∷ 800 ∷ 900 ∷ 1100 ∷ 1400 ∷ [])
unfolding arcs around distance_square square distance words_with all_words
one_mark_values = (refl, refl, refl, refl, refl)

-- two marks: the pieces are joined in the order of the word, not of the list
abbrev two_pieces : Vec ℤ Global → List Piece
two_pieces phi = piece 0 0 2 2 600 phi ∷ piece 2 2 2 2 600 phi ∷ []

abbrev two_word : List Step
two_word = V ∷ H ∷ V ∷ H ∷ V ∷ H ∷ V ∷ H ∷ []

two_joined : (phi : Vec ℤ Global) → AreJoined 4 4 (mark 0 0) (two_pieces phi)
two_joined phi = (refl, (refl, tt))

two_parts : (phi : Vec ℤ Global) → AreParts (arcs squares) (two_pieces phi) two_word
unfolding arcs around distance_square square
two_parts phi = (
  record { letters = record { v = refl; h = refl }; cost = refl },
  (record { letters = record { v = refl; h = refl }; cost = refl }, refl),
)

two_sums : (phi : Vec ℤ Global) → (sum_by (λ p. p.rows) (two_pieces phi) ≡ 4)
    × (sum_by (λ p. p.cols) (two_pieces phi) ≡ 4) × (signed_sum (λ p. p.cost) (two_pieces phi) ≡ pos 1200)
two_sums phi = (refl, refl, refl)

two_passed : Passes 4 4 0 0 two_word (mark 0 0) × Passes 4 4 0 0 two_word (mark 2 2)
two_passed = (
  record { front = []; back = two_word; joins = refl; row = refl; col = refl },
  record { front = V ∷ H ∷ V ∷ H ∷ []; back = V ∷ H ∷ V ∷ H ∷ []; joins = refl; row = refl; col = refl },
)

two_start : IsFirstMark (mark 2 2 ∷ mark 0 0 ∷ []) (mark 0 0)
two_start = record { is_mark = (1, lit< tt, refl); least = λ k d lt. omega arith }

-- the result for them, wherever its lists lie, and that it is valid
abbrev two_values : Vec ℤ Global → Vec ℤ Global
two_values v = list_at v (pos 0 ∷ pos 200 ∷ pos 500 ∷ pos 200 ∷ pos 300 ∷ pos 500 ∷ pos 500 ∷ pos 500 ∷ pos 600 ∷ []) tt

abbrev two_marked : Vec ℤ Global → Marked
two_marked v = record {
  at = mark 0 0;
  cost = pos 1200;
  word = list_at v two_word tt;
  pieces =
      list_at v (two_pieces (two_values v)) tt;
}

-- whether the steps from a place of a piece raise its value by no more than their costs
abbrev v_holds : Arcs → Piece → ℕ → ℕ → Bool
v_holds a p r c = le_z (phi_at p (r + 1) c -ℤ phi_at p r c) (pos (a (p.from.row + r) (p.from.col + c) V))

abbrev h_holds : Arcs → Piece → ℕ → ℕ → Bool
h_holds a p r c = le_z (phi_at p r (c + 1) -ℤ phi_at p r c) (pos (a (p.from.row + r) (p.from.col + c) H))

bound : (a : Arcs) (p : Piece) → T (passes p.rows (λ r. passes (p.cols + 1) (v_holds a p r)))
    → T (passes (p.rows + 1) (λ r. passes p.cols (h_holds a p r)))
    → T (le_z p.cost (phi_at p p.rows p.cols -ℤ phi_at p 0 0)) → IsBound a p
bound a p v h rise = record {
  down = λ r c lt le. le_z_yes (passes_at (p.cols + 1) (v_holds a p r)
      (passes_at p.rows (λ x. passes (p.cols + 1) (v_holds a p x)) v r lt) c (omega arith));
  right = λ r c le lt. le_z_yes (passes_at p.cols (h_holds a p r)
      (passes_at (p.rows + 1) (λ x. passes p.cols (h_holds a p x)) h r (omega arith)) c lt);
  rise = le_z_yes rise;
}

two_bounds : (v : Vec ℤ Global) → IsBound (arcs squares) (piece 0 0 2 2 600 (two_values v))
    × IsBound (arcs squares) (piece 2 2 2 2 600 (two_values v))
unfolding arcs around distance_square square
two_bounds v = (
  bound (arcs squares) (piece 0 0 2 2 600 (two_values v)) tt tt tt,
  bound (arcs squares) (piece 2 2 2 2 600 (two_values v)) tt tt tt,
)

two_hold : (v : Vec ℤ Global) → HoldsMarked squares (mark 2 2 ∷ mark 0 0 ∷ []) (two_marked v)
two_hold v = record {
  joined = two_joined (two_values v);
  begins = record { moves = (0, 1) ∷ []; below = (lit< tt, lit< tt, tt); is = refl };
  rows_sum = refl;
  cols_sum = refl;
  letters = record { v = refl; h = refl };
  parts = two_parts (two_values v);
  cost = refl;
  values = All-cons HasPieceValues p (q ∷ []) (has p refl (modest p.phi.items tt))
      (All-cons HasPieceValues q [] (has q refl (modest q.phi.items tt)) (All-nil HasPieceValues));
  bounds = All-cons (IsBound (arcs squares)) p (q ∷ []) (two_bounds v).0
      (All-cons (IsBound (arcs squares)) q [] (two_bounds v).1 (All-nil (IsBound (arcs squares))));
}
  where
    p : Piece
    p = piece 0 0 2 2 600 (two_values v)

    q : Piece
    q = piece 2 2 2 2 600 (two_values v)

    has : (p : Piece) → length p.phi.items ≡ (p.rows + 1) * (p.cols + 1) → All IsModest p.phi.items → HasPieceValues p
    has p count modest = record { count = count; modest = modest }

-- three marks of which the last one crosses the one before it
abbrev three : List Mark
three = mark 0 0 ∷ mark 1 2 ∷ mark 2 1 ∷ []

three_new : (e : ℕ) → e < 1 → ShareLine (mark_at three e) (mark 1 2) → ⊥
three_new zero b s = elim s [ inl d ↦ omega (arith, d) | inr d ↦ omega (arith, d) ]
three_new (suc e) b s = omega arith

three_straight : (e : ℕ) → e < 1 → GoAcross 4 4 (mark 0 0) (mark_at three e) (mark 1 2)
    ⊎ GoAcross 4 4 (mark 0 0) (mark 1 2) (mark_at three e) → ⊥
three_straight zero b s = elim s [ inl d ↦ omega (arith, d.1) | inr d ↦ omega (arith, d.0) ]
three_straight (suc e) b s = omega arith

three_once : (e : ℕ) → e < 2 → ShareLine (mark_at three e) (mark 2 1) → ⊥
three_once zero b s = elim s [ inl d ↦ omega (arith, d) | inr d ↦ omega (arith, d) ]
three_once (suc zero) b s = elim s [ inl d ↦ omega (arith, d) | inr d ↦ omega (arith, d) ]
three_once (suc (suc e)) b s = omega arith

three_good : (q : ℕ) → q < 2 → IsGood 4 4 three q
three_good zero lt = record {
  row = lit< tt;
  col = lit< tt;
  new = λ r. omega (arith, r.before);
  straight =
      λ r. omega (arith, r.before);
}
three_good (suc zero) lt = record {
  row = lit< tt;
  col = lit< tt;
  new = λ r. three_new r.earlier r.before r.shared;
  straight = λ r. three_straight r.earlier r.before r.across;
}
three_good (suc (suc q)) lt = absurd (omega arith)

three_spans : HasNoSpan 4 4 (mark 2 1) → ⊥
three_spans h = elim h [ inl e ↦ omega (arith, e) | inr e ↦ omega (arith, e) ]

three_cross : IsFirstFaultOfMarks 4 4 three (Cross 2)
three_cross = (
  record { there = lit< tt; earlier = three_good },
  three_spans,
  (λ r. three_once r.earlier r.before r.shared),
  record { earlier = 1; before = lit< tt; across = inl (lit< tt, lit< tt) },
)

-- a mark in a column that the pair does not have
outside : IsFirstFaultOfMarks 4 4 (mark 0 4 ∷ []) (NoSpan 0)
outside = (record { there = lit< tt; earlier = λ q lt. absurd (omega arith) }, inr (lit≤ tt))
