-- `landmarks` leaves one reply.
use Rattle.std.proofs.Common.{◌≡◌, inl, inr, ℕ, ◌<◌, ℤ, pos, List, [], ◌∷◌, ◌++◌, map, length, Some, refl, sym, subst, subst₂, ap, ap₂, ◌∙◌, arith}
use Rattle.std.specs.Prelude.{All, codes, decimal}
use Rattle.std.specs.List.{AllZip, AllByRecursion}
use Rattle.std.proofs.lemmas.List.Elements.{recursion_from_All}
use Rattle.std.proofs.lemmas.Bool.{cases_order}
use Rattle.std.proofs.lemmas.Option.{slice_get_within}
use Rattle.fku_types.proofs.ListLaws.{all_amid}
use Rattle.fku_types.proofs.SplitLaws.{compare}
use Rattle.text_io.specs.Text.{number_of}
use Rattle.text_io.specs.WordLists.{Kept, Line, Matches}
use Rattle.fku_types.specs.declared.fault.Fault.{Fault}
use Rattle.fku_types.specs.declared.fault.Fault.TheVariants.{MarkForm}
use Rattle.section_core.specs.Parts.{FileParts}
use Rattle.strip_graph.specs.Strips.{rows, cols}
use Rattle.strip_graph.specs.declared.tilings.Step.{Step}
use Rattle.landmarks.specs.declared.marks.Mark.{Mark}
use Rattle.landmarks.specs.declared.marks.MarkFault.{MarkFault}
use Rattle.landmarks.specs.declared.marks.MarkFault.TheVariants.{NoSpan, Repeated, Cross, NoMemory}
use Rattle.landmarks.specs.declared.pieces.Marked.{Marked}
use Rattle.landmarks.specs.Faults.{mark_at, HasNoSpan, IsRepeated, IsGood, AreSoundMarks, FollowsGood, IsFirstFaultOfMarks}
use Rattle.landmarks.specs.Marked.{Part, part_of, SaySame}
use Rattle.landmarks.proofs.Unique.{solved_marked_unique}
use Rattle.section_pairs.specs.Pairs.{PairParts}
use Rattle.pair_commands.specs.LineMarks.{LineMark as PairMark}
use Rattle.command_replies.specs.Reply.{Tells}
use Rattle.pair_commands.specs.OnePair.{IsPairOf}
use Rattle.pair_commands.specs.Landmarks.{mark_line, AreMarks, IsMarkLine, IsNoMark, IsFormFault, marks_of, IsToldOf, IsGoodMark, HasMarkFault, no_pair, of_pair, AreGoodMarks, IsMarkFault, MarkedPair, marked_from, marked_text, SolvesPair, AreSolved, solved_text, all_text, landmarks_text, on_marks, landmarks}
use Rattle.pair_commands.proofs.MarkLines.{all_lines}
use Rattle.run_laws.proofs.CertLaws.{same_pair}
use Rattle.run_laws.proofs.ReplyLaws.{IsOne, agree_tells, one_numbered, one_stage, one_then}

-- a line says one mark
number_once : (w : List ℕ) (a b : ℕ) → number_of w ≡ Some (pos a) → number_of w ≡ Some (pos b) → a ≡ b
number_once w a b e f = let g : Some (pos a) ≡ Some (pos b) = sym e ∙ f in cc

says_once : (ws : Line) (x y : PairMark) → Matches ws (mark_line x) → Matches ws (mark_line y) → x ≡ y
says_once [] x y h k = absurd h
says_once (a ∷ []) x y h k = absurd h.1
says_once (a ∷ b ∷ []) x y h k = absurd h.1.1
says_once (a ∷ b ∷ c ∷ []) x y h k = absurd h.1.1.1
says_once (a ∷ b ∷ c ∷ d ∷ ws) x y h k =
    let pair = number_once b x.pair y.pair h.1.0 k.1.0 in
    let row = number_once c x.mark.row y.mark.row h.1.1.0 k.1.1.0 in
    let col = number_once d x.mark.col y.mark.col h.1.1.1.0 k.1.1.1.0 in
    λ i. record { pair = pair i; mark = record { row = row i; col = col i } }

one_marks : (tail : List Kept) (xs ys : List PairMark) → AreMarks tail xs → AreMarks tail ys → xs ≡ ys
one_marks [] [] [] h k = refl
one_marks [] [] (y ∷ ys) h k = absurd k
one_marks [] (x ∷ xs) ys h k = absurd h
one_marks (l ∷ tail) [] ys h k = absurd h
one_marks (l ∷ tail) (x ∷ xs) [] h k = absurd k
one_marks (l ∷ tail) (x ∷ xs) (y ∷ ys) h k =
    ap₂ (λ (z : PairMark) (zs : List PairMark). z ∷ zs) (says_once l.1 x y h.0.match k.0.match)
    (one_marks tail xs ys h.1 k.1)

-- the number of a pair is at most the number of pairs
pair_there : (ps : List PairParts) (k : ℕ) (p : PairParts) → IsPairOf ps k p → length ps < k → ⊥
pair_there ps k p h l = omega (arith, h.counted, slice_get_within ps h.place p h.there, l)

-- what a fault of marks says: its place, at which a mark is not good
record IsAt (m n : ℕ) (marks : List Mark) (q : ℕ) : Type 0 where
  follows : FollowsGood m n marks q
  bad : IsGood m n marks q → ⊥

at_span : (m n : ℕ) (marks : List Mark) (q : ℕ) → IsFirstFaultOfMarks m n marks (NoSpan q) → IsAt m n marks q
at_span m n marks q h = record {
  follows = h.0;
  bad =
      λ g. elim h.1 [ inl a ↦ omega (arith, a, g.row) | inr b ↦ omega (arith, b, g.col) ];
}

at_repeated : (m n : ℕ) (marks : List Mark) (q : ℕ) → IsFirstFaultOfMarks m n marks (Repeated q) → IsAt m n marks q
at_repeated m n marks q h = record { follows = h.0; bad = λ g. g.new h.2 }

at_cross : (m n : ℕ) (marks : List Mark) (q : ℕ) → IsFirstFaultOfMarks m n marks (Cross q) → IsAt m n marks q
at_cross m n marks q h = record { follows = h.0; bad = λ g. g.straight h.3 }

one_place : (m n : ℕ) (marks : List Mark) (q r : ℕ) → IsAt m n marks q → IsAt m n marks r → q ≡ r
one_place m n marks q r h k =
    elim (cases_order q r) [
      | inl e ↦ e
      | inr (inl less) ↦ absurd (h.bad (k.follows.earlier q less))
      | inr (inr more) ↦ absurd (k.bad (h.follows.earlier r more))
    ]

good_bad : (m n : ℕ) (marks : List Mark) (q : ℕ) → AreSoundMarks m n marks → IsAt m n marks q → ⊥
good_bad m n marks q g h = h.bad (g.good q h.follows.there)

-- good marks have no fault that is reported
told_bad : (m n : ℕ) (marks : List Mark) (x : PairMark) (cause : MarkFault) (f : Fault) → AreSoundMarks m n marks
    → IsFirstFaultOfMarks m n marks cause → IsToldOf x cause f → ⊥
told_bad m n marks x (NoSpan q) f g h t = good_bad m n marks q g (at_span m n marks q h)
told_bad m n marks x (Repeated q) f g h t = good_bad m n marks q g (at_repeated m n marks q h)
told_bad m n marks x (Cross q) f g h t = good_bad m n marks q g (at_cross m n marks q h)
told_bad m n marks x NoMemory f g h t = t

-- and marks have only one fault
told_once : (m n : ℕ) (marks : List Mark) (x : PairMark) (a b : MarkFault) (f g : Fault)
    → IsFirstFaultOfMarks m n marks a → IsFirstFaultOfMarks m n marks b → IsToldOf x a f → IsToldOf x b g → f ≡ g
told_once m n marks x (NoSpan q) (NoSpan r) f g h k s t = s ∙ sym t
told_once m n marks x (NoSpan q) (Repeated r) f g h k s t = let e =
    one_place m n marks q r (at_span m n marks q h) (at_repeated m n marks r k) in
    absurd (k.1 (subst (λ (p : ℕ). HasNoSpan m n (mark_at marks p)) e h.1))
told_once m n marks x (NoSpan q) (Cross r) f g h k s t = let e =
    one_place m n marks q r (at_span m n marks q h) (at_cross m n marks r k) in
    absurd (k.1 (subst (λ (p : ℕ). HasNoSpan m n (mark_at marks p)) e h.1))
told_once m n marks x (NoSpan q) NoMemory f g h k s t = absurd t
told_once m n marks x (Repeated q) (NoSpan r) f g h k s t = let e =
    one_place m n marks r q (at_span m n marks r k) (at_repeated m n marks q h) in
    absurd (h.1 (subst (λ (p : ℕ). HasNoSpan m n (mark_at marks p)) e k.1))
told_once m n marks x (Repeated q) (Repeated r) f g h k s t = s ∙ sym t
told_once m n marks x (Repeated q) (Cross r) f g h k s t = let e =
    one_place m n marks q r (at_repeated m n marks q h) (at_cross m n marks r k) in
    absurd (k.2 (subst (λ (p : ℕ). IsRepeated marks p) e h.2))
told_once m n marks x (Repeated q) NoMemory f g h k s t = absurd t
told_once m n marks x (Cross q) (NoSpan r) f g h k s t = let e =
    one_place m n marks r q (at_span m n marks r k) (at_cross m n marks q h) in
    absurd (h.1 (subst (λ (p : ℕ). HasNoSpan m n (mark_at marks p)) e k.1))
told_once m n marks x (Cross q) (Repeated r) f g h k s t = let e =
    one_place m n marks r q (at_repeated m n marks r k) (at_cross m n marks q h) in
    absurd (h.2 (subst (λ (p : ℕ). IsRepeated marks p) e k.2))
told_once m n marks x (Cross q) (Cross r) f g h k s t = s ∙ sym t
told_once m n marks x (Cross q) NoMemory f g h k s t = absurd t
told_once m n marks x NoMemory b f g h k s t = absurd s

mark_excludes : (ps : List PairParts) (before : List PairMark) (x : PairMark) (f : Fault) → IsGoodMark ps before x
    → HasMarkFault ps before x f → ⊥
mark_excludes ps before x f g (no_pair l) = pair_there ps x.pair g.pair g.is_pair l
mark_excludes ps before x f g (of_pair p cause fault is h t) =
    let P : PairParts → Type 0 = λ q. AreSoundMarks (rows q.strip) (cols q.strip) (marks_of x.pair (before ++ x ∷ []))
    in
    told_bad (rows p.strip) (cols p.strip) (marks_of x.pair (before ++ x ∷ [])) x cause fault
    (subst P (same_pair ps x.pair x.pair g.pair p refl g.is_pair is) g.good) h t

mark_once : (ps : List PairParts) (before : List PairMark) (x : PairMark) (f g : Fault) → HasMarkFault ps before x f
    → HasMarkFault ps before x g → f ≡ g
mark_once ps before x f g (no_pair l) (no_pair m) = refl
mark_once ps before x f g (no_pair l) (of_pair p cause fault is h t) = absurd (pair_there ps x.pair p is l)
mark_once ps before x f g (of_pair p cause fault is h t) (no_pair m) = absurd (pair_there ps x.pair p is m)
mark_once ps before x f g (of_pair p a fault is h s) (of_pair q b other has k t) =
    let marks = marks_of x.pair (before ++ x ∷ []) in
    let P : PairParts → Type 0 = λ r. IsFirstFaultOfMarks (rows r.strip) (cols r.strip) marks b in
    told_once (rows p.strip) (cols p.strip) marks x a b fault other h
    (subst P (same_pair ps x.pair x.pair q p refl has is) k) s t

-- a line that says no mark is not among lines that do
not_among : (bs : List Kept) (l : Kept) (more all : List Kept) (f : Fault) → all ≡ bs ++ l ∷ more → All IsMarkLine all
    → IsNoMark l f → ⊥
not_among bs l more all f e h k =
    let P : List Kept → Type 0 = λ ls. AllByRecursion IsMarkLine ls in
    let y = all_amid IsMarkLine bs l more (subst P e (recursion_from_All IsMarkLine all h)) in
    k.0 y.0 y.1

one_form : (tail : List Kept) (f g : Fault) → IsFormFault tail f → IsFormFault tail g → f ≡ g
one_form tail f g h k =
    elim (compare h.before h.item h.after k.before k.item k.after (sym h.split ∙ k.split)) [
      | inl s ↦ h.has.1 ∙ ap (λ (l : Kept). MarkForm l.0) s.1 ∙ sym k.has.1
      | inr (inl s) ↦ absurd (not_among h.before h.item s.more k.before f s.split k.good_before h.has)
      | inr (inr s) ↦ absurd (not_among k.before k.item s.more h.before g s.split h.good_before k.has)
    ]

one_mark_fault : (ps : List PairParts) (xs : List PairMark) (f g : Fault) → IsMarkFault ps xs f → IsMarkFault ps xs g
    → f ≡ g
one_mark_fault ps xs f g h k =
    elim (compare h.before h.mark h.after k.before k.mark k.after (sym h.split ∙ k.split)) [
      | inl s ↦ mark_once ps k.before k.mark f g
          (subst₂ (λ (b : List PairMark) (x : PairMark). HasMarkFault ps b x f) s.0 s.1 h.has) k.has
      | inr (inl s) ↦ absurd (mark_excludes ps h.before h.mark f (k.good_before h.before h.mark s.more s.split) h.has)
      | inr (inr s) ↦ absurd (mark_excludes ps k.before k.mark g (h.good_before k.before k.mark s.more s.split) k.has)
    ]

good_or_fault : (ps : List PairParts) (xs : List PairMark) (f : Fault) → AreGoodMarks ps xs → IsMarkFault ps xs f → ⊥
good_or_fault ps xs f g h = mark_excludes ps h.before h.mark f (g h.before h.mark h.after h.split) h.has

-- equal marked tilings have one text
same_text : (t : MarkedPair) (m n : Marked) → SaySame m n → solved_text t m ≡ solved_text t n
same_text t m n s =
    let k = t.number in
    let q = length t.marks in
    ap (λ (at : Mark). marked_text k q at m.cost m.word.items (map part_of m.pieces.items)) s.at
    ∙ ap (λ (cost : ℤ). marked_text k q n.at cost m.word.items (map part_of m.pieces.items)) s.cost
    ∙ ap (λ (word : List Step). marked_text k q n.at n.cost word (map part_of m.pieces.items)) s.word
    ∙ ap (λ (parts : List Part). marked_text k q n.at n.cost n.word.items parts) s.pieces

all_same : (ts : List MarkedPair) (ms ns : List Marked) → AllZip SolvesPair ts ms → AllZip SolvesPair ts ns
    → all_text ts ms ≡ all_text ts ns
all_same [] [] [] h k = refl
all_same [] [] (n ∷ ns) h k = absurd k
all_same [] (m ∷ ms) ns h k = absurd h
all_same (t ∷ ts) [] ns h k = absurd h
all_same (t ∷ ts) (m ∷ ms) [] h k = absurd k
all_same (t ∷ ts) (m ∷ ms) (n ∷ ns) h k =
    ap₂ (λ (a b : List ℕ). a ++ b) (same_text t m n
    (solved_marked_unique t.strip t.marks m n h.0.good h.0.solves k.0.solves)) (all_same ts ms ns h.1 k.1)

-- the stage of the marks, and the whole rule
one_on_marks : (ps : List PairParts) (xs : List PairMark) → IsOne (on_marks ps xs)
one_on_marks ps xs =
    let ts = marked_from 1 ps xs in
    one_then (IsMarkFault ps xs) (AreSolved ps xs) (λ ms. Tells (landmarks_text ts ms) 0)
    (λ f g t u h k. one_mark_fault ps xs f g h k) (λ ms f t is h. good_or_fault ps xs f is.good h)
    (λ ms ns is has. agree_tells (landmarks_text ts ms) (landmarks_text ts ns) 0 0
    (ap (λ (w : List ℕ). w ++ (codes "MARKED " ++ (decimal (length ts) ++ codes "\n")))
    (all_same ts ms ns is.each has.each)) refl)

pub one_landmarks : (F : FileParts) (tail : List Kept) → IsOne (landmarks F tail)
one_landmarks F tail =
    one_numbered F _ (λ ps.
    one_stage (IsFormFault tail) (AreMarks tail) (on_marks ps) (λ f g t u h k. one_form tail f g h k)
    (λ xs f t h k. not_among k.before k.item k.after tail f k.split (all_lines tail xs h) k.has) (one_marks tail)
    (λ xs h. one_on_marks ps xs))
