-- `landmarks`: for each pair with marked spans the least tiling that contains them, with a certificate for each piece.
use Rattle.std.specs.Prelude.{ℕ, ℤ, pos, ◌≡◌, ◌+◌, ◌<◌, ◌≤◌, ◌^◌, ◌==◌, List, [], ◌∷◌, ◌++◌, map, length, codes, decimal}
use Rattle.std.specs.List.{AllZip, filter, flat_map}
use Rattle.std.specs.Fmt.{signed_decimal}
use Rattle.text_io.specs.WordLists.{Word, text, number, Matches, Line, Kept, line_text}
use Rattle.fku_types.specs.declared.fault.Fault.{Fault}
use Rattle.fku_types.specs.declared.fault.Fault.TheVariants.{NoPair, MarkForm, MarkRepeated, MarksCross, NoSpan as NoSuchSpan}
use Rattle.section_core.specs.Parts.{FileParts}
use Rattle.strip_graph.specs.declared.tilings.Step.{Step}
use Rattle.strip_graph.specs.Strips.{Strip, rows, cols}
use Rattle.cert_checker.specs.CertTexts.{letter, row_line, rows_in}
use Rattle.landmarks.specs.declared.marks.Mark.{Mark}
use Rattle.landmarks.specs.declared.marks.MarkFault.{MarkFault}
use Rattle.landmarks.specs.declared.marks.MarkFault.TheVariants.{NoSpan, Repeated, Cross, NoMemory}
use Rattle.landmarks.specs.declared.pieces.Marked.{Marked}
use Rattle.landmarks.specs.Faults.{AreSoundMarks, IsFirstFaultOfMarks as IsFirstMarkFault}
use Rattle.landmarks.specs.Marked.{SolvesMarked, Part, part_of}
use Rattle.section_pairs.specs.SectionFaults.{IsFirstFault}
use Rattle.section_pairs.specs.Pairs.{PairParts}
use Rattle.pair_commands.specs.declared.mark_lines.PairMark.{PairMark}
use Rattle.command_replies.specs.Reply.{Reply, Then, Tells}
use Rattle.pair_commands.specs.OnePair.{IsPairOf}
use Rattle.command_replies.specs.Stages.{on_numbered}

-- the words of a mark's line
abbrev pub mark_line : PairMark → List Word
mark_line x = text (codes "MARK") ∷ number (pos x.pair) ∷ number (pos x.mark.row) ∷ number (pos x.mark.col) ∷ []

-- a line says a mark: pairs are counted from 1, rows and columns from 0, and no number is above 4,294,967,295
pub record SaysMark (ws : Line) (x : PairMark) : Type 0 where
  pub match : Matches ws (mark_line x)
  pub pair : (1 ≤ x.pair) × (x.pair < 2 ^ 32)
  pub row : x.mark.row < 2 ^ 32
  pub col : x.mark.col < 2 ^ 32

-- the kept lines of a tail say these marks, one each
abbrev pub AreMarks : List Kept → List PairMark → Type 0
AreMarks tail marks = AllZip (λ line x. SaysMark line.1 x) tail marks

-- a line says a mark; it says none, and the fault has its number
abbrev pub IsMarkLine : Kept → Type 0
IsMarkLine line = (x : PairMark) × SaysMark line.1 x

abbrev pub IsNoMark : Kept → Fault → Type 0
IsNoMark line fault = ((x : PairMark) → SaysMark line.1 x → ⊥) × (fault ≡ MarkForm line.0)

-- the fault of the first kept line that says no mark
abbrev pub IsFormFault : List Kept → Fault → Type 0
IsFormFault tail fault = IsFirstFault IsMarkLine IsNoMark tail fault

-- the marks of the pair of a number, in the order of their lines
abbrev pub marks_of : ℕ → List PairMark → List Mark
marks_of k marks = map (λ (x : PairMark). x.mark) (filter (λ (x : PairMark). x.pair == k) marks)

-- the fault of an input for a fault of marks; `NoMemory` is not a fault of marks
abbrev pub IsToldOf : PairMark → MarkFault → Fault → Type 0
IsToldOf x (NoSpan q) fault = fault ≡ NoSuchSpan x.pair x.mark.row x.mark.col
IsToldOf x (Repeated q) fault = fault ≡ MarkRepeated x.pair x.mark.row x.mark.col
IsToldOf x (Cross q) fault = fault ≡ MarksCross x.pair x.mark.row x.mark.col
IsToldOf x NoMemory fault = ⊥

-- nothing is wrong with a mark after others: its pair exists, and the marks of this pair up to it are good
pub record IsGoodMark (pairs : List PairParts) (before : List PairMark) (x : PairMark) : Type 0 where
  pub pair : PairParts
  pub is_pair : IsPairOf pairs x.pair pair
  pub good : AreSoundMarks (rows pair.strip) (cols pair.strip) (marks_of x.pair (before ++ x ∷ []))

-- what is wrong with a mark after others: there is no such pair, or the marks of its pair up to it have a fault
pub data HasMarkFault (pairs : List PairParts) (before : List PairMark) (x : PairMark) : Fault → Type 0 where
  no_pair : length pairs < x.pair → HasMarkFault pairs before x (NoPair x.pair)
  of_pair : (p : PairParts) (cause : MarkFault) (fault : Fault) → IsPairOf pairs x.pair p
      → IsFirstMarkFault (rows p.strip) (cols p.strip) (marks_of x.pair (before ++ x ∷ [])) cause
      → IsToldOf x cause fault → HasMarkFault pairs before x fault

-- nothing is wrong with any mark
abbrev pub AreGoodMarks : List PairParts → List PairMark → Type 0
AreGoodMarks pairs marks =
    (before : List PairMark) (x : PairMark) (after : List PairMark) → marks ≡ before ++ x ∷ after
    → IsGoodMark pairs before x

-- the fault of the first mark with one
pub record IsMarkFault (pairs : List PairParts) (marks : List PairMark) (fault : Fault) : Type 0 where
  pub before : List PairMark
  pub mark : PairMark
  pub after : List PairMark
  pub split : marks ≡ before ++ mark ∷ after
  pub good_before : AreGoodMarks pairs before
  pub has : HasMarkFault pairs before mark fault

-- a pair by its number, with marks of it
pub record MarkedPair : Type 0 where
  pub number : ℕ
  pub strip : Strip
  pub marks : List Mark

-- the marked pair, if there are marks
abbrev pub if_marked : ℕ → Strip → List Mark → List MarkedPair
if_marked k strip [] = []
if_marked k strip (x ∷ xs) = (record { number = k; strip = strip; marks = x ∷ xs }) ∷ []

-- the pairs from a number on that have marks
abbrev pub marked_from : ℕ → List PairParts → List PairMark → List MarkedPair
marked_from k [] marks = []
marked_from k (p ∷ ps) marks = if_marked k p.strip (marks_of k marks) ++ marked_from (k + 1) ps marks

-- the marks are good, and the least tiling that contains them is found with its pieces
pub record SolvesPair (t : MarkedPair) (m : Marked) : Type 0 where
  pub good : AreSoundMarks (rows t.strip) (cols t.strip) t.marks
  pub solves : SolvesMarked t.strip t.marks m

-- every mark is good, and each pair with marks is solved
pub record AreSolved (pairs : List PairParts) (marks : List PairMark) (solved : List Marked) : Type 0 where
  pub good : AreGoodMarks pairs marks
  pub each : AllZip SolvesPair (marked_from 1 pairs marks) solved

-- the first line of a piece: its place, size and cost
abbrev pub piece_head : Mark → ℕ → ℕ → ℤ → List ℕ
piece_head from rows cols cost =
    codes "PIECE " ++ (decimal from.row
    ++ (codes " " ++ (decimal from.col
    ++ (codes " ROWS " ++ (decimal rows
    ++ (codes " COLS " ++ (decimal cols ++ (codes " COST " ++ (signed_decimal cost ++ codes "\n")))))))))

-- its lines: the values row by row
abbrev pub piece_text : Part → List ℕ
piece_text p =
    piece_head p.from p.rows p.cols p.cost
    ++ flat_map line_text (map row_line (rows_in (p.cols + 1) (p.rows + 1) p.values))

-- the lines of a pair: its number, how many marks it has, the cost and the start of the tiling; the word; the pieces
abbrev pub pair_head : ℕ → ℕ → ℤ → Mark → List ℕ
pair_head k count cost at =
    codes "PAIR " ++ (decimal k ++ (codes " MARKS "
    ++ (decimal count ++ (codes " COST "
    ++ (signed_decimal cost ++ (codes " AT "
    ++ (decimal at.row ++ (codes " " ++ (decimal at.col ++ codes "\nWORD ")))))))))

abbrev pub marked_text : ℕ → ℕ → Mark → ℤ → List Step → List Part → List ℕ
marked_text k count at cost word pieces =
    pair_head k count cost at ++ (map letter word ++ (codes "\n" ++ flat_map piece_text pieces))

abbrev pub solved_text : MarkedPair → Marked → List ℕ
solved_text t m = marked_text t.number (length t.marks) m.at m.cost m.word.items (map part_of m.pieces.items)

-- the lines of all pairs
abbrev pub all_text : List MarkedPair → List Marked → List ℕ
all_text [] solved = []
all_text (t ∷ ts) [] = []
all_text (t ∷ ts) (m ∷ ms) = solved_text t m ++ all_text ts ms

-- the whole text
abbrev pub landmarks_text : List MarkedPair → List Marked → List ℕ
landmarks_text ts solved = all_text ts solved ++ (codes "MARKED " ++ (decimal (length ts) ++ codes "\n"))

-- the reply for marks of pairs: their first fault, or the tilings, for which no pair is counted
abbrev pub on_marks : List PairParts → List PairMark → Reply → Type 0
on_marks pairs marks =
    Then (IsMarkFault pairs marks) (AreSolved pairs marks)
    (λ solved. Tells (landmarks_text (marked_from 1 pairs marks) solved) 0)

-- the reply for objects with a tail
abbrev pub landmarks : FileParts → List Kept → Reply → Type 0
landmarks F tail = on_numbered F (λ pairs. Then (IsFormFault tail) (AreMarks tail) (on_marks pairs))
