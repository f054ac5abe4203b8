-- The text of pairs with marks, with one more pair.
use Rattle.std.proofs.Common.{◌≡◌, ℕ, ◌+◌, ◌<◌, List, [], ◌∷◌, ◌++◌, length, take, get_or, Vec, Ok, refl, sym, subst, ap, ap₂, ◌∙◌, append_assoc, append-nil, arith, length-append, length-take}
use Rattle.std.specs.List.{AllZip}
use Rattle.std.specs.Global.{Global}
use Rattle.fku_types.proofs.ListLaws.{take_next}
use Rattle.strip_graph.specs.Strips.{Strip, rows, cols}
use Rattle.landmarks.specs.declared.marks.Mark.{Mark}
use Rattle.landmarks.specs.declared.pieces.Marked.{Marked}
use Rattle.landmarks.specs.Faults.{AreSoundMarks}
use Rattle.landmarks.specs.Marked.{SolvesMarked}
use Rattle.section_pairs.specs.Pairs.{PairParts}
use Rattle.pair_commands.specs.declared.mark_lines.PairMark.{PairMark}
use Rattle.pair_commands.specs.Landmarks.{marks_of, MarkedPair, if_marked, marked_from, SolvesPair, AreSolved, IsMarkFault, all_text, landmarks_text, on_marks}
use Rattle.pair_commands.specs.MarkReading.{IsPairText, IsLandmarksText, marked_of}
use Rattle.command_replies.specs.Reply.{Replies, Tells, told}
use Rattle.pair_commands.proofs.MarkLines.{zip_join}
use Rattle.command_replies.proofs.ReplyLemmas.{went_on}

pub some_lines : (k : ℕ) (s : Strip) (marks : List Mark) (old new : List ℕ) (t : Marked) → 0 < length marks
    → AreSoundMarks (rows s) (cols s) marks → SolvesMarked s marks t → new ≡ old ++ marked_of k (length marks) t
    → IsPairText k s marks old new 1
some_lines k s [] old new t l g h e = absurd (omega (arith, l))
some_lines k s (x ∷ xs) old new t l g h e = record {
  solved = t ∷ [];
  each = (record { good = g; solves = h }, tt);
  put = e ∙ ap (λ (w : List ℕ). old ++ w) (sym (append-nil (marked_of k (length (x ∷ xs)) t)));
  counted = refl;
  one = omega arith;
}

-- the pairs from a number on, with one more
marked_more : (k : ℕ) (ps : List PairParts) (p : PairParts) (marks : List PairMark)
    → marked_from k (ps ++ p ∷ []) marks ≡ marked_from k ps marks
    ++ if_marked (k + length ps) p.strip (marks_of (k + length ps) marks)
marked_more k [] p marks =
    let e : k ≡ k + 0 = omega arith in append-nil (if_marked k p.strip (marks_of k marks))
    ∙ ap (λ (n : ℕ). if_marked n p.strip (marks_of n marks)) e
marked_more k (q ∷ ps) p marks =
    let e : k + 1 + length ps ≡ k + length (q ∷ ps) = omega arith in
    let here = if_marked k q.strip (marks_of k marks) in
    let later = marked_from (k + 1) ps marks in
    ap (λ (ts : List MarkedPair). here ++ ts)
    (marked_more (k + 1) ps p marks ∙ ap (λ (n : ℕ). later ++ if_marked n p.strip (marks_of n marks)) e)
    ∙ sym (append_assoc here later (if_marked (k + length (q ∷ ps)) p.strip (marks_of (k + length (q ∷ ps)) marks)))

all_text-join : (ts us : List MarkedPair) (ms ns : List Marked) → AllZip SolvesPair ts ms
    → all_text (ts ++ us) (ms ++ ns) ≡ all_text ts ms ++ all_text us ns
all_text-join [] us [] ns h = refl
all_text-join [] us (m ∷ ms) ns h = absurd h
all_text-join (t ∷ ts) us [] ns h = absurd h
all_text-join (t ∷ ts) us (m ∷ ms) ns h =
    let here = marked_of t.number (length t.marks) m in
    ap (λ (w : List ℕ). here ++ w) (all_text-join ts us ms ns h.1)
    ∙ sym (append_assoc here (all_text ts ms) (all_text us ns))

-- the text of the first pairs
pub record TextSoFar (ps : List PairParts) (marks : List PairMark) (i : ℕ) (text : List ℕ) (count : ℕ) : Type 0 where
  pub solved : List Marked
  pub each : AllZip SolvesPair (marked_from 1 (take i ps) marks) solved
  pub is : text ≡ all_text (marked_from 1 (take i ps) marks) solved
  pub counted : count ≡ length (marked_from 1 (take i ps) marks)

pub text_more : (ps : List PairParts) (marks : List PairMark) (i : ℕ) (p : PairParts) (group : List Mark)
    (text new : List ℕ) (count n : ℕ) → i < length ps → p ≡ get_or ps i p → group ≡ marks_of (i + 1) marks
    → TextSoFar ps marks i text count → IsPairText (i + 1) p.strip group text new n
    → TextSoFar ps marks (i + 1) new (count + n)
text_more ps marks i p group text new count n l e g h k =
    let front = take i ps in
    let before = marked_from 1 front marks in
    let here = if_marked (i + 1) p.strip group in
    let number : 1 + length front ≡ i + 1 = omega (arith, length-take i ps, l) in
    let grown : marked_from 1 (take (i + 1) ps) marks ≡ before ++ here =
    ap (λ (qs : List PairParts). marked_from 1 qs marks) (take_next ps i p l e)
    ∙ marked_more 1 front p marks
    ∙ ap (λ (m : ℕ). before ++ if_marked m p.strip (marks_of m marks)) number
    ∙ ap (λ (ms : List Mark). before ++ if_marked (i + 1) p.strip ms) (sym g) in
    record {
      solved = h.solved ++ k.solved;
      each = subst (λ (ts : List MarkedPair). AllZip SolvesPair ts (h.solved ++ k.solved)) (sym grown)
          (zip_join SolvesPair before here h.solved k.solved h.each k.each);
      is = k.put ∙ ap (λ (w : List ℕ). w ++ all_text here k.solved) h.is
          ∙ sym (all_text-join before here h.solved k.solved h.each)
          ∙ ap (λ (ts : List MarkedPair). all_text ts (h.solved ++ k.solved)) (sym grown);
      counted = ap₂ (λ (a b : ℕ). a + b) h.counted k.counted ∙ sym (length-append before here) ∙ ap length (sym grown);
    }

-- a text that solves the marks is the reply, with a count of 0 pairs
pub text_told : (ps : List PairParts) (marks : List PairMark) (count : ℕ) (v : Vec ℕ Global)
    → IsLandmarksText ps marks v.items → Replies (on_marks ps marks) count count (Ok v)
text_told ps marks count v h =
    went_on (IsMarkFault ps marks) (AreSolved ps marks) (λ ms. Tells (landmarks_text (marked_from 1 ps marks) ms) 0)
    count count (Ok v) h.solved h.are
    (record { text = (0, ap (λ (t : List ℕ). told t 0) h.is, refl); fault = tt; later = omega arith })
