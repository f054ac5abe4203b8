-- Lines that say marks, in order.
use Rattle.std.proofs.Common.{◌≡◌, ℕ, ◌+◌, ◌-◌, ◌≤◌, ℤ, pos, List, [], ◌∷◌, ◌++◌, length, drop, Bool, true, false, cond, refl, sym, subst, ap, ◌∙◌, append_assoc, append-nil, arith, length-take}
use Rattle.std.specs.Prelude.{All, slice_range}
use Rattle.std.specs.List.{AllZip, AllByRecursion}
use Rattle.std.proofs.lemmas.List.Elements.{All-from_recursion}
use Rattle.text_io.specs.Text.{words, is_blank, word_ends, onto_first}
use Rattle.text_io.specs.WordLists.{Word, number, Matches, Line, Kept}
use Rattle.fku_types.specs.declared.fault.Fault.TheVariants.{MarkForm}
use Rattle.pair_commands.specs.declared.mark_lines.PairMark.{PairMark}
use Rattle.pair_commands.specs.Landmarks.{mark_line, SaysMark, AreMarks, IsMarkLine, IsFormFault}
use Rattle.pair_commands.specs.MarkReading.{MarksSoFar}

-- the words of a mark's line from each number on
abbrev pub from_col : PairMark → List Word
from_col x = number (pos x.mark.col) ∷ []

abbrev pub from_row : PairMark → List Word
from_row x = number (pos x.mark.row) ∷ from_col x

abbrev pub from_pair : PairMark → List Word
from_pair x = number (pos x.pair) ∷ from_row x

-- a line has at most as many words as bytes
onto_few : (b : ℕ) (parts : List (List ℕ)) → length (onto_first b parts) ≤ 1 + length parts
onto_few b [] = omega arith
onto_few b (p ∷ ps) = omega arith

word_few : (blank ends : Bool) (b : ℕ) (bs : List ℕ) → length (words bs) ≤ length bs
    → length (cond blank (words bs) (cond ends ((b ∷ []) ∷ words bs) (onto_first b (words bs)))) ≤ 1 + length bs
word_few true ends b bs h = omega (arith, h)
word_few false true b bs h = omega (arith, h)
word_few false false b bs h = omega (arith, h, onto_few b (words bs))

pub words_few : (line : List ℕ) → length (words line) ≤ length line
words_few [] = omega arith
words_few (b ∷ bs) = omega (arith, word_few (is_blank b) (word_ends bs) b bs (words_few bs))

four : (ws : Line) (x : PairMark) → Matches ws (mark_line x) → length ws ≡ 4
four [] x m = absurd m
four (a ∷ []) x m = absurd m.1
four (a ∷ b ∷ []) x m = absurd m.1.1
four (a ∷ b ∷ c ∷ []) x m = absurd m.1.1.1
four (a ∷ b ∷ c ∷ d ∷ []) x m = refl
four (a ∷ b ∷ c ∷ d ∷ e ∷ ws) x m = absurd m.1.1.1.1

-- so the line of a mark has at least four bytes
pub long_line : (bytes : List ℕ) (first end : ℕ) (x : PairMark) → SaysMark (words (slice_range bytes first end)) x
    → first + 4 ≤ end
long_line bytes first end x s =
    let line = slice_range bytes first end in
    omega (arith, four (words line) x s.match, words_few line, length-take (end - first) (drop first bytes))

-- lists that are related one by one
pub zip_join : {A B : Type 0} (R : A → B → Type 0) (xs us : List A) (ys vs : List B) → AllZip R xs ys → AllZip R us vs
    → AllZip R (xs ++ us) (ys ++ vs)
zip_join R [] us [] vs h k = k
zip_join R [] us (y ∷ ys) vs h k = absurd h
zip_join R (x ∷ xs) us [] vs h k = absurd h
zip_join R (x ∷ xs) us (y ∷ ys) vs h k = (h.0, zip_join R xs us ys vs h.1 k)

lines_are : (tail : List Kept) (marks : List PairMark) → AreMarks tail marks → AllByRecursion IsMarkLine tail
lines_are [] [] h = tt
lines_are [] (x ∷ marks) h = absurd h
lines_are (k ∷ tail) [] h = absurd h
lines_are (k ∷ tail) (x ∷ marks) h = ((x, h.0), lines_are tail marks h.1)

pub all_lines : (tail : List Kept) (marks : List PairMark) → AreMarks tail marks → All IsMarkLine tail
all_lines tail marks h = All-from_recursion IsMarkLine tail (lines_are tail marks h)

numbers_are : (tail : List Kept) (marks : List PairMark) → AreMarks tail marks
    → AllByRecursion (λ (x : PairMark). 1 ≤ x.pair) marks
numbers_are [] [] h = tt
numbers_are [] (x ∷ marks) h = absurd h
numbers_are (k ∷ tail) [] h = absurd h
numbers_are (k ∷ tail) (x ∷ marks) h = (h.0.pair.0, numbers_are tail marks h.1)

pub all_numbers : (tail : List Kept) (marks : List PairMark) → AreMarks tail marks
    → All (λ (x : PairMark). 1 ≤ x.pair) marks
all_numbers tail marks h = All-from_recursion (λ (x : PairMark). 1 ≤ x.pair) marks (numbers_are tail marks h)

-- the reader of lines: at its start, one line further, at a line that says no mark, and at the end
pub marks_none : (tail : List Kept) → MarksSoFar tail [] tail
marks_none tail = record { done = []; split = refl; are = tt }

pub marks_more : (tail rest left : List Kept) (marks new : List PairMark) (n : ℕ) (ws : Line) (x : PairMark)
    → MarksSoFar tail marks rest → rest ≡ (n, ws) ∷ left → SaysMark ws x → new ≡ marks ++ x ∷ []
    → MarksSoFar tail new left
marks_more tail rest left marks new n ws x h e s more =
    let line : Kept = (n, ws) in
    record {
      done = h.done ++ line ∷ [];
      split = h.split ∙ ap (λ (k : List Kept). h.done ++ k) e ∙ sym (append_assoc h.done (line ∷ []) left);
      are = subst (AreMarks (h.done ++ line ∷ [])) (sym more)
          (zip_join (λ (k : Kept) (y : PairMark). SaysMark k.1 y) h.done (line ∷ []) marks (x ∷ []) h.are (s, tt));
    }

pub marks_fault : (tail rest left : List Kept) (marks : List PairMark) (n : ℕ) (ws : Line) → MarksSoFar tail marks rest
    → rest ≡ (n, ws) ∷ left → ((x : PairMark) → SaysMark ws x → ⊥) → IsFormFault tail (MarkForm n)
marks_fault tail rest left marks n ws h e none = record {
  before = h.done;
  item = (n, ws);
  after = left;
  split = h.split ∙ ap (λ (k : List Kept). h.done ++ k) e;
  good_before = all_lines h.done marks h.are;
  has = (none, refl);
}

pub marks_end : (tail rest : List Kept) (marks : List PairMark) → MarksSoFar tail marks rest → rest ≡ []
    → AreMarks tail marks
marks_end tail rest marks h e = subst (λ (k : List Kept). AreMarks k marks)
    (sym (h.split ∙ ap (λ (k : List Kept). h.done ++ k) e ∙ append-nil h.done)) h.are
