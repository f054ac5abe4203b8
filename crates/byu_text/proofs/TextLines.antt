-- The lines of a text that is joined from lines.
use Rattle.std.proofs.Common.{◌≡◌, ℕ, ◌==◌, Bool, true, false, cond, List, [], ◌∷◌, ◌++◌, refl, sym, ap, ap₂, ◌∙◌, append_assoc}
use Rattle.std.specs.List.{concat}
use Rattle.std.specs.List.{AllByRecursion}
use Rattle.std.proofs.lemmas.Bool.{ne_eqb, eqb-true}
use Rattle.byu_text.specs.Lines.{with_byte_before, text_lines_of}

-- bytes without a line feed
abbrev pub IsOther : ℕ → Type 0
IsOther b = b ≡ 10 → ⊥

abbrev pub IsBare : List ℕ → Type 0
IsBare bytes = AllByRecursion IsOther bytes

-- bytes without a line feed, and then one
pub record IsLine (line : List ℕ) : Type 0 where
  pub body : List ℕ
  pub bare : IsBare body
  pub is : line ≡ body ++ 10 ∷ []

past_feed : (t : Bool) (xs ys : List (List ℕ)) → t ≡ false → cond t xs ys ≡ ys
past_feed false xs ys e = refl
past_feed true xs ys e = absurd (let f : true ≡ false = e in cc)

first_line : (body rest : List ℕ) → IsBare body
    → text_lines_of ((body ++ 10 ∷ []) ++ rest) ≡ (body ++ 10 ∷ []) ∷ text_lines_of rest
first_line [] rest bare = refl
first_line (b ∷ body) rest bare =
    past_feed (b == 10) ((10 ∷ []) ∷ text_lines_of ((body ++ 10 ∷ []) ++ rest))
    (with_byte_before b (text_lines_of ((body ++ 10 ∷ []) ++ rest))) (ne_eqb b 10 bare.0)
    ∙ ap (with_byte_before b) (first_line body rest bare.1)

pub line_first : (line rest : List ℕ) → IsLine line → text_lines_of (line ++ rest) ≡ line ∷ text_lines_of rest
line_first line rest l =
    ap (λ (x : List ℕ). text_lines_of (x ++ rest)) l.is ∙ first_line l.body rest l.bare
    ∙ ap (λ (x : List ℕ). x ∷ text_lines_of rest) (sym l.is)

-- lines in front of a text are its first lines
pub lines_first : (lines : List (List ℕ)) (rest : List ℕ) → AllByRecursion IsLine lines
    → text_lines_of (concat lines ++ rest) ≡ lines ++ text_lines_of rest
lines_first [] rest all = refl
lines_first (line ∷ lines) rest all =
    ap text_lines_of (append_assoc line (concat lines) rest)
    ∙ line_first line (concat lines ++ rest) all.0
    ∙ ap (λ (l : List (List ℕ)). line ∷ l) (lines_first lines rest all.1)

concat-before : (b : ℕ) (lines : List (List ℕ)) → concat (with_byte_before b lines) ≡ b ∷ concat lines
concat-before b [] = refl
concat-before b (line ∷ lines) = refl

-- a text is its lines, one after another
pub concat-lines : (text : List ℕ) → concat (text_lines_of text) ≡ text
concat-lines [] = refl
concat-lines (b ∷ bs) = by_byte (b == 10) refl (concat-lines bs)
  where
    by_byte : (t : Bool) → (b == 10) ≡ t → concat (text_lines_of bs) ≡ bs
        → concat (cond t ((10 ∷ []) ∷ text_lines_of bs) (with_byte_before b (text_lines_of bs))) ≡ b ∷ bs
    by_byte true e rest = ap₂ (λ (x : ℕ) (l : List ℕ). x ∷ l) (sym (eqb-true b 10 e)) rest
    by_byte false e rest = concat-before b (text_lines_of bs) ∙ ap (λ (l : List ℕ). b ∷ l) rest
