-- Numbers after keywords, and the first line of a certificate's text.
use Rattle.std.proofs.Common.{◌≡◌, ◌≤◌, ℕ, ℤ, pos, List, [], ◌∷◌, ◌++◌, Option, None, Some, Bor, ap, sym, ◌∙◌, subst}
use Rattle.std.specs.Prelude.{codes, MatchOption}
use Rattle.text_io.specs.Text.{words}
use Rattle.text_io.specs.WordLists.{Word, text, number, Matches, Line, IsFirstCount}
use Rattle.cert_checker.specs.CertTexts.{CertHead, named, head_line}
use Rattle.cert_checker.specs.LineSteps.{HasNumberAfter, NoneNamed, IsBetween}

-- the number that was read after a keyword is the only one
pub named_one : (ws : Line) (k : List ℕ) (z : ℤ) (more : Line) (k' : List ℕ) (z' : ℤ) (ps : List Word)
    → HasNumberAfter ws k z more → Matches ws (text k' ∷ number z' ∷ ps) → (z' ≡ z) × Matches more ps
named_one ws k z more k' z' ps n m =
    let h = subst (λ (x : Line). Matches x (text k' ∷ number z' ∷ ps)) n.words m in
    let e : Some z' ≡ Some z = sym h.1.0 ∙ n.says in
    (let f : z' ≡ z = cc in f, h.1.1)

-- words that match a keyword and a number
pub record NamedRest (ws : Line) (k : List ℕ) (z : ℤ) (ps : List Word) : Type 0 where
  pub more : Line
  pub named : HasNumberAfter ws k z more
  pub rest : Matches more ps

pub named_is : (ws : Line) (k : List ℕ) (z : ℤ) (ps : List Word) → Matches ws (text k ∷ number z ∷ ps)
    → NamedRest ws k z ps
named_is [] k z ps m = absurd m
named_is (a ∷ []) k z ps m = absurd m.1
named_is (a ∷ b ∷ more) k z ps m =
    record {
      more = more;
      named = record { word = b; words = ap (λ (x : List ℕ). x ∷ b ∷ more) m.0; says = m.1.0 };
      rest = m.1.1;
    }

pub named_tail : (ws : Line) (k : List ℕ) (z : ℤ) (more : Line) (z' : ℤ) (ps : List Word) → HasNumberAfter ws k z more
    → Matches ws (text k ∷ number z' ∷ ps) → Matches more ps
named_tail ws k z more z' ps n m = (named_one ws k z more k z' ps n m).1

pub named_none : (P : ℤ → Type 0) (ws : Line) (k : List ℕ) (z : ℤ) (ps : List Word) → NoneNamed P ws k → P z
    → Matches ws (text k ∷ number z ∷ ps) → ⊥
named_none P ws k z ps none p m = let a = named_is ws k z ps m in none z a.more p a.named

-- the words of a first line from each number on
abbrev pub from_start : CertHead → List Word
from_start h = named (codes "START") (pos h.start)

abbrev pub from_cost : CertHead → List Word
from_cost h = named (codes "COST") h.cost ++ from_start h

abbrev pub from_cols : CertHead → List Word
from_cols h = named (codes "COLS") (pos h.cols) ++ from_cost h

abbrev pub from_rows : CertHead → List Word
from_rows h = named (codes "ROWS") (pos h.rows) ++ from_cols h

abbrev pub from_pair : CertHead → List Word
from_pair h = named (codes "PAIR") (pos h.pair) ++ from_rows h

pos_same : (m n : ℕ) → pos m ≡ pos n → m ≡ n
pos_same m n e = cc

-- a line is the first line of one certificate head at most
pub head_one : (ws : Line) (h g : CertHead) → Matches ws (head_line h) → Matches ws (head_line g) → g ≡ h
head_one ws h g m m' =
    let a1 = named_is ws (codes "CERT") (pos 1) (from_pair h) m in
    let b1 = named_one ws (codes "CERT") (pos 1) a1.more (codes "CERT") (pos 1) (from_pair g) a1.named m' in
    let a2 = named_is a1.more (codes "PAIR") (pos h.pair) (from_rows h) a1.rest in
    let b2 = named_one a1.more (codes "PAIR") (pos h.pair) a2.more (codes "PAIR") (pos g.pair) (from_rows g) a2.named
    b1.1 in
    let a3 = named_is a2.more (codes "ROWS") (pos h.rows) (from_cols h) a2.rest in
    let b3 = named_one a2.more (codes "ROWS") (pos h.rows) a3.more (codes "ROWS") (pos g.rows) (from_cols g) a3.named
    b2.1 in
    let a4 = named_is a3.more (codes "COLS") (pos h.cols) (from_cost h) a3.rest in
    let b4 = named_one a3.more (codes "COLS") (pos h.cols) a4.more (codes "COLS") (pos g.cols) (from_cost g) a4.named
    b3.1 in
    let a5 = named_is a4.more (codes "COST") h.cost (from_start h) a4.rest in
    let b5 = named_one a4.more (codes "COST") h.cost a5.more (codes "COST") g.cost (from_start g) a5.named b4.1 in
    let a6 = named_is a5.more (codes "START") (pos h.start) [] a5.rest in
    let b6 = named_one a5.more (codes "START") (pos h.start) a6.more (codes "START") (pos g.start) [] a6.named b5.1 in
    let pair = pos_same g.pair h.pair b2.0 in
    let rows = pos_same g.rows h.rows b3.0 in
    let cols = pos_same g.cols h.cols b4.0 in
    let start = pos_same g.start h.start b6.0 in
    let cost = b5.0 in
    λ i. record { pair = pair i; rows = rows i; cols = cols i; cost = cost i; start = start i }

-- a first line whose numbers were read one after another reads on as the words after each number
pub to_pair : (ws a : Line) (one : ℤ) (h : CertHead) → HasNumberAfter ws (codes "CERT") one a
    → Matches ws (head_line h) → Matches a (from_pair h)
to_pair ws a one h n m = named_tail ws (codes "CERT") one a (pos 1) (from_pair h) n m

pub to_rows : (a b : Line) (pair : ℤ) (h : CertHead) → HasNumberAfter a (codes "PAIR") pair b
    → Matches a (from_pair h) → Matches b (from_rows h)
to_rows a b pair h n m = named_tail a (codes "PAIR") pair b (pos h.pair) (from_rows h) n m

pub to_cols : (a b : Line) (rows : ℤ) (h : CertHead) → HasNumberAfter a (codes "ROWS") rows b
    → Matches a (from_rows h) → Matches b (from_cols h)
to_cols a b rows h n m = named_tail a (codes "ROWS") rows b (pos h.rows) (from_cols h) n m

pub to_cost : (a b : Line) (cols : ℤ) (h : CertHead) → HasNumberAfter a (codes "COLS") cols b
    → Matches a (from_cols h) → Matches b (from_cost h)
to_cost a b cols h n m = named_tail a (codes "COLS") cols b (pos h.cols) (from_cost h) n m

pub to_start : (a b : Line) (cost : ℤ) (h : CertHead) → HasNumberAfter a (codes "COST") cost b
    → Matches a (from_cost h) → Matches b (from_start h)
to_start a b cost h n m = named_tail a (codes "COST") cost b h.cost (from_start h) n m

-- a count behind a keyword
pub count_named : (ws : Line) (k : List ℕ) (more : Line) (least most : ℕ) (o : Option (ℕ × Bor (List ℕ)))
    → ws ≡ k ∷ more
    → MatchOption o ((n : ℕ) (left : Line) → IsFirstCount more least most n left → ⊥) (λ s.
    IsFirstCount more least most s.0 (words s.1.now))
    → MatchOption o (NoneNamed (IsBetween least most) ws k) (λ c.
    (least ≤ c.0) × (c.0 ≤ most) × HasNumberAfter ws k (pos c.0) (words c.1.now))
count_named ws k more least most None e none = λ z left p n.
    let f : more ≡ n.word ∷ left = let g : k ∷ more ≡ k ∷ n.word ∷ left = sym e ∙ n.words in cc in
    none p.0 left
    (record { word = n.word; words = f; says = (n.says ∙ ap (λ (x : ℤ). Some x) p.1, p.2, p.3) })
count_named ws k more least most (Some s) e is = (
  is.says.1,
  is.says.2,
  record { word = is.word; words = e ∙ ap (λ (ls : Line). k ∷ ls) is.words; says = is.says.0 },
)
