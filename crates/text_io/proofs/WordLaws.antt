-- What the first word of a line says, and that a line is read in one way.
use Rattle.std.proofs.Common.{◌≡◌, ◌≤◌, ℕ, pos, Some, List, [], ◌∷◌, refl, ap, sym, subst, ◌∙◌}
use Rattle.std.specs.List.{AllZip}
use Rattle.text_io.specs.WordLists.{Word, text, number, Line, Matches, MatchesWord, IsFirstCount}

-- two words that one word of a line can be are equal
abbrev pub SameWord : Word → Word → Type 0
SameWord (text s) (text t) = s ≡ t
SameWord (number m) (number n) = m ≡ n
SameWord (text s) (number n) = Unit {0}
SameWord (number m) (text t) = Unit {0}

same_word : (w : List ℕ) (p q : Word) → MatchesWord w p → MatchesWord w q → SameWord p q
same_word w (text s) (text t) h k = sym h ∙ k
same_word w (number m) (number n) h k = let e : Some m ≡ Some n = sym h ∙ k in cc
same_word w (text s) (number n) h k = tt
same_word w (number m) (text t) h k = tt

pub same_words : (ws : List (List ℕ)) (ps qs : List Word) → Matches ws ps → Matches ws qs → AllZip SameWord ps qs
same_words [] [] [] h k = tt
same_words [] [] (q ∷ qs) h k = absurd k
same_words [] (p ∷ ps) qs h k = absurd h
same_words (w ∷ ws) [] qs h k = absurd h
same_words (w ∷ ws) (p ∷ ps) [] h k = absurd k
same_words (w ∷ ws) (p ∷ ps) (q ∷ qs) h k = (same_word w p q h.0 k.0, same_words ws ps qs h.1 k.1)

-- words that match a keyword begin with it
pub keyword_none : (ws : Line) (k : List ℕ) (ps : List Word) → ((more : Line) → ws ≡ k ∷ more → ⊥)
    → Matches ws (text k ∷ ps) → ⊥
keyword_none [] k ps none m = absurd m
keyword_none (w ∷ ws) k ps none m = none ws (ap (λ (v : List ℕ). v ∷ ws) m.0)

-- those after it match on
pub word_tail : (ws more : Line) (w : List ℕ) (p : Word) (ps : List Word) → ws ≡ w ∷ more → Matches ws (p ∷ ps)
    → Matches more ps
word_tail ws more w p ps e m = (subst (λ (v : Line). Matches v (p ∷ ps)) e m).1

-- words that match an integer in a range begin with it
pub count_none : (ws : Line) (least most n : ℕ) (ps : List Word)
    → ((k : ℕ) (more : Line) → IsFirstCount ws least most k more → ⊥) → least ≤ n → n ≤ most
    → Matches ws (number (pos n) ∷ ps) → ⊥
count_none [] least most n ps none l u m = absurd m
count_none (w ∷ ws) least most n ps none l u m = none n ws (record { word = w; words = refl; says = (m.0, l, u) })
