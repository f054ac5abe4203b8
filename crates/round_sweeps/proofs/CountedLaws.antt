-- A tiling that is chosen by what is counted is chosen by the costs themselves where it costs just that.
use Rattle.std.proofs.Common.{◌≡◌, ℕ, ◌+◌, ◌≤◌, ℤ, pos, ◌≤ℤ◌, List, [], ◌∷◌, subst₂, arith}
use Rattle.std.proofs.lemmas.Int.{ints}
use Rattle.strip_graph.specs.declared.tilings.Step.{Step}
use Rattle.strip_graph.specs.declared.tilings.Step.TheVariants.{V, H}
use Rattle.strip_graph.specs.Words.{Arcs, word_cost}
use Rattle.strip_graph.specs.Tilings.{IsAcceptable, IsLeast, IsChosen}
use Rattle.strip_graph.specs.Strips.{Strip, arcs, rows, cols}
use Rattle.round_sweeps.specs.Tiles.{AreCounted, IsCountedChoice}

-- a word costs no more where no step does
pub word_less : (a b : Arcs) → ((i j : ℕ) (s : Step) → a i j s ≤ b i j s) → (i j : ℕ) (w : List Step)
    → word_cost a i j w ≤ word_cost b i j w
word_less a b le i j [] = omega arith
word_less a b le i j (V ∷ w) = omega (arith, le i j V, word_less a b le (i + 1) j w)
word_less a b le i j (H ∷ w) = omega (arith, le i j H, word_less a b le i (j + 1) w)

-- chosen by the lesser costs, and by the others where it costs the same
pub chosen_by_more : (a b : Arcs) (m n i : ℕ) (w : List Step) → ((i j : ℕ) (s : Step) → a i j s ≤ b i j s)
    → word_cost b i 0 w ≡ word_cost a i 0 w → IsChosen a m n i w → IsChosen b m n i w
chosen_by_more a b m n i w le same h = record {
  least = record { acceptable = h.least.acceptable; least = least };
  first_row = λ i' w' t. h.first_row i' w' (less i' w' t);
  first_word = λ w' t. h.first_word w' (less i w' t);
}
  where
    least : (i' j' : ℕ) (w' : List Step) → IsAcceptable m n i' j' w' → word_cost b i 0 w ≤ word_cost b i' j' w'
    least i' j' w' t = omega (arith, same, h.least.least i' j' w' t, word_less a b le i' j' w')

    less : (i' : ℕ) (w' : List Step) → IsLeast b m n i' 0 w' → IsLeast a m n i' 0 w'
    less i' w' t = record {
      acceptable = t.acceptable;
      least = λ k l u q. omega (
        arith,
        same,
        word_less a b le i' 0 w',
        t.least i 0 w h.least.acceptable,
        h.least.least k l u q,
      );
    }

pub chosen_counted : (p : Strip) (i : ℕ) (w : List Step) (k : ℤ) (h : IsCountedChoice p i w k)
    → pos (word_cost (arcs p) i 0 w) ≤ℤ k → IsChosen (arcs p) (rows p) (cols p) i w
chosen_counted p i w k h le = chosen_by_more h.counted (arcs p) (rows p) (cols p) i w h.less
    (omega (arith, ints, le, h.costs, word_less h.counted (arcs p) h.less i 0 w)) h.chosen

pub cost_counted : (p : Strip) (i : ℕ) (w : List Step) (k : ℤ) → IsCountedChoice p i w k
    → pos (word_cost (arcs p) i 0 w) ≤ℤ k → pos (word_cost (arcs p) i 0 w) ≡ k
cost_counted p i w k h le = omega (arith, ints, le, h.costs, word_less h.counted (arcs p) h.less i 0 w)

-- a choice by costs of another strip of the same size
pub choice_of : (p : Strip) (a : Arcs) (m n i : ℕ) (w : List Step) (k : ℤ) → AreCounted p a → m ≡ rows p → n ≡ cols p
    → IsChosen a m n i w → pos (word_cost a i 0 w) ≡ k → IsCountedChoice p i w k
choice_of p a m n i w k less em en h e = record {
  counted = a;
  less = less;
  chosen = subst₂ (λ (x y : ℕ). IsChosen a x y i w) em en h;
  costs = e;
}
