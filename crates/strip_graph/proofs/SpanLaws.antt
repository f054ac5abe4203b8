-- The spans that a word passes: how many there are, and their counts round the rings.
use Rattle.std.proofs.Common.{◌≡◌, ℕ, ◌+◌, ◌%◌, ◌<◌, List, [], ◌∷◌, ◌++◌, length, map, refl, sym, ap, ap₂, ◌∙◌, arith, append_assoc, All}
use Rattle.std.proofs.lemmas.List.Elements.{All-nil, All-cons}
use Rattle.std.proofs.lemmas.Nat.{mod_below}
use Rattle.std.proofs.Math.Nat.{mod-eq_of_lt}
use Rattle.strip_graph.specs.declared.tilings.Step.{Step}
use Rattle.strip_graph.specs.declared.tilings.Step.TheVariants.{V, H}
use Rattle.strip_graph.specs.declared.spans.SpanStep.{SpanStep}
use Rattle.strip_graph.specs.Spans.{spans, round, IsOf}
use Rattle.strip_graph.specs.Strips.{Strip, arcs, rows, cols}
use Rattle.strip_graph.specs.Words.{Arcs, word_cost}
use Rattle.strip_graph.proofs.Around.{mod_further, arcs-round}

-- one span for each step
pub length-spans : (i j : ℕ) (w : List Step) → length (spans i j w) ≡ length w
length-spans i j [] = refl
length-spans i j (V ∷ w) = omega (arith, length-spans (i + 1) j w)
length-spans i j (H ∷ w) = omega (arith, length-spans i (j + 1) w)

abbrev at : Step → ℕ → ℕ → SpanStep
at s i j = record { row = i; col = j; step = s }

abbrev rounds : ℕ → ℕ → ℕ → ℕ → List Step → List SpanStep
rounds m n i j w = map (round m n) (spans i j w)

abbrev cons : SpanStep → List SpanStep → List SpanStep
cons s ss = s ∷ ss

-- places that are equal round the rings pass the same spans
rounds_same : (m n i k j l : ℕ) (w : List Step) → i % m ≡ k % m → j % n ≡ l % n → rounds m n i j w ≡ rounds m n k l w
rounds_same m n i k j l [] e f = refl
rounds_same m n i k j l (V ∷ w) e f =
    ap₂ cons (ap₂ (at V) e f) (rounds_same m n (i + 1) (k + 1) j l w (mod_further i k 1 m e) f)
rounds_same m n i k j l (H ∷ w) e f =
    ap₂ cons (ap₂ (at H) e f) (rounds_same m n i k (j + 1) (l + 1) w e (mod_further j l 1 n f))

-- the first span, and those from the next row or column, counted round
pub first_v : (m n i j k : ℕ) (word rest : List Step) (s : Step) → word ≡ s ∷ rest → s ≡ V → i < m → j < n → k < m
    → k ≡ (i + 1) % m → rounds m n i j word ≡ at s i j ∷ rounds m n k j rest
first_v m n i j k word rest s w is li lj lk e =
    ap (rounds m n i j) (w ∙ ap (λ (t : Step). t ∷ rest) is)
    ∙ ap₂ cons (ap₂ (at V) (mod-eq_of_lt li) (mod-eq_of_lt lj) ∙ ap (λ (t : Step). at t i j) (sym is))
    (rounds_same m n (i + 1) k j j rest (sym (mod-eq_of_lt lk ∙ e)) refl)

pub first_h : (m n i j k : ℕ) (word rest : List Step) (s : Step) → word ≡ s ∷ rest → s ≡ H → i < m → j < n → k < n
    → k ≡ (j + 1) % n → rounds m n i j word ≡ at s i j ∷ rounds m n i k rest
first_h m n i j k word rest s w is li lj lk e =
    ap (rounds m n i j) (w ∙ ap (λ (t : Step). t ∷ rest) is)
    ∙ ap₂ cons (ap₂ (at H) (mod-eq_of_lt li) (mod-eq_of_lt lj) ∙ ap (λ (t : Step). at t i j) (sym is))
    (rounds_same m n i i (j + 1) k rest refl (sym (mod-eq_of_lt lk ∙ e)))

-- each place counted round the rings is one of their places
pub all_of : (m n : ℕ) (ss : List SpanStep) → 0 < m → 0 < n → All (IsOf m n) (map (round m n) ss)
all_of m n [] l h = All-nil (IsOf m n)
all_of m n (s ∷ ss) l h = All-cons (IsOf m n) (round m n s) (map (round m n) ss)
    (record { row = mod_below s.row m l; col = mod_below s.col n h }) (all_of m n ss l h)

-- a function that is the same at places that are equal round the rings
map-round : {X : Type 0} (m n : ℕ) (f : SpanStep → X) → ((s : SpanStep) → f (round m n s) ≡ f s) → (ss : List SpanStep)
    → map f (map (round m n) ss) ≡ map f ss
map-round m n f h [] = refl
map-round {X = X} m n f h (s ∷ ss) = ap₂ (λ (y : X) (ys : List X). y ∷ ys) (h s) (map-round m n f h ss)

-- a loop that makes a list of one item for each span, before the first one
pub map-start : {X : Type 0} (m n : ℕ) (f : SpanStep → X) (made : List X) (left ss : List SpanStep)
    → ((s : SpanStep) → f (round m n s) ≡ f s) → made ≡ [] → left ≡ map (round m n) ss → made ++ map f left ≡ map f ss
map-start {X = X} m n f made left ss h e l = ap₂ (λ (ys : List X) (ts : List SpanStep). ys ++ map f ts) e l
    ∙ map-round m n f h ss

-- one turn of the loop
pub map-next : {X : Type 0} (f : SpanStep → X) (made more whole : List X) (left rest : List SpanStep) (s : SpanStep)
    (y : X) → more ≡ made ++ y ∷ [] → y ≡ f s → left ≡ s ∷ rest → made ++ map f left ≡ whole
    → more ++ map f rest ≡ whole
map-next {X = X} f made more whole left rest s y m e l inv =
    ap (λ (ys : List X). ys ++ map f rest) m ∙ append_assoc made (y ∷ []) (map f rest)
    ∙ ap (λ (z : X). made ++ z ∷ map f rest) e ∙ sym (ap (λ (ss : List SpanStep). made ++ map f ss) l) ∙ inv

-- the sum of the costs of the steps from spans
abbrev pub spans_cost : Arcs → List SpanStep → ℕ
spans_cost a [] = 0
spans_cost a (s ∷ ss) = a s.row s.col s.step + spans_cost a ss

-- the spans of a word, counted round the rings, cost what the word costs
pub spans_cost-word : (p : Strip) (i j : ℕ) (w : List Step)
    → spans_cost (arcs p) (rounds (rows p) (cols p) i j w) ≡ word_cost (arcs p) i j w
spans_cost-word p i j [] = refl
spans_cost-word p i j (V ∷ w) = omega (arith, arcs-round p i j V, spans_cost-word p (i + 1) j w)
spans_cost-word p i j (H ∷ w) = omega (arith, arcs-round p i j H, spans_cost-word p i (j + 1) w)
