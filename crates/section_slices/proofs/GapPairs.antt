-- The pairs of a gap, and their loops, in order.
use Rattle.std.proofs.Common.{◌≡◌, ◌≢◌, ℕ, ◌+◌, ◌<◌, ◌≤◌, ◌==◌, Bool, Bor, eq-eqb, List, [], ◌∷◌, ◌++◌, length, get_or, take, drop, map, cond, sym, ap, ap₂, ◌∙◌, append_assoc, subst, Vec}
use Rattle.std.specs.declared.alloc.Global.{Global}
use Rattle.std.proofs.lemmas.Bool.{ne_eqb}
use Rattle.std.proofs.lemmas.List.{map-append, append-nil, drop_all}
use Rattle.fku_types.proofs.ListLaws.{drop_next}
use Rattle.strip_graph.specs.declared.slices.Cut.{Cut}
use Rattle.strip_graph.specs.Strips.{Strip, rows}
use Rattle.strip_graph.specs.Slices.{slice_loop}
use Rattle.row_paths.specs.Solutions.{Solution, Solves}
use Rattle.pair_pool.specs.Solvers.{SolvesEach, referents}
use Rattle.section_pairs.specs.declared.gap_pairs.GapPair.{GapPair}
use Rattle.section_pairs.specs.Pairs.{PairParts, pair_parts}
use Rattle.surface_core.specs.Surfaces.{strips_in}
use Rattle.surface_core.proofs.PassedStrips.{passed_more}
use Rattle.section_slices.specs.Slices.{pairs_in_gap, loops_at}

-- the strips of those of the first i pairs that lie in a gap
abbrev pub strips_so_far : ℕ → List GapPair → ℕ → List Strip
strips_so_far g ps i = strips_in (pairs_in_gap g (map pair_parts (take i ps)))

pub strips_more : (g : ℕ) (ps : List GapPair) (i : ℕ) (p : GapPair) → i < length ps → p ≡ get_or ps i p
    → strips_so_far g ps (i + 1) ≡ strips_so_far g ps i ++ cond (p.gap == g) (p.pair ∷ []) []
strips_more g ps i p l e = passed_more (λ (q : PairParts). q.gap == g) ps i p l e

-- one more pair, which lies in the gap or does not
pub strip_taken : (g : ℕ) (ps : List GapPair) (i : ℕ) (p : GapPair) (r : Bor Strip) (was now : List (Bor Strip))
    → i < length ps → p ≡ get_or ps i p → p.gap ≡ g → r.now ≡ p.pair → now ≡ was ++ r ∷ []
    → referents was ≡ strips_so_far g ps i → referents now ≡ strips_so_far g ps (i + 1)
strip_taken g ps i p r was now l e here same more so =
    ap referents more ∙ map-append (λ (b : Bor Strip). b.now) was (r ∷ [])
    ∙ ap₂ (λ (xs : List Strip) (x : Strip). xs ++ x ∷ []) so same
    ∙ sym (strips_more g ps i p l e
    ∙ ap (λ (b : Bool). strips_so_far g ps i ++ cond b (p.pair ∷ []) []) (eq-eqb p.gap g here))

pub strip_passed : (g : ℕ) (ps : List GapPair) (i : ℕ) (p : GapPair) (was now : List (Bor Strip)) → i < length ps
    → p ≡ get_or ps i p → p.gap ≢ g → now ≡ was → referents was ≡ strips_so_far g ps i
    → referents now ≡ strips_so_far g ps (i + 1)
strip_passed g ps i p was now l e apart same so =
    ap referents same ∙ so
    ∙ sym (strips_more g ps i p l e
    ∙ ap (λ (b : Bool). strips_so_far g ps i ++ cond b (p.pair ∷ []) []) (ne_eqb p.gap g apart)
    ∙ append-nil (strips_so_far g ps i))

-- the loops of the pairs from a place on
loops_drop : (d t : ℕ) (ps : List Strip) (xs : List Solution) (i : ℕ) (p : Strip) (x : Solution) → i < length ps
    → i < length xs → p ≡ get_or ps i p → x ≡ get_or xs i x
    → loops_at d t (drop i ps) (drop i xs) ≡ slice_loop p d t x.row 0 x.word
    ∷ loops_at d t (drop (i + 1) ps) (drop (i + 1) xs)
loops_drop d t ps xs i p x l m ep ex = ap₂ (loops_at d t) (drop_next ps i p l ep) (drop_next xs i x m ex)

-- the points of the loops that the code holds
abbrev pub points_of : List (Vec Cut Global) → List (List Cut)
points_of loops = map (λ (l : Vec Cut Global). l.items) loops

pub loops_step : (d t : ℕ) (ps : List Strip) (xs : List Solution) (i : ℕ) (p : Strip) (x : Solution)
    (v : Vec Cut Global) (so_far now : List (Vec Cut Global)) (whole : List (List Cut)) → i < length ps → i < length xs
    → p ≡ get_or ps i p → x ≡ get_or xs i x
    → v.items ≡ slice_loop p d t x.row 0 x.word → now ≡ so_far ++ v ∷ []
    → points_of so_far ++ loops_at d t (drop i ps) (drop i xs) ≡ whole
    → points_of now ++ loops_at d t (drop (i + 1) ps) (drop (i + 1) xs) ≡ whole
loops_step d t ps xs i p x v so_far now whole l m ep ex ev n w =
    let rest : List (List Cut) = loops_at d t (drop (i + 1) ps) (drop (i + 1) xs) in
    ap (λ (ls : List (List Cut)). ls ++ rest)
    (ap points_of n ∙ map-append (λ (l : Vec Cut Global). l.items) so_far (v ∷ []))
    ∙ append_assoc (points_of so_far) (v.items ∷ []) rest
    ∙ ap (λ (c : List Cut). points_of so_far ++ c ∷ rest) ev
    ∙ ap (λ (ls : List (List Cut)). points_of so_far ++ ls) (sym (loops_drop d t ps xs i p x l m ep ex)) ∙ w

pub loops_end : (d t : ℕ) (ps : List Strip) (xs : List Solution) (i : ℕ) (made whole : List (List Cut)) → length ps ≤ i
    → made ++ loops_at d t (drop i ps) (drop i xs) ≡ whole → made ≡ whole
loops_end d t ps xs i made whole l w =
    sym (append-nil made) ∙ ap (λ (qs : List Strip). made ++ loops_at d t qs (drop i xs)) (sym (drop_all i ps l)) ∙ w

-- the solution at a pair's index starts in one of its rows
pub row_there : (ps : List Strip) (xs : List Solution) → SolvesEach ps xs → (i : ℕ) (p : Strip) (x : Solution)
    → i < length ps → p ≡ get_or ps i p → x ≡ get_or xs i x → x.row < rows p
row_there ps xs h i p x l ep ex =
    let s : Solves (get_or ps i p) (get_or xs i x) = h.each i p x l in
    let t : Solves p x = subst (λ (q : Strip). Solves q x) (sym ep) (subst (Solves (get_or ps i p)) (sym ex) s) in
    t.chosen.least.acceptable.row
