-- The marks of each pair as groups, with one more mark.
use Rattle.std.proofs.Common.{◌≡◌, ℕ, zero, suc, ◌+◌, ◌<◌, ◌≤◌, List, [], ◌∷◌, ◌++◌, map, length, get_or, set, Bool, true, false, cond, Vec, refl, ap, ap₂, ◌∙◌, append-nil, arith}
use Rattle.std.specs.Prelude.{◌==◌}
use Rattle.std.specs.Global.{Global}
use Rattle.std.specs.List.{filter, AllByRecursion}
use Rattle.std.proofs.lemmas.Bool.{eq-eqb, ne_eqb}
use Rattle.std.proofs.lemmas.List.{map-append, length-map}
use Rattle.std.proofs.lemmas.List.Elements.{filter-append}
use Rattle.std.proofs.lemmas.List.Sums.{length-filter, count_by-le-length}
use Rattle.landmarks.specs.declared.marks.Mark.{Mark}
use Rattle.section_pairs.specs.Pairs.{PairParts}
use Rattle.pair_commands.specs.declared.mark_lines.PairMark.{PairMark}
use Rattle.pair_commands.specs.Landmarks.{marks_of}
use Rattle.pair_commands.specs.MarkReading.{groups_from, lists_in}

-- marks of a pair, in joined lists
pub marks_of-append : (k : ℕ) (xs ys : List PairMark) → marks_of k (xs ++ ys) ≡ marks_of k xs ++ marks_of k ys
marks_of-append k xs ys =
    let test : PairMark → Bool = λ x. x.pair == k in
    ap (map (λ (x : PairMark). x.mark)) (filter-append test xs ys)
    ∙ map-append (λ (x : PairMark). x.mark) (filter test xs) (filter test ys)

picked : (b : Bool) (x : PairMark) → b ≡ true → map (λ (y : PairMark). y.mark) (cond b (x ∷ []) []) ≡ x.mark ∷ []
picked true x e = refl
picked false x e = cc

passed : (b : Bool) (x : PairMark) → b ≡ false → map (λ (y : PairMark). y.mark) (cond b (x ∷ []) []) ≡ []
passed true x e = cc
passed false x e = refl

pub marks_of-one : (k : ℕ) (xs : List PairMark) (x : PairMark) → x.pair ≡ k
    → marks_of k (xs ++ x ∷ []) ≡ marks_of k xs ++ x.mark ∷ []
marks_of-one k xs x e = marks_of-append k xs (x ∷ [])
    ∙ ap (λ (ms : List Mark). marks_of k xs ++ ms) (picked (x.pair == k) x (eq-eqb x.pair k e))

marks_of-other : (k : ℕ) (xs : List PairMark) (x : PairMark) → (x.pair ≡ k → ⊥)
    → marks_of k (xs ++ x ∷ []) ≡ marks_of k xs
marks_of-other k xs x e = marks_of-append k xs (x ∷ [])
    ∙ ap (λ (ms : List Mark). marks_of k xs ++ ms) (passed (x.pair == k) x (ne_eqb x.pair k e))
    ∙ append-nil (marks_of k xs)

pub of_few : (k : ℕ) (xs : List PairMark) → length (marks_of k xs) ≤ length xs
of_few k xs =
    let test : PairMark → Bool = λ x. x.pair == k in
    omega (
      arith,
      length-map (filter test xs) (λ (x : PairMark). x.mark),
      length-filter test xs,
      count_by-le-length test xs,
    )

-- groups of pairs
pub groups_count : (k : ℕ) (ps : List PairParts) (xs : List PairMark) → length (groups_from k ps xs) ≡ length ps
groups_count k [] xs = refl
groups_count k (p ∷ ps) xs = omega (arith, groups_count (k + 1) ps xs)

pub group_at : (k : ℕ) (ps : List PairParts) (xs : List PairMark) (i : ℕ) → i < length ps
    → get_or (groups_from k ps xs) i [] ≡ marks_of (k + i) xs
group_at k [] xs i l = absurd (omega (arith, l))
group_at k (p ∷ ps) xs zero l = let e : k ≡ k + 0 = omega arith in ap (λ (n : ℕ). marks_of n xs) e
group_at k (p ∷ ps) xs (suc i) l = let e : k + 1 + i ≡ k + suc i = omega arith in
    group_at (k + 1) ps xs i (omega (arith, l)) ∙ ap (λ (n : ℕ). marks_of n xs) e

groups_same : (k : ℕ) (ps : List PairParts) (xs : List PairMark) (x : PairMark) → x.pair < k
    → groups_from k ps (xs ++ x ∷ []) ≡ groups_from k ps xs
groups_same k [] xs x l = refl
groups_same k (p ∷ ps) xs x l =
    ap₂ (λ (g : List Mark) (gs : List (List Mark)). g ∷ gs) (marks_of-other k xs x (λ e. omega (arith, e, l)))
    (groups_same (k + 1) ps xs x (omega (arith, l)))

pub groups_more : (k : ℕ) (ps : List PairParts) (xs : List PairMark) (x : PairMark) (i : ℕ) → x.pair ≡ k + i
    → i < length ps
    → groups_from k ps (xs ++ x ∷ []) ≡ set (groups_from k ps xs) i (get_or (groups_from k ps xs) i [] ++ x.mark ∷ [])
groups_more k [] xs x i e l = absurd (omega (arith, l))
groups_more k (p ∷ ps) xs x zero e l =
    ap₂ (λ (g : List Mark) (gs : List (List Mark)). g ∷ gs) (marks_of-one k xs x (omega (arith, e)))
    (groups_same (k + 1) ps xs x (omega (arith, e)))
groups_more k (p ∷ ps) xs x (suc i) e l =
    ap₂ (λ (g : List Mark) (gs : List (List Mark)). g ∷ gs) (marks_of-other k xs x (λ d. omega (arith, e, d)))
    (groups_more (k + 1) ps xs x i (omega (arith, e)) (omega (arith, l)))

pub no_groups : (k : ℕ) (ps : List PairParts) (vs : List (Vec Mark Global)) → length vs ≡ length ps
    → AllByRecursion (λ (v : Vec Mark Global). v.items ≡ []) vs → lists_in vs ≡ groups_from k ps []
no_groups k [] [] e h = refl
no_groups k [] (v ∷ vs) e h = absurd (omega (arith, e))
no_groups k (p ∷ ps) [] e h = absurd (omega (arith, e))
no_groups k (p ∷ ps) (v ∷ vs) e h =
    ap₂ (λ (g : List Mark) (gs : List (List Mark)). g ∷ gs) h.0 (no_groups (k + 1) ps vs (omega (arith, e)) h.1)
