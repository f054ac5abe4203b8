-- The words of the turns lie side by side, and each is found between two others.
use Rattle.std.proofs.Common.{mul-le-mul_right, ◌≡◌, ℕ, ◌+◌, ◌-◌, ◌*◌, ◌/◌, ◌<◌, ◌≤◌, List, [], ◌∷◌, ◌++◌, length, get_or, ap, ap₂, sym, subst, ◌∙◌, arith, ◌⊎◌, inl, inr}
use Rattle.std.proofs.lemmas.Bool.{cases_lt}
use Rattle.std.proofs.lemmas.List.{get_or_append_left, get_or_push, length_push}
use Rattle.strip_graph.specs.Words.{Arcs}
use Rattle.strip_graph.specs.Paths.{Canonical}
use Rattle.row_paths.specs.Counts.{area, digits, readings}
use Rattle.strip_graph.proofs.Canonical.{canonical}
use Rattle.strip_graph.proofs.Sides.{entry-mono, entry-bounds, entry-end, lie_beside, stays_within}
use Rattle.row_paths.proofs.Counting.{area-more, area_cut, area-whole, readings-halves, readings-some, readings-parts, readings-less}
use Rattle.row_paths.specs.Searches.{bound_at, last_at, IsRegion, StaysIn}
use Rattle.row_paths.specs.Turns.{start_of, end_of, cost_of, IsPathOf, AreCosts, area_between}

-- word q
word_of : (a : Arcs) (m n q : ℕ) → Canonical a (start_of q) 0 (end_of m q - start_of q) n
word_of a m n q = canonical a (start_of q) 0 (end_of m q - start_of q) n

-- its entries rise, stay in the strip, and end in the last column
pub path_mono : (a : Arcs) (m n q : ℕ) (p : List ℕ) → IsPathOf a m n q p → (x : ℕ) → bound_at p x ≤ bound_at p (x + 1)
path_mono a m n q p k x =
    let w = word_of a m n q in
    omega (
      arith,
      k w.word w.first x,
      k w.word w.first (x + 1),
      entry-mono (start_of q) 0 w.word x (x + 1) (omega arith),
    )

pub path_within : (a : Arcs) (m n q : ℕ) (p : List ℕ) → IsPathOf a m n q p → (x : ℕ) → bound_at p x ≤ n
path_within a m n q p k x =
    let w = word_of a m n q in
    omega (arith, k w.word w.first x, (entry-bounds (start_of q) 0 w.word x).1, w.first.letters.h)

pub path_end : (a : Arcs) (m n q : ℕ) (p : List ℕ) → IsPathOf a m n q p → (x : ℕ) → end_of m q < x → bound_at p x ≡ n
path_end a m n q p k x lt =
    let w = word_of a m n q in
    omega (
      arith,
      k w.word w.first x,
      entry-end (start_of q) 0 w.word x (omega (arith, w.first.letters.v, starts q m)),
      w.first.letters.h,
    )
  where
    starts : (q m : ℕ) → start_of q ≤ end_of m q
    starts q m = omega arith

-- a later word enters each row no later
pub paths_beside : (a : Arcs) (m n q q' : ℕ) (p p' : List ℕ) → q ≤ q' → IsPathOf a m n q p → IsPathOf a m n q' p'
    → (x : ℕ) → bound_at p' x ≤ bound_at p x
paths_beside a m n q q' p p' le k l x =
    let u = word_of a m n q in
    let w = word_of a m n q' in
    omega (
      arith,
      k u.word u.first x,
      l w.word w.first x,
      lie_beside a u.word w.word (start_of q) (start_of q') 0 (end_of m q - start_of q) (end_of m q' - start_of q') n
          u.first w.first (omega arith) (omega arith) x,
    )

-- two words bound a region, in which each word between them stays
pub between_region : (a : Arcs) (m n q q' q'' : ℕ) (lo hi : List ℕ) → q ≤ q' → q' ≤ q'' → IsPathOf a m n q hi
    → IsPathOf a m n q'' lo → IsRegion (bound_at lo) (last_at hi) n (end_of m q')
between_region a m n q q' q'' lo hi le le' k l = record {
  rises = λ x. path_mono a m n q hi k (x + 1);
  joined = λ x. paths_beside a m n q q'' hi lo (omega arith) k l (x + 1);
  sinks = λ x. path_mono a m n q'' lo l x;
  within = λ x. path_within a m n q hi k (x + 1);
  ends = path_end a m n q hi k (end_of m q' + 1) (omega arith);
}

pub between_stays : (a : Arcs) (m n q q' q'' : ℕ) (lo hi : List ℕ) → q ≤ q' → q' ≤ q'' → IsPathOf a m n q hi
    → IsPathOf a m n q'' lo → StaysIn a (bound_at lo) (last_at hi) n (start_of q') (end_of m q')
between_stays a m n q q' q'' lo hi le le' k l w f =
    let u = word_of a m n q in
    let v = word_of a m n q'' in
    stays_within (bound_at lo) (last_at hi) (start_of q') 0 w
    (λ x p. omega (
      arith,
      l v.word v.first x,
      lie_beside a w v.word (start_of q') (start_of q'') 0 (end_of m q' - start_of q') (end_of m q'' - start_of q'') n f
          v.first (omega arith) (omega arith) x,
    ))
    (λ x p. omega (
      arith,
      k u.word u.first (x + 1),
      lie_beside a u.word w (start_of q) (start_of q') 0 (end_of m q - start_of q) (end_of m q' - start_of q') n u.first
          f (omega arith) (omega arith) (x + 1),
    ))

-- if the word is the upper one itself, that word bounds it from below too
pub lower_path : (a : Arcs) (m n q q' q'' size : ℕ) (lo hi lo' : List ℕ) → q' ≤ q'' → length hi ≡ size
    → length lo ≡ size → IsPathOf a m n q hi → IsPathOf a m n q'' lo → ((q' ≡ q) × (lo' ≡ hi)) ⊎ (lo' ≡ lo) → (k : ℕ)
    × (q' ≤ k) × IsPathOf a m n k lo' × (length lo' ≡ size)
lower_path a m n q q' q'' size lo hi lo' le h l k k' (inl (e, f)) =
    (q, omega (arith, e), subst (IsPathOf a m n q) (sym f) k, ap length f ∙ h)
lower_path a m n q q' q'' size lo hi lo' le h l k k' (inr f) =
    (q'', le, subst (IsPathOf a m n q'') (sym f) k', ap length f ∙ l)

-- the word between cuts the region
pub between_cut : (a : Arcs) (m n q q' q'' : ℕ) (lo hi mid : List ℕ) → q ≤ q' → q' ≤ q'' → IsPathOf a m n q hi
    → IsPathOf a m n q' mid → IsPathOf a m n q'' lo
    → area_between m mid hi q q' + area_between m lo mid q' q'' ≤ area_between m lo hi q q'' + (m + n + 2)
between_cut a m n q q' q'' lo hi mid le le' k o l =
    let i : ℕ = start_of q' - start_of q in
    let s : ℕ = end_of m q' + 1 - start_of q' in
    let t : ℕ = end_of m q'' - end_of m q' in
    let cut = area_cut (bound_at lo) (last_at hi) (bound_at mid) n
    (λ x. paths_beside a m n q' q'' mid lo le' o l x) (λ x. path_mono a m n q' mid o x)
    (λ x. paths_beside a m n q q' hi mid le k o (x + 1)) (λ x. path_within a m n q' mid o x) (start_of q) i s t in
    let e : i + s ≡ end_of m q' + 1 - start_of q = omega arith in
    let f : start_of q + i ≡ start_of q' = omega arith in
    let d : s + t ≡ end_of m q'' + 1 - start_of q' = omega arith in
    let b : i + s + t ≡ end_of m q'' + 1 - start_of q = omega arith in
    omega (
      arith,
      cut,
      ap (area (bound_at mid) (last_at hi) (start_of q)) e,
      ap₂ (λ (x y : ℕ). area (bound_at lo) (last_at mid) x y) f d,
      ap (area (bound_at lo) (last_at hi) (start_of q)) b,
    )

-- the rows of words between are a part of the region
pub between_rows : (m q f l q'' : ℕ) (lo hi : List ℕ) → q ≤ f → f ≤ l → l ≤ q''
    → area_between m lo hi f l ≤ area_between m lo hi q q''
between_rows m q f l q'' lo hi le le' le'' =
    let i : ℕ = start_of f - start_of q in
    let s : ℕ = end_of m l + 1 - start_of f in
    let t : ℕ = end_of m q'' - end_of m l in
    let e : start_of q + i ≡ start_of f = omega arith in
    let b : end_of m q'' + 1 - start_of q ≡ i + (s + t) = omega arith in
    omega (
      arith,
      area-more (bound_at lo) (last_at hi) (start_of q) i (s + t),
      area-more (bound_at lo) (last_at hi) (start_of f) s t,
      ap (λ (x : ℕ). area (bound_at lo) (last_at hi) x (s + t)) e,
      ap (area (bound_at lo) (last_at hi) (start_of q)) b,
    )

-- and so are the rows of one word
pub between_part : (m q q' q'' : ℕ) (lo hi : List ℕ) → q ≤ q' → q' ≤ q''
    → area (bound_at lo) (last_at hi) (start_of q') (end_of m q' + 1 - start_of q') ≤ area_between m lo hi q q''
between_part m q q' q'' lo hi le le' = between_rows m q q' q' q'' lo hi le (omega arith) le'

-- so the middle word and both parts together take at most what is allowed
pub between_takes : (a : Arcs) (m n q q' q'' : ℕ) (lo hi mid : List ℕ) → q < q' → q' < q'' → q' - q ≤ q'' - q'
    → q'' - q' ≤ q' - q + 1 → IsPathOf a m n q hi → IsPathOf a m n q' mid → IsPathOf a m n q'' lo
    → 2 * area (bound_at lo) (last_at hi) (start_of q') (end_of m q' + 1 - start_of q')
    + readings (q' - q - 1) (area_between m mid hi q q') (m + n + 2)
    + readings (q'' - q' - 1) (area_between m lo mid q' q'') (m + n + 2)
    ≤ readings (q'' - q - 1) (area_between m lo hi q q'') (m + n + 2)
between_takes a m n q q' q'' lo hi mid lt lt' less more k o l =
    let h = readings-halves (q' - q - 1) (q'' - q' - 1) (area_between m lo hi q q'') (area_between m mid hi q q')
    (area_between m lo mid q' q'') (m + n + 2) (omega arith) (omega arith)
    (between_cut a m n q q' q'' lo hi mid (omega arith) (omega arith) k o l) in
    let e : q' - q - 1 + (q'' - q' - 1) + 1 ≡ q'' - q - 1 = omega arith in
    omega (
      arith,
      h,
      ap (λ (x : ℕ). readings x (area_between m lo hi q q'') (m + n + 2)) e,
      between_part m q q' q'' lo hi (omega arith) (omega arith),
    )

-- two parts of any sizes take little more than is allowed
between_parts : (a : Arcs) (m n q q' q'' : ℕ) (lo hi mid : List ℕ) → q < q' → q' < q'' → q'' < 8192
    → IsPathOf a m n q hi → IsPathOf a m n q' mid → IsPathOf a m n q'' lo
    → 2 * area (bound_at lo) (last_at hi) (start_of q') (end_of m q' + 1 - start_of q')
    + readings (q' - q - 1) (area_between m mid hi q q') (m + n + 2)
    + readings (q'' - q' - 1) (area_between m lo mid q' q'') (m + n + 2)
    ≤ readings (q'' - q - 1) (area_between m lo hi q q'') (m + n + 2) + 2 * (area_between m lo hi q q'' + (m + n + 2))
    + 52 * (m + n + 2)
between_parts a m n q q' q'' lo hi mid lt lt' few k o l =
    let h = readings-parts (q' - q - 1) (q'' - q' - 1) (area_between m lo hi q q'') (area_between m mid hi q q')
    (area_between m lo mid q' q'') (m + n + 2) (omega arith)
    (between_cut a m n q q' q'' lo hi mid (omega arith) (omega arith) k o l) in
    let e : q' - q - 1 + (q'' - q' - 1) + 1 ≡ q'' - q - 1 = omega arith in
    omega (
      arith,
      h,
      ap (λ (x : ℕ). readings x (area_between m lo hi q q'') (m + n + 2)) e,
      between_part m q q' q'' lo hi (omega arith) (omega arith),
    )

-- so a word that is in the middle, or is paid for, and both parts together take at most what is allowed
pub divided_takes : (a : Arcs) (m n q q' q'' x y : ℕ) (lo hi mid : List ℕ) → q < q' → q' < q'' → q'' < 8192
    → IsPathOf a m n q hi → IsPathOf a m n q' mid → IsPathOf a m n q'' lo → x ≤ y
    → (q' ≡ q + (q'' - q) / 2) ⊎ (x + 2 * (area_between m lo hi q q'' + (m + n + 2)) + 52 * (m + n + 2) ≤ y)
    → x + 2 * area (bound_at lo) (last_at hi) (start_of q') (end_of m q' + 1 - start_of q')
    + readings (q' - q - 1) (area_between m mid hi q q') (m + n + 2)
    + readings (q'' - q' - 1) (area_between m lo mid q' q'') (m + n + 2)
    ≤ y + readings (q'' - q - 1) (area_between m lo hi q q'') (m + n + 2)
divided_takes a m n q q' q'' x y lo hi mid lt lt' few k o l le (inl half) =
    omega (arith, between_takes a m n q q' q'' lo hi mid lt lt' (omega (arith, half)) (omega (arith, half)) k o l)
divided_takes a m n q q' q'' x y lo hi mid lt lt' few k o l le (inr paid) =
    omega (arith, paid, between_parts a m n q q' q'' lo hi mid lt lt' few k o l)

-- one more cost
pub costs_more : (a : Arcs) (m n k x : ℕ) (costs costs' : List ℕ) → costs' ≡ costs ++ x ∷ [] → x ≡ cost_of a m n k
    → AreCosts a m n k costs → AreCosts a m n (k + 1) costs'
costs_more a m n k x costs costs' e is c = record {
  count = omega (arith, ap length e, length_push costs x, c.count);
  are = λ q lt. ap (λ (xs : List ℕ). get_or xs q 0) e ∙ at q (cases_lt q k) lt;
}
  where
    at : (q : ℕ) → (q < k) ⊎ (k ≤ q) → q < k + 1 → get_or (costs ++ x ∷ []) q 0 ≡ cost_of a m n q
    at q (inl lt) le = get_or_append_left costs (x ∷ []) 0 q (omega (arith, c.count)) ∙ c.are q lt
    at q (inr ge) le = let d : k ≡ q = omega arith in get_or_push costs x 0 q (c.count ∙ d) ∙ is ∙ ap (cost_of a m n) d

-- the middle word alone takes at most as much
pub between_starts : (m n q q' q'' : ℕ) (lo hi : List ℕ) → q < q' → q' < q''
    → 2 * area (bound_at lo) (last_at hi) (start_of q') (end_of m q' + 1 - start_of q') ≤ readings (q'' - q - 1)
    (area_between m lo hi q q'') (m + n + 2)
between_starts m n q q' q'' lo hi lt lt' =
    omega (
      arith,
      readings-some (q'' - q - 1) (area_between m lo hi q q'') (m + n + 2) (omega arith),
      between_part m q q' q'' lo hi (omega arith) (omega arith),
    )

-- the whole strip between two walls
pub strip_region : (n end : ℕ) (lo hi : List ℕ) → ((x : ℕ) → bound_at lo x ≡ 0) → ((x : ℕ) → bound_at hi x ≡ n)
    → IsRegion (bound_at lo) (last_at hi) n end
strip_region n end lo hi e f = record {
  rises = λ x. omega (arith, f (x + 1), f (x + 1 + 1));
  joined = λ x. omega (arith, e (x + 1));
  sinks = λ x. omega (arith, e x);
  within = λ x. omega (arith, f (x + 1));
  ends = f (end + 1);
}

pub strip_stays : (a : Arcs) (n start end : ℕ) (lo hi : List ℕ) → ((x : ℕ) → bound_at lo x ≡ 0)
    → ((x : ℕ) → bound_at hi x ≡ n) → StaysIn a (bound_at lo) (last_at hi) n start end
strip_stays a n start end lo hi e f w k =
    stays_within (bound_at lo) (last_at hi) start 0 w (λ x p. omega (arith, e x))
    (λ x p. omega (arith, f (x + 1), (entry-bounds start 0 w (x + 1)).1, k.letters.h))

-- one word once round takes at most one reading for each place of the whole strip, and two for each step
pub rows_take : (m n start end : ℕ) (lo hi : List ℕ) → ((x : ℕ) → bound_at hi x ≤ n) → end + 1 - start ≡ m + 1
    → 2 * area (bound_at lo) (last_at hi) start (end + 1 - start) ≤ 2 * m * (n + 1) + 2 * (m + n + 2)
rows_take m n start end lo hi f few =
    omega (
      arith,
      area-whole (bound_at lo) (last_at hi) n (λ x. omega (arith, f (x + 1))) start (end + 1 - start),
      ap (λ (k : ℕ). k * (n + 1)) few,
    )

-- a wall that is read as a slice
pub wall_read : (wall wall' : List ℕ) (v v' : ℕ) → wall' ≡ wall → ((x : ℕ) → bound_at wall x ≡ v) → v ≡ v' → (x : ℕ)
    → bound_at wall' x ≡ v'
wall_read wall wall' v v' e all f x = ap (λ (l : List ℕ). bound_at l x) e ∙ all x ∙ f

-- the middle word alone takes at most as much
pub divided_starts : (m n q q' q'' x y : ℕ) (lo hi : List ℕ) → q < q' → q' < q'' → x ≤ y
    → x + 2 * area (bound_at lo) (last_at hi) (start_of q') (end_of m q' + 1 - start_of q') ≤ y
    + readings (q'' - q - 1) (area_between m lo hi q q'') (m + n + 2)
divided_starts m n q q' q'' x y lo hi lt lt' le = omega (arith, between_starts m n q q' q'' lo hi lt lt')

-- the readings that are left over
pub spare_takes : (a : Arcs) (m n last d places whole unused : ℕ) (lo hi : List ℕ) → 2 ≤ m → last + 2 ≡ 2 * m
    → IsPathOf a m n 0 hi → d ≡ digits (2 * m - 3) → places ≡ area_between m lo hi 0 last → whole ≡ 2 * m * (n + 1)
    → unused ≡ whole - places
    → 2 * d * unused + readings (last - 0 - 1) (area_between m lo hi 0 last) (m + n + 2) ≤ readings (2 * m - 3)
    (2 * m * (n + 1)) (m + n + 2)
spare_takes a m n last d places whole unused lo hi two e k is is' is'' un =
    let rows : end_of m last + 1 - start_of 0 ≤ 2 * m = omega arith in
    let words : last - 0 - 1 ≡ 2 * m - 3 = omega arith in
    let fits = area-whole (bound_at lo) (last_at hi) n (λ x. path_within a m n 0 hi k (x + 1)) (start_of 0)
    (end_of m last + 1 - start_of 0) in
    let all : area_between m lo hi 0 last ≤ 2 * m * (n + 1) = omega (arith, fits, mul-le-mul_right (n + 1) rows) in
    omega (
      arith,
      readings-less (2 * m - 3) (area_between m lo hi 0 last) (2 * m * (n + 1)) (m + n + 2) all,
      ap (λ (x : ℕ). readings x (area_between m lo hi 0 last) (m + n + 2)) words,
      ap₂ (λ (x y : ℕ). 2 * x * y) is (un ∙ ap₂ (λ (x y : ℕ). x - y) is'' is'),
    )
