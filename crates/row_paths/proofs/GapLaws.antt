-- Words between two that share a place: their costs, and how much finding these reads.
use Rattle.std.proofs.Common.{◌≡◌, ℕ, zero, suc, ◌+◌, ◌-◌, ◌<◌, ◌≤◌, max, min, List, [], ◌∷◌, length, get_or, refl, ap, sym, subst, ◌∙◌, arith}
use Rattle.strip_graph.specs.declared.tilings.Step.{Step}
use Rattle.strip_graph.specs.declared.tilings.Step.TheVariants.{V, H}
use Rattle.strip_graph.specs.Words.{Arcs, count_h}
use Rattle.strip_graph.specs.Distances.{distance}
use Rattle.strip_graph.specs.Regions.{IsWithin}
use Rattle.strip_graph.proofs.Regional.{within_start, regional_is_least}
use Rattle.row_paths.specs.Counts.{area}
use Rattle.row_paths.specs.Searches.{bound_at, last_at, IsRegion, StaysIn}
use Rattle.strip_graph.specs.Strips.{Strip, arcs, rows, cols}
use Rattle.row_paths.specs.declared.gaps.Gap.{Gap}
use Rattle.row_paths.specs.Turns.{start_of, end_of, IsPathOf, area_between, IsGap, IsPart}
use Rattle.row_paths.specs.Fans.{IsShared, HasStarts, HasEnds, HasTurnCosts}
use Rattle.row_paths.proofs.Counting.{area-more}
use Rattle.row_paths.proofs.Places.{bound_at-read, regional_at}
use Rattle.row_paths.proofs.Rows.{area_up}
use Rattle.strip_graph.proofs.Canonical.{canonical}
use Rattle.strip_graph.proofs.Sides.{lie_beside}
use Rattle.strip_graph.proofs.Passing.{IsThrough, through, passes}
use Rattle.row_paths.proofs.TurnLaws.{path_mono, path_end, paths_beside, between_stays}

-- bounds without the columns past one
pub record IsCut (lo lo' : List ℕ) (c : ℕ) : Type 0 where
  pub count : length lo' ≡ length lo
  pub are : (k : ℕ) → k < length lo → get_or lo' k 0 ≡ min (get_or lo k 0) c

pub cut_at : (lo lo' : List ℕ) (c x : ℕ) → 0 < length lo → IsCut lo lo' c → bound_at lo' x ≡ min (bound_at lo x) c
cut_at lo lo' c x some k =
    let e : min x (length lo' - 1) ≡ min x (length lo - 1) = ap (λ (n : ℕ). min x (n - 1)) k.count in
    ap (λ (i : ℕ). get_or lo' i 0) e ∙ k.are (min x (length lo - 1)) (omega arith)

pub cut_of : (lo lo' lo'' : List ℕ) (c : ℕ) → lo'' ≡ lo' → length lo' ≡ length lo
    → ((k : ℕ) → k < length lo → get_or lo' k 0 ≡ min (get_or lo k 0) c) → IsCut lo lo'' c
cut_of lo lo' lo'' c e count are = subst (λ (l : List ℕ). IsCut lo l c) (sym e) (record { count = count; are = are })

within_cut : (lo hi lo' hi' : ℕ → ℕ) (c : ℕ) → ((x : ℕ) → lo' x ≡ min (lo x) c) → ((x : ℕ) → hi' x ≡ min (hi x) c)
    → (i j : ℕ) (w : List Step) → j + count_h w ≤ c → IsWithin lo hi i j w → IsWithin lo' hi' i j w
within_cut lo hi lo' hi' c p q i j [] le k =
    record { from = omega (arith, k.from, p i); to = omega (arith, k.to, q i, le) }
within_cut lo hi lo' hi' c p q i j (V ∷ w) le k = (
  record { from = omega (arith, k.0.from, p i); to = omega (arith, k.0.to, q i, le) },
  within_cut lo hi lo' hi' c p q (i + 1) j w le k.1,
)
within_cut lo hi lo' hi' c p q i j (H ∷ w) le k = (
  record { from = omega (arith, k.0.from, p i); to = omega (arith, k.0.to, q i, le) },
  within_cut lo hi lo' hi' c p q i (j + 1) w (omega arith) k.1,
)

-- the region before the place
pub before_region : (a : Arcs) (m n q q' x c : ℕ) (lo hi lo' hi' : List ℕ) → q ≤ q' → 0 < length lo → 0 < length hi
    → IsPathOf a m n q hi → IsPathOf a m n q' lo → c ≤ last_at hi x → IsCut lo lo' c → IsCut hi hi' c
    → IsRegion (bound_at lo') (last_at hi') c x
before_region a m n q q' x c lo hi lo' hi' le some some' k l to cut cut' = record {
  rises = λ y. omega (arith, hi_at (y + 1), hi_at (y + 1 + 1), path_mono a m n q hi k (y + 1));
  joined = λ y. omega (arith, lo_at (y + 1), hi_at (y + 1), paths_beside a m n q q' hi lo le k l (y + 1));
  sinks = λ y. omega (arith, lo_at y, lo_at (y + 1), path_mono a m n q' lo l y);
  within = λ y. omega (arith, hi_at (y + 1));
  ends = omega (arith, hi_at (x + 1), to);
}
  where
    lo_at : (y : ℕ) → bound_at lo' y ≡ min (bound_at lo y) c
    lo_at y = cut_at lo lo' c y some cut

    hi_at : (y : ℕ) → bound_at hi' y ≡ min (bound_at hi y) c
    hi_at y = cut_at hi hi' c y some' cut'

-- if two words share a place, that place cuts each word between them in two
pub between_through : (a : Arcs) (m n q q' q'' x : ℕ) (lo hi : List ℕ) → q ≤ q' → q' ≤ q'' → IsPathOf a m n q hi
    → IsPathOf a m n q'' lo → StaysIn a (bound_at lo) (last_at hi) n (start_of q') (end_of m q')
    → start_of q'' ≤ x → x ≤ end_of m q → bound_at hi x ≤ bound_at lo (x + 1)
    → IsThrough a (bound_at lo) (last_at hi) (start_of q') (end_of m q') n x (bound_at hi x)
between_through a m n q q' q'' x lo hi le le' k l stays from to shared =
    let u = canonical a (start_of q) 0 (end_of m q - start_of q) n in
    let w = canonical a (start_of q') 0 (end_of m q' - start_of q') n in
    let v = canonical a (start_of q'') 0 (end_of m q'' - start_of q'') n in
    let left = lie_beside a u.word w.word (start_of q) (start_of q') 0 (end_of m q - start_of q)
    (end_of m q' - start_of q') n u.first w.first (omega arith) (omega arith) x in
    let right = lie_beside a w.word v.word (start_of q') (start_of q'') 0 (end_of m q' - start_of q')
    (end_of m q'' - start_of q'') n w.first v.first (omega arith) (omega arith) (x + 1) in
    through a (bound_at lo) (last_at hi) (start_of q') (end_of m q') n x (bound_at hi x) w.word (omega (arith, from))
    (omega (arith, to)) w.first (stays w.word w.first)
    (passes w.word (start_of q') 0 x (bound_at hi x) (omega (arith, from)) (omega (arith, to, w.first.letters.v))
    (omega (arith, left, k u.word u.first x)) (omega (arith, right, shared, l v.word v.first (x + 1))))

-- the costs of the words between
pub fan_costs : (a : Arcs) (m n q q' x c : ℕ) (lo hi lo' hi' starts ends : List ℕ) → 0 < length lo → 0 < length hi
    → IsPathOf a m n q hi → IsPathOf a m n q' lo → IsShared m q q' hi lo x → c ≡ bound_at hi x → IsCut lo lo' c
    → IsCut hi hi' c
    → HasStarts a (bound_at lo') (last_at hi') x c (start_of q) starts
    → HasEnds a (bound_at lo) (last_at hi) x c n (end_of m q') ends → HasTurnCosts a m n q q' starts ends
fan_costs a m n q q' x c lo hi lo' hi' starts ends some some' k l shared is cut cut' from to t lt lt' =
    omega (arith, before, after, thr.cost)
  where
    thr : IsThrough a (bound_at lo) (last_at hi) (start_of t) (end_of m t) n x c
    thr = subst (IsThrough a (bound_at lo) (last_at hi) (start_of t) (end_of m t) n x) (sym is)
        (between_through a m n q t q' x lo hi (omega arith) (omega arith) k l
        (between_stays a m n q t q' lo hi (omega arith) (omega arith) k l) shared.from shared.to shared.shared)

    lo_at : (y : ℕ) → bound_at lo' y ≡ min (bound_at lo y) c
    lo_at y = cut_at lo lo' c y some cut

    hi_at : (y : ℕ) → last_at hi' y ≡ min (last_at hi y) c
    hi_at y = cut_at hi hi' c (y + 1) some' cut'

    above : start_of t ≤ x
    above = omega (arith, shared.from)

    below : x ≤ end_of m t
    below = omega (arith, shared.to)

    before : get_or starts (start_of t) 0 ≡ distance a (start_of t) 0 (x - start_of t) c
    before =
        let s = start_of t in
        let none : bound_at lo' s ≡ 0 = omega
        (arith, lo_at s, (within_start (bound_at lo) (last_at hi) s 0 thr.front thr.within_front).from) in
        let p = from s (omega arith) above none in
        let letters : 0 + count_h thr.front ≤ c = omega (arith, thr.first_front.letters.h) in
        regional_is_least a (bound_at lo') (last_at hi') s 0 (x - s) c (get_or starts s 0) thr.front
        (regional_at a (bound_at lo') (last_at hi') s 0 (x - s) (x - s) (c - 0) c (get_or starts s 0) refl
        (omega arith) p) thr.first_front
        (within_cut (bound_at lo) (last_at hi) (bound_at lo') (last_at hi') c lo_at hi_at s 0 thr.front letters
        thr.within_front)

    after : get_or ends (end_of m t) 0 ≡ distance a x c (end_of m t - x) (n - c)
    after =
        let e = end_of m t in
        let p = to e below (omega arith) (path_end a m n q hi k (e + 1) (omega arith)) in
        regional_is_least a (bound_at lo) (last_at hi) x c (e - x) (n - c) (get_or ends e 0) thr.back p thr.first_back
        thr.within_back

-- a region with at most as many places in each row has at most as many in all
area-le : (lo hi lo' hi' : ℕ → ℕ) → ((x : ℕ) → hi' x + 1 - lo' x ≤ hi x + 1 - lo x) → (i k : ℕ)
    → area lo' hi' i k ≤ area lo hi i k
area-le lo hi lo' hi' p i zero = omega arith
area-le lo hi lo' hi' p i (suc k) = omega (arith, area-le lo hi lo' hi' p i k, p (i + k))

-- the two parts of a region together have one more place
fan_area : (lo hi lo' hi' : ℕ → ℕ) (s x e c : ℕ) → s ≤ x → x ≤ e → ((y : ℕ) → lo' y ≡ min (lo y) c)
    → ((y : ℕ) → hi' y ≡ min (hi y) c) → ((y : ℕ) → lo y ≤ hi y) → lo x ≤ c → c ≤ hi x
    → area lo' hi' s (x + 1 - s) + area (λ y. max (lo y) c) hi x (e + 1 - x) ≤ area lo hi s (e + 1 - s) + 1
fan_area lo hi lo' hi' s x e c le le' p q some from to =
    let i : ℕ = x - s in
    let k : ℕ = e - x in
    let d : s + i ≡ x = omega arith in
    let f : x + 1 - s ≡ i + 1 = omega arith in
    let g : e + 1 - x ≡ k + 1 = omega arith in
    let h : e + 1 - s ≡ i + (k + 1) = omega arith in
    let up : ℕ → ℕ = λ y. max (lo y) c in
    let before = area-more lo' hi' s i 1 in
    let whole = area-more lo hi s i (k + 1) in
    let here = ap (λ (y : ℕ). area lo' hi' y 1) d in
    let one : x + 0 ≡ x = omega arith in
    let row : area lo' hi' x 1 ≡ hi' x + 1 - lo' x = omega (arith, ap (λ (y : ℕ). hi' y + 1 - lo' y) one) in
    omega (
      arith,
      ap (area lo' hi' s) f,
      ap (area up hi x) g,
      ap (area lo hi s) h,
      before,
      here,
      row,
      whole,
      ap (λ (y : ℕ). area lo hi y (k + 1)) d,
      area_up up hi x k,
      area_up lo hi x k,
      area-le lo hi lo' hi' (λ y. omega (arith, p y, q y, some y)) s i,
      area-le lo hi up hi (λ y. omega arith) (x + 1) k,
      p x,
      q x,
    )

pub fan_takes : (a : Arcs) (m n q f l q' x c : ℕ) (lo hi lo' hi' : List ℕ) → q ≤ q' → 0 < length lo → 0 < length hi
    → IsPathOf a m n q hi → IsPathOf a m n q' lo → start_of f ≤ x → x ≤ end_of m l → bound_at lo x ≤ c
    → c ≤ last_at hi x → IsCut lo lo' c → IsCut hi hi' c
    → area (bound_at lo') (last_at hi') (start_of f) (x + 1 - start_of f)
    + area (λ y. max (bound_at lo y) c) (last_at hi) x (end_of m l + 1 - x) ≤ area_between m lo hi f l + 1
fan_takes a m n q f l q' x c lo hi lo' hi' le some some' k k' above below left right cut cut' =
    fan_area (bound_at lo) (last_at hi) (bound_at lo') (last_at hi') (start_of f) x (end_of m l) c above below
    (λ y. cut_at lo lo' c y some cut) (λ y. cut_at hi hi' c (y + 1) some' cut')
    (λ y. omega (arith, paths_beside a m n q q' hi lo le k k' y, path_mono a m n q hi k y))
    left right

-- the words between two of a gap's words are among the gap's
pub part_within : (p : Strip) (gap part : Gap) → IsGap p gap → part.hi.now ≡ gap.hi.now → part.lo.now ≡ gap.lo.now
    → gap.first ≤ part.first → part.first < part.last → part.last ≤ gap.last → IsPart p part
part_within p gap part k e f first order last = record {
  order = order;
  last = omega (arith, k.last, last);
  hi = ap length e ∙ k.hi;
  lo = ap length f ∙ k.lo;
  above = gap.first;
  first_below = first;
  from = subst (IsPathOf (arcs p) (rows p) (cols p) gap.first) (sym e) k.from;
  below = gap.last;
  last_above = last;
  to = subst (IsPathOf (arcs p) (rows p) (cols p) gap.last) (sym f) k.to;
}

-- the place where the first word enters a row, and the place where the second one leaves it, lie between them
pub enters_between : (a : Arcs) (m n q q' x : ℕ) (lo hi : List ℕ) → q ≤ q' → x < length hi → IsPathOf a m n q hi
    → IsPathOf a m n q' lo → (bound_at lo x ≤ get_or hi x 0) × (get_or hi x 0 ≤ last_at hi x)
enters_between a m n q q' x lo hi le fits k l = (
  omega (arith, bound_at-read hi x fits, paths_beside a m n q q' hi lo le k l x),
  omega (arith, bound_at-read hi x fits, path_mono a m n q hi k x),
)

pub leaves_between : (a : Arcs) (m n q q' x : ℕ) (lo hi : List ℕ) → q ≤ q' → x + 1 < length lo → IsPathOf a m n q hi
    → IsPathOf a m n q' lo → (bound_at lo x ≤ get_or lo (x + 1) 0) × (get_or lo (x + 1) 0 ≤ last_at hi x)
leaves_between a m n q q' x lo hi le fits k l = (
  omega (arith, bound_at-read lo (x + 1) fits, path_mono a m n q' lo l x),
  omega (arith, bound_at-read lo (x + 1) fits, paths_beside a m n q q' hi lo le k l (x + 1)),
)
