use Rattle.std.proofs.Common.{rules, arith, ◌≡◌, ℕ, suc, ◌+◌, ◌-◌, ◌/◌, ◌^◌, ◌<◌, ◌≤◌, List, length, get_or, ap, ◌∙◌, mul-le-mul}
use Rattle.fku_types.specs.declared.limits.TheConstants.{MAX_COMPOSITE_VERTICES}
use Rattle.strip_graph.specs.Strips.{arcs, rows, cols}
use Rattle.row_paths.specs.Counts.{area}
use Rattle.row_paths.specs.Searches.{bound_at, last_at}
use Rattle.row_paths.specs.Turns.{start_of, end_of}
use Rattle.row_paths.proofs.Counting.{area-whole}
use Rattle.row_paths.proofs.Places.{bound_at-read}
use Rattle.row_paths.proofs.TurnLaws.{path_within}
use Rattle.row_paths.proofs.divisions.places_between.Given as given
use Rattle.row_paths.proofs.divisions.places_between.Goals as goal
use Rattle.row_paths.proofs.divisions.places_between.Goals.{After-saturating_sub-places}

-- one more row of a region whose bounds are read
row_more : (lo hi : List ℕ) (i k x : ℕ) → i + k + 1 < length hi → i + k < length lo
    → x ≡ get_or hi (i + k + 1) 0 + 1 - get_or lo (i + k) 0
    → area (bound_at lo) (last_at hi) i k + x ≡ area (bound_at lo) (last_at hi) i (k + 1)
row_more lo hi i k x lt lt' e =
    let d : k + 1 ≡ suc k = omega arith in
    omega (
      arith,
      e,
      ap (area (bound_at lo) (last_at hi) i) d,
      bound_at-read hi (i + k + 1) lt,
      bound_at-read lo (i + k) lt',
    )

few_places : (lo hi : List ℕ) (n i k : ℕ) → ((x : ℕ) → bound_at hi x ≤ n) → n ≤ MAX_COMPOSITE_VERTICES → k ≤ 8193
    → area (bound_at lo) (last_at hi) i k ≤ 2 ^ 45
few_places lo hi n i k within narrow few =
    let size : n + 1 ≤ 4097 = omega arith in
    omega (arith, area-whole (bound_at lo) (last_at hi) n (λ x. within (x + 1)) i k, mul-le-mul few size)

-- one more row is counted
more : (g : given.Over) (c : After-saturating_sub-places g)
    → area (bound_at c.args.gap.now.lo.now) (last_at c.args.gap.now.hi.now) (c.args.gap.now.first / 2) c.loop-k.k
    + c.saturating_sub-places.result
    ≡ area (bound_at c.args.gap.now.lo.now) (last_at c.args.gap.now.hi.now) (c.args.gap.now.first / 2)
    (c.loop-k.k + 1)
more g c =
    let m' : c.rows-rows.result ≡ rows c.args.strip.now = search rules in
    row_more c.args.gap.now.lo.now c.args.gap.now.hi.now (c.args.gap.now.first / 2) c.loop-k.k
    c.saturating_sub-places.result
    (omega (arith, c.loop-k-test.true, c.requires.gap.hi, c.requires.gap.last, m'))
    (omega (arith, c.loop-k-test.true, c.requires.gap.lo, c.requires.gap.last, m'))
    (omega (arith, c.saturating_sub-places.ensures, c.from.ensures, c.from-last.ensures))

pub overflow_add-places : goal.overflow_add-places
overflow_add-places g c =
    let hi = c.args.gap.now.hi.now in
    let i : ℕ = c.args.gap.now.first / 2 in
    let k = c.loop-k.k in
    let m' : c.rows-rows.result ≡ rows c.args.strip.now = search rules in
    let few = few_places c.args.gap.now.lo.now hi (cols c.args.strip.now) i (k + 1)
    (path_within (arcs c.args.strip.now) (rows c.args.strip.now) (cols c.args.strip.now) c.args.gap.now.first hi
    c.requires.gap.from) c.cols-cols.ensures.ring.few
    (omega (arith, c.loop-k-test.true, c.requires.gap.last, m', c.rows-rows.ensures.ring.few)) in
    omega (arith, more g (goal.at.overflow_add-places g c).After-saturating_sub-places, few, c.loop-k.invariant)

pub loop-k-preserved : goal.loop-k-preserved
loop-k-preserved g c =
    omega (arith, more g (goal.at.loop-k-preserved g c).After-saturating_sub-places, c.loop-k.invariant)

pub returns-clause-places : goal.returns-clause-places
returns-clause-places g c =
    let m' : c.rows-rows.result ≡ rows c.args.strip.now = search rules in
    let all : c.loop-k.k ≡ end_of (rows c.args.strip.now) c.args.gap.now.last + 1 - start_of c.args.gap.now.first =
    omega (arith, c.loop-k-test.false, c.loop-k.auto.k-end, m') in
    c.loop-k.invariant ∙ ap (area (bound_at c.args.gap.now.lo.now) (last_at c.args.gap.now.hi.now)
    (start_of c.args.gap.now.first)) all

pub returns-clause-few : goal.returns-clause-few
returns-clause-few g c =
    let hi = c.args.gap.now.hi.now in
    let m' : c.rows-rows.result ≡ rows c.args.strip.now = search rules in
    let few = few_places c.args.gap.now.lo.now hi (cols c.args.strip.now) (c.args.gap.now.first / 2) c.loop-k.k
    (path_within (arcs c.args.strip.now) (rows c.args.strip.now) (cols c.args.strip.now) c.args.gap.now.first hi
    c.requires.gap.from) c.cols-cols.ensures.ring.few
    (omega (arith, c.loop-k.auto.k-end, c.requires.gap.last, m', c.rows-rows.ensures.ring.few)) in
    omega (arith, few, c.loop-k.invariant)
