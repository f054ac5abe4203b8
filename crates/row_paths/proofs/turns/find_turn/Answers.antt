use Rattle.std.proofs.Common.{rules, arith, ◌≡◌, ℕ, ◌+◌, ◌-◌, ◌*◌, ◌/◌, ◌≤◌, List, length, ap, sym, subst, subst₂, ◌∙◌}
use Rattle.strip_graph.specs.Distances.{distance, IsFirst}
use Rattle.strip_graph.specs.Strips.{arcs, rows, cols}
use Rattle.row_paths.specs.Searches.{bound_at, last_at, IsRegion, StaysIn}
use Rattle.row_paths.specs.Counts.{area}
use Rattle.row_paths.specs.Turns.{start_of}
use Rattle.row_paths.proofs.AmountLaws.{written}
use Rattle.row_paths.proofs.turns.find_turn.Goals as goal

-- the rows of a turn within the rows of a strip
fits : (q m r : ℕ) → q + 2 ≤ 2 * m → r ≡ m → (q + 1) / 2 + r + 1 ≤ 2 * m
fits q m r le e = omega arith

ordered : (q r : ℕ) → q / 2 ≤ (q + 1) / 2 + r
ordered q r = omega arith

pub invariant_of-region : goal.invariant_of-region
invariant_of-region g c =
    let p = c.args.strip.now in
    let q = c.args.turn in
    let m : c.rows-rows.result ≡ rows p = c.rows-rows.ensures.value in
    let n : c.cols.result ≡ cols p = c.cols.ensures.value in
    let few = fits q (rows p) c.rows-rows.result c.requires.turn m in
    record {
      lo_fits = omega (arith, few, c.requires.lo);
      hi_fits = omega (arith, few, c.requires.hi);
      few = omega (arith, few, c.rows-rows.ensures.ring.few);
      narrow = omega (arith, n, c.cols.ensures.ring.few);
      order = ordered q c.rows-rows.result;
      shape = subst₂ (λ (k e : ℕ). IsRegion (bound_at c.args.lo.now) (last_at c.args.hi.now) k ((q + 1) / 2 + e))
          (sym n) (sym m) c.requires.region;
    }

pub find-cost-requires-clause-within : goal.find-cost-requires-clause-within
find-cost-requires-clause-within g c =
    let p = c.args.strip.now in
    subst (λ (e : ℕ). StaysIn (arcs p) (bound_at c.args.lo.now) (last_at c.args.hi.now) (cols p) (start_of c.args.turn)
    ((c.args.turn + 1) / 2 + e)) (sym c.rows-rows.ensures.value) c.requires.within

pub returns-clause-cost : goal.returns-clause-cost
returns-clause-cost g c =
    let p = c.args.strip.now in
    let q = c.args.turn in
    c.find-cost.ensures.cost ∙ ap (λ (e : ℕ). distance (arcs p) (start_of q) 0 ((q + 1) / 2 + e - start_of q) (cols p))
    c.rows-rows.ensures.value

pub returns-clause-count : goal.returns-clause-count
returns-clause-count g c =
    let q = c.args.turn in
    subst (λ (e : ℕ). c.find-cost.new.steps ≤ c.args.steps.now
    + 2 * area (bound_at c.args.lo.now) (last_at c.args.hi.now) (start_of q) ((q + 1) / 2 + e + 1 - start_of q))
    c.rows-rows.ensures.value c.find-cost.ensures.count

pub returns-clause-path : goal.returns-clause-path
returns-clause-path g c = λ w f x.
    let p = c.args.strip.now in
    let q = c.args.turn in
    let m : c.rows-rows.result ≡ rows p = c.rows-rows.ensures.value in
    let path = c.find-cost.new.path in
    let size : c.in_ok-path.path.len ≡ length path = search rules in
    ap (λ (l : List ℕ). bound_at l x) (written path c.in_ok-path.path.items c.in_ok-path.path.len size)
    ∙ c.find-cost.ensures.entries w (subst
    (λ (k : ℕ). IsFirst (arcs p) (start_of q) 0 ((q + 1) / 2 + k - start_of q) (cols p) w) (sym m) f) x
