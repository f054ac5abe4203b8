use Rattle.std.proofs.Common.{rules, refl, ◌≡◌, ℕ, ◌+◌, ◌*◌, ◌≤◌, ◌<◌, map, length, get_or, ap, sym, ◌∙◌}
use Rattle.std.proofs.lemmas.List.{length-map, map-set}
use Rattle.strip_graph.specs.Strips.{arcs}
use Rattle.row_paths.specs.StripCosts.{largest}
use Rattle.row_paths.specs.Searches.{bound_at, last_at}
use Rattle.row_paths.proofs.AmountLaws.{read_is}
use Rattle.row_paths.proofs.Places.{cost_fits}
use Rattle.row_paths.proofs.BoundLaws.{le_lt, le_le, lt_le, eq_le, le_eq, lt_eq, sum_eq, bound_next, bound_upto, one_step}
use Rattle.row_paths.proofs.Rows.{gone_down, place_fits, place_of}
use Rattle.row_paths.proofs.searches.go_down.Given as given
use Rattle.row_paths.proofs.searches.go_down.Goals as goal
use Rattle.row_paths.proofs.searches.go_down.Goals.{After-row-row}

-- the row's last column, as it is read, in the region and in the sums
hi_is : (g : given.Over) (c : After-row-row g)
    → last_at c.args.region.now.hi.now c.args.from.now.row ≡ get_or c.args.region.now.hi.now (c.row-row.result + 1) 0
hi_is g c = bound_next c.args.region.now.hi.now c.args.from.now.row c.row-row.result c.args.region.now.end
    c.row-row.ensures c.requires.row c.args.region.now.hi_fits

in_width : (g : given.Over) (c : After-row-row g)
    → get_or c.args.region.now.hi.now (c.row-row.result + 1) 0 ≤ c.args.region.now.width
in_width g c = bound_upto (hi_is g c) (c.args.region.now.shape.within c.args.from.now.row)

in_sums : (g : given.Over) (c : After-row-row g)
    → get_or c.args.region.now.hi.now (c.row-row.result + 1) 0 < length c.args.sums.now
in_sums g c = le_lt (in_width g c) c.requires.room.sums

pub bounds-sums-last : goal.bounds-sums-last
bounds-sums-last g c = in_sums g (goal.at.bounds-sums-last g c).After-row-row

pub bounds-sums-last-2 : goal.bounds-sums-last-2
bounds-sums-last-2 g c = in_sums g (goal.at.bounds-sums-last-2 g c).After-row-row

pub down-down-requires : goal.down-down-requires
down-down-requires g c = le_le (in_width g (goal.at.down-down-requires g c).After-row-row) c.requires.room.width

pub bounds-ways-at : goal.bounds-ways-at
bounds-ways-at g c =
    place_fits c.row-row.result c.args.region.now.end (get_or c.args.region.now.hi.now (c.row-row.result + 1) 0)
    c.args.region.now.width c.args.region.now.width (length c.args.ways.now) refl
    (eq_le c.row-row.ensures (lt_le c.requires.row))
    (in_width g (goal.at.bounds-ways-at g c).After-row-row) c.requires.ways

pub plus-cost-requires : goal.plus-cost-requires
plus-cost-requires g c =
    let p = c.args.from.now.strip in
    let x = c.args.from.now.row in
    let value = g.C.Sum.Amount.value in
    let cost = g.C.Cost.value in
    let hi_is' = hi_is g (goal.at.plus-cost-requires g c).After-row-row in
    let last : ℕ = get_or c.args.region.now.hi.now (c.row-row.result + 1) 0 in
    let at = in_width g (goal.at.plus-cost-requires g c).After-row-row in
    let u = read_is value c.args.sums.now last c.index-sums-last.result c.index-sums-last.is
    (le_lt at c.requires.room.sums) in
    let below = c.requires.below last (le_eq (c.args.region.now.shape.joined x) (sym hi_is'))
    (eq_le (sym hi_is') (c.args.region.now.shape.rises x)) in
    let fits = cost_fits g.C.Sum.Amount.MOST p (arcs p) (bound_at c.args.region.now.lo.now)
    (last_at c.args.region.now.hi.now) c.args.region.now.end c.args.region.now.width (x + 1) last
    (get_or (map value c.args.sums.now) last 0) (cost c.down-down.result)
    c.requires.room.end c.requires.room.width c.down-down.ensures.small below in
    sum_eq _ _ _ _ u fits

pub returns : goal.returns
returns g c =
    let p = c.args.from.now.strip in
    let x = c.args.from.now.row in
    let n = c.args.region.now.width in
    let value = g.C.Sum.Amount.value in
    let cost = g.C.Cost.value in
    let hi_is' = hi_is g (goal.at.returns g c).After-row-row in
    let last : ℕ = get_or c.args.region.now.hi.now (c.row-row.result + 1) 0 in
    let at = in_width g (goal.at.returns g c).After-row-row in
    let u = read_is value c.args.sums.now last c.index-sums-last.result c.index-sums-last.is
    (le_lt at c.requires.room.sums) in
    let v = c.down-down.ensures.value in
    let sum : value c.plus-cost.result ≡ get_or (map value c.args.sums.now) last 0 + cost c.down-down.result =
    c.plus-cost.ensures ∙ ap (λ (k : ℕ). k + cost c.down-down.result) u in
    let fits = place_fits c.row-row.result c.args.region.now.end last n n (length c.args.ways.now) refl
    (eq_le c.row-row.ensures (lt_le c.requires.row)) at c.requires.ways in
    let gone = gone_down (largest g.C.Sum.Amount.MOST p) (arcs p) (bound_at c.args.region.now.lo.now)
    (last_at c.args.region.now.hi.now) c.args.region.now.end n x last (c.row-row.result * (n + 1) + last)
    (cost c.down-down.result) (map value c.args.sums.now) c.args.ways.now
    (sym hi_is') (lt_eq (le_lt at c.requires.room.sums) (length-map c.args.sums.now value))
    (place_of x c.row-row.result last n n c.row-row.ensures refl) fits c.requires.row at
    (c.args.region.now.shape.rises x) (c.args.region.now.shape.joined x) v c.down-down.ensures.small c.requires.below in
    record {
      below = rw (map-set, sum) gone.below;
      costs = rw (map-set, sum) gone.costs;
      ways = gone.ways;
      rest =
          gone.rest;
      count = one_step _ _ c.down-down.ensures.count;
    }

pub offset_bounds-sums-last : goal.offset_bounds-sums-last
offset_bounds-sums-last g c = search (rules, in_sums g (goal.at.offset_bounds-sums-last g c).After-row-row)

pub offset_bounds-sums-last-2 : goal.offset_bounds-sums-last-2
offset_bounds-sums-last-2 g c = search (rules, in_sums g (goal.at.offset_bounds-sums-last-2 g c).After-row-row)
