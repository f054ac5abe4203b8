use Rattle.std.proofs.Common.{◌≡◌, ℕ, ◌+◌, ◌<◌, ◌≤◌, map, length, get_or, ap, ◌∙◌}
use Rattle.std.proofs.lemmas.List.{length-map, map-set}
use Rattle.strip_graph.specs.Strips.{arcs}
use Rattle.row_paths.specs.StripCosts.{largest}
use Rattle.row_paths.specs.Searches.{bound_at, last_at}
use Rattle.row_paths.proofs.AmountLaws.{read_is}
use Rattle.row_paths.proofs.Places.{cost_fits}
use Rattle.row_paths.proofs.BoundLaws.{le_lt, lt_lt, le_le, lt_eq, sum_eq, max_sinks, one_step}
use Rattle.row_paths.proofs.FanLaws.{entered}
use Rattle.row_paths.proofs.fans.enter.Given as given
use Rattle.row_paths.proofs.fans.enter.Goals as goal
use Rattle.row_paths.proofs.fans.enter.Goals.{Start}

-- the row's first column is in the region and in the sums
in_width : (g : given.Over) (c : Start g) → c.args.first ≤ c.args.region.now.width
in_width g c = le_le c.requires.within (c.args.region.now.shape.within c.args.above.now.row)

in_sums : (g : given.Over) (c : Start g) → c.args.first < length c.args.sums.now
in_sums g c = le_lt (in_width g c) c.requires.room.sums

pub plus-sum-requires : goal.plus-sum-requires
plus-sum-requires g c =
    let p = c.args.above.now.strip in
    let x = c.args.above.now.row in
    let value = g.C.Sum.Amount.value in
    let cost = g.C.Cost.value in
    let first = c.args.first in
    let u = read_is value c.args.sums.now first c.index-sums-first.result c.index-sums-first.is
    (in_sums g (goal.at.plus-sum-requires g c).Start) in
    let fits = cost_fits g.C.Sum.Amount.MOST p (arcs p) (bound_at c.args.region.now.lo.now)
    (last_at c.args.region.now.hi.now) x first c.args.region.now.start c.args.left
    (get_or (map value c.args.sums.now) first 0) (cost c.down-down.result)
    (lt_lt c.requires.row c.requires.room.end)
    (le_le (in_width g (goal.at.plus-sum-requires g c).Start) c.requires.room.width)
    c.down-down.ensures.small
    (c.requires.reached first (max_sinks _ _ _ _ c.requires.first (c.args.region.now.shape.sinks x)) c.requires.within)
    in
    sum_eq _ _ _ _ u fits

pub returns : goal.returns
returns g c =
    let p = c.args.above.now.strip in
    let x = c.args.above.now.row in
    let value = g.C.Sum.Amount.value in
    let cost = g.C.Cost.value in
    let first = c.args.first in
    let u = read_is value c.args.sums.now first c.index-sums-first.result c.index-sums-first.is
    (in_sums g (goal.at.returns g c).Start) in
    let v = c.down-down.ensures.value in
    let sum : value c.plus-sum.result ≡ get_or (map value c.args.sums.now) first 0 + cost c.down-down.result =
    c.plus-sum.ensures ∙ ap (λ (k : ℕ). k + cost c.down-down.result) u in
    let all = entered (largest g.C.Sum.Amount.MOST p) (arcs p) (bound_at c.args.region.now.lo.now)
    (last_at c.args.region.now.hi.now) c.args.region.now.start c.args.left x first (cost c.down-down.result)
    (map value c.args.sums.now)
    (lt_eq (in_sums g (goal.at.returns g c).Start) (length-map c.args.sums.now value)) c.requires.above c.requires.first
    (c.args.region.now.shape.sinks x) c.requires.within v c.down-down.ensures.small c.requires.reached in
    record {
      reached = rw (map-set, sum) all.0;
      after = rw (map-set, sum) all.1;
      count =
          one_step _ _ c.down-down.ensures.count;
    }

pub down-down-requires : goal.down-down-requires
down-down-requires g c = le_le (in_width g (goal.at.down-down-requires g c).Start) c.requires.room.width

pub bounds-sums-first : goal.bounds-sums-first
bounds-sums-first g c = in_sums g (goal.at.bounds-sums-first g c).Start

pub bounds-sums-first-2 : goal.bounds-sums-first-2
bounds-sums-first-2 g c = in_sums g (goal.at.bounds-sums-first-2 g c).Start
