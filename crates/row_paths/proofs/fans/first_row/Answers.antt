use Rattle.std.proofs.Common.{refl, map, sym, ◌∙◌, ap}
use Rattle.std.proofs.lemmas.List.{length-map, map-set}
use Rattle.strip_graph.specs.Strips.{arcs}
use Rattle.row_paths.specs.StripCosts.{largest}
use Rattle.row_paths.specs.Searches.{bound_at, last_at}
use Rattle.row_paths.proofs.BoundLaws.{le_lt, le_le, le_same, next_up, eq_le, eq_up, le_to, lt_eq, row_in, bound_upto, max_up, none_less}
use Rattle.row_paths.proofs.Places.{bound_read}
use Rattle.row_paths.proofs.FanLaws.{begun, reached_at}
use Rattle.row_paths.proofs.fans.first_row.Goals as goal

pub go_on-requires-clause-reached : goal.go_on-requires-clause-reached
go_on-requires-clause-reached g c =
    let p = c.args.from.now.strip in
    let lo = bound_at c.args.region.now.lo.now in
    let hi = last_at c.args.region.now.hi.now in
    let i = c.args.region.now.start in
    reached_at g.C.Sum.Amount.MOST p p lo hi i c.args.left c.args.from.now.row i _ c.args.left c.args.left refl
    c.requires.row (le_same c.args.left)
    (rw (map-set, c.none.ensures) (begun (largest g.C.Sum.Amount.MOST p) (arcs p) lo hi i c.args.left
    (map g.C.Sum.Amount.value c.args.sums.now)
    (lt_eq (le_lt (le_le c.requires.left (c.args.region.now.shape.within i)) c.requires.room.sums)
    (length-map c.args.sums.now g.C.Sum.Amount.value))))

pub returns-clause-reached : goal.returns-clause-reached
returns-clause-reached g c =
    let p = c.args.from.now.strip in
    let lo = bound_at c.args.region.now.lo.now in
    let hi = last_at c.args.region.now.hi.now in
    let i = c.args.region.now.start in
    let hi_is = bound_read c.args.region.now.hi.now i c.row-row.result (c.row-row.ensures ∙ c.requires.row)
    (le_lt (next_up c.args.region.now.order) c.args.region.now.hi_fits) in
    reached_at g.C.Sum.Amount.MOST p p lo hi i c.args.left i c.args.from.now.row
    (map g.C.Sum.Amount.value c.go_on.new.sums) (hi i) _ refl (sym c.requires.row) (eq_up hi_is)
    c.go_on.ensures.reached

pub bounds-region-row : goal.bounds-region-row
bounds-region-row g c = row_in (c.row-row.ensures ∙ c.requires.row) c.args.region.now.order c.args.region.now.hi_fits

pub bounds-sums-left : goal.bounds-sums-left
bounds-sums-left g c = le_lt (le_le c.requires.left (c.args.region.now.shape.within c.args.region.now.start))
    c.requires.room.sums

pub go_on-requires-clause-above : goal.go_on-requires-clause-above
go_on-requires-clause-above g c = eq_up (sym c.requires.row)

pub go_on-requires-clause-row : goal.go_on-requires-clause-row
go_on-requires-clause-row g c = eq_le c.requires.row c.args.region.now.order

pub go_on-requires-clause-from : goal.go_on-requires-clause-from
go_on-requires-clause-from g c = max_up (eq_le (ap (bound_at c.args.region.now.lo.now) c.requires.row) c.requires.from)
    (le_same c.args.left)

pub go_on-requires-clause-last : goal.go_on-requires-clause-last
go_on-requires-clause-last g c = bound_upto
    (bound_read c.args.region.now.hi.now c.args.region.now.start c.row-row.result (c.row-row.ensures ∙ c.requires.row)
    (le_lt (next_up c.args.region.now.order) c.args.region.now.hi_fits))
    (c.args.region.now.shape.within c.args.region.now.start)

pub go_on-requires-clause-order : goal.go_on-requires-clause-order
go_on-requires-clause-order g c = le_to c.requires.left
    (bound_read c.args.region.now.hi.now c.args.region.now.start c.row-row.result (c.row-row.ensures ∙ c.requires.row)
    (le_lt (next_up c.args.region.now.order) c.args.region.now.hi_fits))

pub go_on-requires-clause-shut : goal.go_on-requires-clause-shut
go_on-requires-clause-shut g c = λ k e lt. none_less _ _ lt c.requires.row
