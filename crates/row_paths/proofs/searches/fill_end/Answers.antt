use Rattle.std.proofs.Common.{arith, ◌≡◌, ℕ, ◌+◌, ◌*◌, false, map, set, get_or, ap, sym, ◌∙◌, subst, refl, length, inl}
use Rattle.std.proofs.lemmas.List.{length-map, map-set}
use Rattle.strip_graph.specs.Strips.{arcs}
use Rattle.row_paths.specs.StripCosts.{largest}
use Rattle.row_paths.specs.Searches.{bound_at, last_at, IsPlaceCost, IsWay}
use Rattle.row_paths.specs.InRegions.{CostsFrom, WaysFrom}
use Rattle.row_paths.proofs.BoundLaws.{eq_le, eq_up, le_same, lt_eq}
use Rattle.row_paths.proofs.Places.{bound_at-read}
use Rattle.row_paths.proofs.Rows.{ended, place_fits}
use Rattle.row_paths.proofs.searches.fill_end.Given as given
use Rattle.row_paths.proofs.searches.fill_end.Goals as goal
use Rattle.row_paths.proofs.searches.fill_end.Goals.{After-row-row}

-- the last column of the last row has its cost and its way
ended_in : (g : given.Over) (c : After-row-row g)
    → CostsFrom g.C.Sum.Amount.MOST c.args.from.now.strip c.args.region.now c.args.from.now.row
    (set (map g.C.Sum.Amount.value c.args.sums.now) c.args.region.now.width 0) c.args.region.now.width
    × WaysFrom c.args.from.now.strip c.args.region.now c.args.from.now.row
    (set c.args.ways.now (c.row-row.result * (c.args.region.now.width + 1) + c.args.region.now.width) false)
    c.args.region.now.width
ended_in g c =
    let p = c.args.from.now.strip in
    let w = c.args.region.now.width in
    let value = g.C.Sum.Amount.value in
    ended (largest g.C.Sum.Amount.MOST p) (arcs p) (bound_at c.args.region.now.lo.now)
    (last_at c.args.region.now.hi.now) c.args.region.now.end w c.args.from.now.row (c.row-row.result * (w + 1) + w)
    (map value c.args.sums.now) c.args.ways.now c.requires.row
    (ap (last_at c.args.region.now.hi.now) c.requires.row ∙ c.args.region.now.shape.ends)
    (lt_eq c.requires.room.sums (length-map c.args.sums.now value)) (ap (λ (k : ℕ). k * (w + 1) + w) c.row-row.ensures)
    (place_fits c.row-row.result c.args.region.now.end w w w (length c.args.ways.now) refl
    (eq_le c.row-row.ensures (eq_up c.requires.row)) (le_same w) c.requires.ways)

-- the first column of the last row, as it is read
lo_is : (g : given.Over) (c : After-row-row g)
    → bound_at c.args.region.now.lo.now c.args.region.now.end ≡ get_or c.args.region.now.lo.now c.row-row.result 0
lo_is g c =
    bound_at-read c.args.region.now.lo.now c.args.region.now.end (omega (arith, c.args.region.now.lo_fits))
    ∙ ap (λ (r : ℕ). get_or c.args.region.now.lo.now r 0) (sym (c.row-row.ensures ∙ c.requires.row))

pub go_right-requires-clause-right : goal.go_right-requires-clause-right
go_right-requires-clause-right g c =
    rw (map-set, c.none.ensures) (ended_in g (goal.at.go_right-requires-clause-right g c).After-row-row).0

pub returns-clause-costs : goal.returns-clause-costs
returns-clause-costs g c = λ k from to.
    let p = c.args.from.now.strip in
    let end = c.args.region.now.end in
    let first = lo_is g (goal.at.returns-clause-costs g c).After-row-row in
    let to' = ap (last_at c.args.region.now.hi.now) c.requires.row in
    subst (λ (r : ℕ). IsPlaceCost (largest g.C.Sum.Amount.MOST p) (arcs p) (bound_at c.args.region.now.lo.now)
    (last_at c.args.region.now.hi.now) end c.args.region.now.width r k
    (get_or (map g.C.Sum.Amount.value c.go_right.new.sums) k 0)) c.requires.row
    (c.go_right.ensures.costs k (omega (arith, first, from)) (omega (arith, to, to')))

pub returns-clause-ways : goal.returns-clause-ways
returns-clause-ways g c = λ k from to.
    let end = c.args.region.now.end in
    let n = c.args.region.now.width in
    let first = lo_is g (goal.at.returns-clause-ways g c).After-row-row in
    let to' = ap (last_at c.args.region.now.hi.now) c.requires.row in
    subst (λ (r : ℕ). IsWay (arcs c.args.from.now.strip) (bound_at c.args.region.now.lo.now)
    (last_at c.args.region.now.hi.now) end n r k (get_or c.go_right.new.ways (r * (n + 1) + k) false))
    c.requires.row
    (c.go_right.ensures.ways k (omega (arith, first, from)) (omega (arith, to, to')))

pub bounds-sums-region : goal.bounds-sums-region
bounds-sums-region g c = c.requires.room.sums

pub bounds-ways-at : goal.bounds-ways-at
bounds-ways-at g c = place_fits c.row-row.result c.args.region.now.end c.args.region.now.width c.args.region.now.width
    c.args.region.now.width (length c.args.ways.now) refl (eq_le c.row-row.ensures (eq_up c.requires.row))
    (le_same c.args.region.now.width) c.requires.ways

pub go_right-requires-clause-known : goal.go_right-requires-clause-known
go_right-requires-clause-known g c = (ended_in g (goal.at.go_right-requires-clause-known g c).After-row-row).1

pub go_right-requires-clause-last : goal.go_right-requires-clause-last
go_right-requires-clause-last g c =
    eq_up (sym (ap (last_at c.args.region.now.hi.now) c.requires.row ∙ c.args.region.now.shape.ends))

pub go_right-requires-clause-shut : goal.go_right-requires-clause-shut
go_right-requires-clause-shut g c = λ k lt. inl c.requires.row

pub go_right-requires-clause-row : goal.go_right-requires-clause-row
go_right-requires-clause-row g c = eq_up c.requires.row
