use Rattle.std.proofs.Common.{arith, ◌≡◌, ℕ, ◌+◌, ◌*◌, ◌/◌, ◌<◌, ◌≤◌, length, get_or, ap, ◌∙◌}
use Rattle.strip_graph.specs.Strips.{arcs, rows, cols}
use Rattle.row_paths.specs.Searches.{bound_at, last_at}
use Rattle.row_paths.proofs.GapLaws.{enters_between, leaves_between}
use Rattle.row_paths.proofs.divisions.guess.Given as given
use Rattle.row_paths.proofs.divisions.guess.Goals as goal
use Rattle.row_paths.proofs.divisions.guess.Goals.{After-looked_at-part}

-- the rows of the words looked at
rows_of : (q q' m r : ℕ) → q < q' → q' + 2 ≤ 2 * m → r ≡ m → (q' / 2 ≤ (q + 1) / 2 + m) × (q' / 2 ≤ (q + 1) / 2 + r)
    × ((q + 1) / 2 + r ≤ (q + 1) / 2 + m)
rows_of q q' m r lt last e = (omega arith, omega arith, omega arith)

within : (q q' m r a b : ℕ) → q < q' → q' + 2 ≤ 2 * m → r ≡ m → a ≡ 2 * m + 1 → b ≡ 2 * m + 1 → (q' / 2 < a)
    × ((q + 1) / 2 + r + 1 < b)
within q q' m r a b lt last e f f' = (omega arith, omega arith)

-- one table takes at most the bound, and so do two
once : (new old part all k : ℕ) → new ≤ old + 2 * (part + k) → part ≤ all → new ≤ old + 4 * (all + k)
once new old part all k count le = omega arith

twice : (new mid old part all k : ℕ) → new ≤ mid + 2 * (part + k) → mid ≤ old + 2 * (part + k) → part ≤ all
    → new ≤ old + 4 * (all + k)
twice new mid old part all k count count' le = omega arith

-- the rows looked at are within the part, its lists and its bounds
part_rows : (g : given.Over) (c : After-looked_at-part g)
    → let q : ℕ = c.looked_at-part.result.first in
    let q' : ℕ = c.looked_at-part.result.last in
    let m : ℕ = rows c.args.strip.now in
    (q' / 2 ≤ (q + 1) / 2 + m) × (q' / 2 ≤ (q + 1) / 2 + c.rows-rows.result)
    × ((q + 1) / 2 + c.rows-rows.result ≤ (q + 1) / 2 + m)
part_rows g c =
    let part = c.looked_at-part.ensures.part in
    rows_of c.looked_at-part.result.first c.looked_at-part.result.last (rows c.args.strip.now) c.rows-rows.result
    part.order part.last c.rows-rows.ensures.value

part_within : (g : given.Over) (c : After-looked_at-part g)
    → (c.looked_at-part.result.last / 2 < length c.looked_at-part.result.hi.now)
    × ((c.looked_at-part.result.first + 1) / 2 + c.rows-rows.result + 1 < length c.looked_at-part.result.lo.now)
part_within g c =
    let part = c.looked_at-part.ensures.part in
    within c.looked_at-part.result.first c.looked_at-part.result.last (rows c.args.strip.now) c.rows-rows.result _ _
    part.order part.last c.rows-rows.ensures.value part.hi part.lo

part_enters : (g : given.Over) (c : After-looked_at-part g)
    → let part = c.looked_at-part.result in
    (bound_at part.lo.now (part.last / 2) ≤ get_or part.hi.now (part.last / 2) 0)
    × (get_or part.hi.now (part.last / 2) 0 ≤ last_at part.hi.now (part.last / 2))
part_enters g c =
    let part = c.looked_at-part.ensures.part in
    enters_between (arcs c.args.strip.now) (rows c.args.strip.now) (cols c.args.strip.now) part.above part.below
    (c.looked_at-part.result.last / 2) c.looked_at-part.result.lo.now c.looked_at-part.result.hi.now
    (omega (arith, part.first_below, part.order, part.last_above)) (omega (arith, part.hi, part.last)) part.from part.to

part_leaves : (g : given.Over) (c : After-looked_at-part g)
    → let part = c.looked_at-part.result in
    let row : ℕ = (part.first + 1) / 2 + c.rows-rows.result in
    (bound_at part.lo.now row ≤ get_or part.lo.now (row + 1) 0)
    × (get_or part.lo.now (row + 1) 0 ≤ last_at part.hi.now row)
part_leaves g c =
    let part = c.looked_at-part.ensures.part in
    leaves_between (arcs c.args.strip.now) (rows c.args.strip.now) (cols c.args.strip.now) part.above part.below
    ((c.looked_at-part.result.first + 1) / 2 + c.rows-rows.result) c.looked_at-part.result.lo.now
    c.looked_at-part.result.hi.now (omega (arith, part.first_below, part.order, part.last_above))
    (omega (arith, c.rows-rows.ensures.value, part.lo, part.order, part.last)) part.from part.to

pub bounds-part-row : goal.bounds-part-row
bounds-part-row g c = (part_within g (goal.at.bounds-part-row g c).After-looked_at-part).0

pub bounds-part-row-2 : goal.bounds-part-row-2
bounds-part-row-2 g c = (part_within g (goal.at.bounds-part-row-2 g c).After-looked_at-part).1

pub fill_place-requires-clause-below : goal.fill_place-requires-clause-below
fill_place-requires-clause-below g c =
    (part_rows g (goal.at.fill_place-requires-clause-below g c).After-looked_at-part).0

pub fill_place-requires-2-clause-above : goal.fill_place-requires-2-clause-above
fill_place-requires-2-clause-above g c =
    (part_rows g (goal.at.fill_place-requires-2-clause-above g c).After-looked_at-part).1

pub fill_place-requires-2-clause-below : goal.fill_place-requires-2-clause-below
fill_place-requires-2-clause-below g c =
    (part_rows g (goal.at.fill_place-requires-2-clause-below g c).After-looked_at-part).2

pub first_less-requires-clause-by_first : goal.first_less-requires-clause-by_first
first_less-requires-clause-by_first g c = ap length c.deref.ensures.value ∙ c.in_ok-by_first.ensures

pub first_less-requires-clause-by_last : goal.first_less-requires-clause-by_last
first_less-requires-clause-by_last g c = ap length c.deref-2.ensures.value ∙ c.in_ok-by_last.ensures

pub returns-in_err-fill_place-clause-count : goal.returns-in_err-fill_place-clause-count
returns-in_err-fill_place-clause-count g c = once _ _ _ _ _ c.fill_place.ensures.count c.looked_at-part.ensures.places

pub returns-in_err-by_first-clause-count : goal.returns-in_err-by_first-clause-count
returns-in_err-by_first-clause-count g c = once _ _ _ _ _ c.fill_place.ensures.count c.looked_at-part.ensures.places

pub returns-in_err-fill_place-2-clause-count : goal.returns-in_err-fill_place-2-clause-count
returns-in_err-fill_place-2-clause-count g c =
    twice _ _ _ _ _ _ c.fill_place-2.ensures.count c.fill_place.ensures.count c.looked_at-part.ensures.places

pub returns-in_err-by_last-clause-count : goal.returns-in_err-by_last-clause-count
returns-in_err-by_last-clause-count g c =
    twice _ _ _ _ _ _ c.fill_place-2.ensures.count c.fill_place.ensures.count c.looked_at-part.ensures.places

pub returns-clause-count : goal.returns-clause-count
returns-clause-count g c = twice _ _ _ _ _ _ c.fill_place-2.ensures.count c.fill_place.ensures.count
    c.looked_at-part.ensures.places

pub fill_place-requires-clause-left : goal.fill_place-requires-clause-left
fill_place-requires-clause-left g c =
    (part_enters g (goal.at.fill_place-requires-clause-left g c).After-looked_at-part).0

pub fill_place-requires-clause-right : goal.fill_place-requires-clause-right
fill_place-requires-clause-right g c =
    (part_enters g (goal.at.fill_place-requires-clause-right g c).After-looked_at-part).1

pub fill_place-requires-2-clause-left : goal.fill_place-requires-2-clause-left
fill_place-requires-2-clause-left g c =
    (part_leaves g (goal.at.fill_place-requires-2-clause-left g c).After-looked_at-part).0

pub fill_place-requires-2-clause-right : goal.fill_place-requires-2-clause-right
fill_place-requires-2-clause-right g c =
    (part_leaves g (goal.at.fill_place-requires-2-clause-right g c).After-looked_at-part).1
