-- What a search keeps, stated for a strip, a region of it and a row.
use Rattle.std.specs.Prelude.{ℕ, ◌+◌, ◌-◌, ◌*◌, ◌<◌, ◌≤◌, Bool, List}
use Rattle.strip_graph.specs.declared.tilings.Step.{Step}
use Rattle.strip_graph.specs.Strips.{Strip, arcs, rows, cols}
use Rattle.strip_graph.specs.Distances.{IsFirst}
use Rattle.row_paths.specs.declared.regions.Region.{Region}
use Rattle.row_paths.specs.StripCosts.{largest}
use Rattle.row_paths.specs.Counts.{area}
use Rattle.row_paths.specs.Searches.{bound_at, last_at, HasCosts, HasCostsBefore, HasWays, HasAllWays, StaysIn}
use Rattle.row_paths.specs.Fans.{HasReached, HasReachedAfter, HasEnds, HasStarts}

-- the first and the last column of a row in a region
abbrev pub first_in : Region → ℕ → ℕ
first_in g = bound_at g.lo.now

abbrev pub last_in : Region → ℕ → ℕ
last_in g = last_at g.hi.now

-- how many places the region has
abbrev pub places_in : Region → ℕ
places_in g = area (first_in g) (last_in g) g.start (g.end + 1 - g.start)

-- a search has room: the region's rows are among rows 0 to 2m - 1 of the strip, its columns are columns of the strip,
-- and a list of `count` sums has one for each of them
pub record HasRoom (p : Strip) (g : Region) (count : ℕ) : Type 0 where
  pub end : g.end < 2 * rows p
  pub width : g.width ≤ cols p
  pub sums : g.width < count

-- a word is the first least one from the region's first row to its last one; and such words stay in the region
abbrev pub IsFirstIn : Strip → Region → List Step → Type 0
IsFirstIn p g w = IsFirst (arcs p) g.start 0 (g.end - g.start) (cols p) w

abbrev pub WordsStayIn : Strip → Region → Type 0
WordsStayIn p g = StaysIn (arcs p) (first_in g) (last_in g) (cols p) g.start g.end

-- costs to the region's end, from the places of a row from column `first` on, and from those before column `last`; no
-- word of the strip costs more than `most`
abbrev pub CostsFrom : ℕ → Strip → Region → ℕ → List ℕ → ℕ → Type 0
CostsFrom most p g x costs first =
    HasCosts (largest most p) (arcs p) (first_in g) (last_in g) g.end g.width x costs first

abbrev pub CostsBefore : ℕ → Strip → Region → ℕ → List ℕ → ℕ → Type 0
CostsBefore most p g x costs last =
    HasCostsBefore (largest most p) (arcs p) (first_in g) (last_in g) g.end g.width x costs last

-- the costs from column 0, of the rows from the region's first one on that begin there
abbrev pub StartsOf : Strip → Region → List ℕ → Type 0
StartsOf p g starts = HasStarts (arcs p) (first_in g) (last_in g) g.end g.width g.start starts

-- the ways of a row from column `first` on, and those of all rows
abbrev pub WaysFrom : Strip → Region → ℕ → List Bool → ℕ → Type 0
WaysFrom p g x ways first = HasWays (arcs p) (first_in g) (last_in g) g.end g.width x ways first

abbrev pub AllWays : Strip → Region → List Bool → Type 0
AllWays p g ways = HasAllWays (arcs p) (first_in g) (last_in g) g.end g.width ways g.start

-- costs from the place of the region's first row in column `left` on: to the places of a row up to column `last`, and
-- to those after column `first`
abbrev pub ReachedTo : ℕ → Strip → Region → ℕ → ℕ → List ℕ → ℕ → Type 0
ReachedTo most p g left x costs last =
    HasReached (largest most p) (arcs p) (first_in g) (last_in g) g.start left x costs last

abbrev pub ReachedAfter : ℕ → Strip → Region → ℕ → ℕ → List ℕ → ℕ → Type 0
ReachedAfter most p g left x costs first =
    HasReachedAfter (largest most p) (arcs p) (first_in g) (last_in g) g.start left x costs first

-- the costs from there to the last column, in the rows that end there
abbrev pub EndsOf : Strip → Region → ℕ → List ℕ → Type 0
EndsOf p g left ends = HasEnds (arcs p) (first_in g) (last_in g) g.start left g.width g.end ends
