-- How deep contours lie in one another, and the rings of a section.
use Rattle.std.specs.Prelude.{◌≡◌, ℕ, ◌+◌, ◌<◌, ◌≤◌, ◌%◌, ◌==◌, ◌&&◌, not, Bool, List, [], ◌∷◌, length, map, reverse, take, count_by, sum_by, slice_index_or, pos, int_lt, if◌then◌else◌}
use Rattle.std.specs.List.{range_with_len}
use Rattle.fku_types.specs.declared.points.Point.{Point}
use Rattle.plane_geom.specs.Rings.{RingView}
use Rattle.plane_geom.specs.Planes.{turns}
use Rattle.plane_geom.specs.Nesting.{is_inside, Inside, CountedAmong}
use Rattle.correspondence.specs.Contours.{contour_at, first_point}

-- vertex 0 of the contour at place i is inside another contour, at place j
abbrev pub lies_in : List (List Point) → ℕ → ℕ → Bool
lies_in contours i j = not (j == i) && is_inside (first_point (contour_at contours i)) (contour_at contours j)

-- how many other contours the contour at a place lies in
unfoldable pub depth : List (List Point) → ℕ → ℕ
depth contours k = count_by (lies_in contours k) (range_with_len 0 (length contours))

-- the depth of each contour
abbrev pub depths : List (List Point) → List ℕ
depths contours = map (depth contours) (range_with_len 0 (length contours))

-- vertex 0 of the contour at place i is inside another contour, at place j, by the edges that are crossed
abbrev pub LiesIn : List (List Point) → ℕ → ℕ → Type 0
LiesIn contours i j = (j ≡ i → ⊥) × Inside (first_point (contour_at contours i)) (contour_at contours j)

-- of the first contours of a section, as many as `end`, the number of those that the contour at a place lies in
pub record IsDepthAmong (contours : List (List Point)) (place end count : ℕ) : Type 0 where
  pub counted : count ≡ count_by (lies_in contours place) (take end (range_with_len 0 (length contours)))
  pub among : CountedAmong (LiesIn contours place) end count
  pub few : count ≤ end

-- there is a depth for each contour: among the places of all contours, the number of those that it lies in
pub record AreDepths (contours : List (List Point)) (depths : List ℕ) : Type 0 where
  pub one_each : length depths ≡ length contours
  pub counted : (k : ℕ) → k < length contours
      → CountedAmong (LiesIn contours k) (length contours) (slice_index_or depths k 0)

-- a contour of even depth is turned when its turns are negative, one of odd depth when they are positive
abbrev pub is_turned : ℕ → List Point → Bool
is_turned d ring = if (d % 2) == 0 then int_lt (turns ring) (pos 0) else int_lt (pos 0) (turns ring)

-- the items in reverse order, from the same first item
abbrev pub turned : {X : Type 0} → List X → List X
turned [] = []
turned (x ∷ xs) = x ∷ reverse xs

-- the ring of a contour of a depth, with ids from a first one on in file order; the ids are turned with the points
unfoldable pub ring_from : ℕ → ℕ → List Point → RingView
ring_from d first points =
    if is_turned d points
    then record { points = turned points; ids = turned (range_with_len first (length points)) }
    else record { points = points; ids = range_with_len first (length points) }

-- the id of vertex 0 of the contour at a place
abbrev pub first_id : ℕ → List (List Point) → ℕ → ℕ
first_id first contours k = first + sum_by length (take k contours)

-- the ring of the contour at a place
abbrev pub ring_at : ℕ → List (List Point) → ℕ → RingView
ring_at first contours k = ring_from (depth contours k) (first_id first contours k) (contour_at contours k)

-- the rings of a section's contours, with ids from a first one on
unfoldable pub oriented : ℕ → List (List Point) → List RingView
oriented first contours = map (ring_at first contours) (range_with_len 0 (length contours))
