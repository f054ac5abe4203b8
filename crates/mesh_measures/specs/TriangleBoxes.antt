-- Triangles with their boxes, in the order of the sweep, and how their crossings are counted.
use Rattle.std.specs.Prelude.{◌≡◌, ℕ, ◌+◌, ◌<◌, ◌≤◌, ◌==◌, ◌&&◌, Bool, List, [], ◌∷◌, length, ℤ, ◌≤ℤ◌, int_lt, count_by, if◌then◌else◌, slice_index_or, map}
use Rattle.fku_types.specs.declared.points.Point.{Point}
use Rattle.fku_types.specs.Points.{IsInRange}
use Rattle.mesh_measures.specs.declared.crossing.Corners.{Corners}
use Rattle.mesh_measures.specs.declared.triangle_boxes.Boxed.{Boxed}
use Rattle.mesh_measures.specs.Crossings.{cross, AreInRange}

-- no coordinate of the first point is greater than that of the second
pub record IsUnder (p q : Point) : Type 0 where
  pub x : p.x ≤ℤ q.x
  pub y : p.y ≤ℤ q.y
  pub z : p.z ≤ℤ q.z

-- a point lies in the box between two points
pub record IsInBox (least greatest p : Point) : Type 0 where
  pub over : IsUnder least p
  pub under : IsUnder p greatest

-- the corners are in range and lie in the box, whose ends are in range
pub record IsBoxed (x : Boxed) : Type 0 where
  pub in_range : AreInRange x.corners
  pub least : IsInRange x.least
  pub greatest : IsInRange x.greatest
  pub a : IsInBox x.least x.greatest x.corners.a
  pub b : IsInBox x.least x.greatest x.corners.b
  pub c : IsInBox x.least x.greatest x.corners.c

-- two open ranges overlap, if neither is empty
abbrev pub overlap : ℤ → ℤ → ℤ → ℤ → Bool
overlap least greatest other_least other_greatest = int_lt least other_greatest && int_lt other_least greatest

-- two boxes have more than a side in common
abbrev pub boxes_meet : Boxed → Boxed → Bool
boxes_meet s t =
    overlap s.least.y s.greatest.y t.least.y t.greatest.y && overlap s.least.z s.greatest.z t.least.z t.greatest.z
    && overlap s.least.x s.greatest.x t.least.x t.greatest.x

-- two triangles cross
abbrev pub crosses : Boxed → Boxed → Bool
crosses e f = cross e.corners f.corners

-- the second begins no lower than the first and, if both begin at one height, at no smaller x
pub record ComesAfter (e f : Boxed) : Type 0 where
  pub height : e.least.z ≤ℤ f.least.z
  pub level : e.least.z ≡ f.least.z → e.least.x ≤ℤ f.least.x

-- each one comes after those before it in this order
abbrev pub IsSwept : List Boxed → Type 0
IsSwept xs = (i j : ℕ) (d : Boxed) → i ≤ j → j < length xs → ComesAfter (slice_index_or xs i d) (slice_index_or xs j d)

-- where a triangle's box begins, in x and in z
abbrev pub x_of : Boxed → ℤ
x_of b = b.least.x

abbrev pub z_of : Boxed → ℤ
z_of b = b.least.z

-- each one has at least as much of it as those before it
abbrev pub RisesBy : (Boxed → ℤ) → List Boxed → Type 0
RisesBy f xs = (i j : ℕ) (d : Boxed) → i ≤ j → j < length xs → f (slice_index_or xs i d) ≤ℤ f (slice_index_or xs j d)

-- those from a place on have at least m of it
abbrev pub LiesPast : (Boxed → ℤ) → ℤ → List Boxed → ℕ → Type 0
LiesPast f m xs n = (k : ℕ) (d : Boxed) → n ≤ k → k < length xs → m ≤ℤ f (slice_index_or xs k d)

-- the second has this place and is crossed by the first
abbrev pub crosses_at : Boxed → ℕ → Boxed → Bool
crosses_at e i f = (f.place == i) && crosses e f

-- what the crossings of the first with later ones add to the count of a place
abbrev pub share : Boxed → List Boxed → ℕ → ℕ
share e behind i = (if e.place == i then count_by (crosses e) behind else 0) + count_by (crosses_at e i) behind

-- the count of a place: each pair of a list adds what it has to it
abbrev pub tally : List Boxed → ℕ → ℕ
tally [] i = 0
tally (e ∷ behind) i = share e behind i + tally behind i

-- the corners of each
abbrev pub boxed_corners : List Boxed → List Corners
boxed_corners xs = map (λ b. b.corners) xs

-- the place of each
abbrev pub places : List Boxed → List ℕ
places xs = map (λ b. b.place) xs
