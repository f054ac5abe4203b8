-- Contours that share a point.
use Rattle.std.specs.Prelude.{◌≡◌, ℕ, suc, ◌<◌, List, [], length, slice_index_or}
use Rattle.fku_types.specs.declared.points.Point.{Point}
use Rattle.fku_types.specs.declared.fault.Fault.{Fault}
use Rattle.fku_types.specs.declared.fault.Fault.TheVariants.{Crossing}
use Rattle.plane_geom.specs.Rings.{around}
use Rattle.plane_geom.specs.Segments.{SharePoint}
use Rattle.correspondence.specs.Contours.{contour_at}
use Rattle.correspondence.specs.Pairs.{NonePair, FirstPair}

-- the segment ab shares a point with an edge of the ring
pub record SegmentTouches (a b : Point) (ring : List Point) : Type 0 where
  pub f : ℕ
  pub within : f < length ring
  pub meet : SharePoint a b (around ring f) (around ring (suc f))

-- an edge of the first ring shares a point with an edge of the second
pub record Touch (one other : List Point) : Type 0 where
  pub e : ℕ
  pub within : e < length one
  pub edge : SegmentTouches (around one e) (around one (suc e)) other

-- the contours at two places share a point
abbrev pub ContoursTouch : List (List Point) → ℕ → ℕ → Type 0
ContoursTouch contours i j = Touch (contour_at contours i) (contour_at contours j)

-- no two contours share a point
abbrev pub AreApart : List (List Point) → Type 0
AreApart contours = NonePair (ContoursTouch contours) (length contours)

-- the fault names the first two contours, by the first and then the second, that share a point
pub record AreCrossing (names : List (List ℕ)) (contours : List (List Point)) (one other : List ℕ) : Type 0 where
  pub i : ℕ
  pub j : ℕ
  pub pair : FirstPair (ContoursTouch contours) (length contours) i j
  pub first : one ≡ slice_index_or names i []
  pub second : other ≡ slice_index_or names j []

abbrev pub IsCrossing : List (List ℕ) → List (List Point) → Fault → Type 0
IsCrossing names contours (Crossing one other) = AreCrossing names contours one other
IsCrossing names contours _ = ⊥
