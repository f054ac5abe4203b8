-- What is known of the corners of a ring.
use Rattle.std.specs.Prelude.{◌≡◌, ℕ, ◌-◌, ◌<◌, true, false, ◌==◌, if◌then◌else◌, nat_lt, List, length, slice_index_or, ℤ, pos, ◌*ℤ◌, int_lt}
use Rattle.fku_types.specs.declared.points.Point.{Point}
use Rattle.plane_geom.specs.Rings.{origin}
use Rattle.plane_geom.specs.Planes.{side_of}
use Rattle.ring_polygons.specs.declared.twins.Twins.{Twins}
use Rattle.ring_polygons.specs.declared.states.EarState.{EarState}
use Rattle.ring_polygons.specs.declared.states.EarState.TheVariants.{Open, NotConvex, Hindered}
use Rattle.ring_polygons.specs.Caps.{corner, hinders}

-- what a state says of the corner at place t is true
abbrev pub IsTrueOf : Twins → ℤ → List Point → ℕ → EarState → Type 0
IsTrueOf twins sign ring t (Open from) = Unit
IsTrueOf twins sign ring t NotConvex = int_lt (pos 0) (sign *ℤ side_of (corner origin ring t)) ≡ false
IsTrueOf twins sign ring t (Hindered k) = (k < length ring) × (hinders twins sign ring t k ≡ true)

-- the state of the corner at a place
abbrev pub state_at : List EarState → ℕ → EarState
state_at states t = slice_index_or states t (Open 0)

-- there is a state for each corner of a ring, and each is true of its corner
pub record AreTrue (twins : Twins) (sign : ℤ) (ring : List Point) (states : List EarState) : Type 0 where
  pub one_each : length states ≡ length ring
  pub each : (t : ℕ) → t < length ring → IsTrueOf twins sign ring t (state_at states t)

-- the place of what stood at place k, after what stood at place p is removed
abbrev pub moved_place : ℕ → ℕ → ℕ
moved_place p k = if nat_lt p k then k - 1 else k

-- what is known of a corner after the vertex at place p is removed, which is not one of the corner's own
abbrev pub moved_state : ℕ → EarState → EarState
moved_state p (Open from) = Open (moved_place p from)
moved_state p NotConvex = NotConvex
moved_state p (Hindered k) = if k == p then Open k else Hindered (moved_place p k)
