-- Bounding ranges of points.
use Rattle.std.specs.Prelude.{◌⊎◌, ◌≤ℤ◌, ◌<ℤ◌, List, All}
use Rattle.fku_types.specs.declared.points.Point.{Point}
use Rattle.correspondence.specs.declared.bounds.Bounds.{Bounds}

-- the point lies within the ranges
pub record LiesWithin (b : Bounds) (p : Point) : Type 0 where
  pub left : b.min_x ≤ℤ p.x
  pub right : p.x ≤ℤ b.max_x
  pub bottom : b.min_y ≤ℤ p.y
  pub top : p.y ≤ℤ b.max_y

-- all the points lie within them
abbrev pub Encloses : Bounds → List Point → Type 0
Encloses b points = All (LiesWithin b) points

-- two points lie beyond one side of the ranges
pub data LieBeyond (b : Bounds) (p q : Point) : Type 0 where
  left : p.x <ℤ b.min_x → q.x <ℤ b.min_x → LieBeyond b p q
  right : b.max_x <ℤ p.x → b.max_x <ℤ q.x → LieBeyond b p q
  below : p.y <ℤ b.min_y → q.y <ℤ b.min_y → LieBeyond b p q
  above : b.max_y <ℤ p.y → b.max_y <ℤ q.y → LieBeyond b p q

-- the range in y lies above the point, or nothing of it does
abbrev pub LieBeside : Bounds → Point → Type 0
LieBeside b p = (p.y <ℤ b.min_y) ⊎ (b.max_y ≤ℤ p.y)

-- the ranges have a common place, in x and in y
pub record BoundsMeet (b c : Bounds) : Type 0 where
  pub left : b.min_x ≤ℤ c.max_x
  pub right : c.min_x ≤ℤ b.max_x
  pub bottom : b.min_y ≤ℤ c.max_y
  pub top : c.min_y ≤ℤ b.max_y

-- all y of one lie below those of the other
abbrev pub LevelsPart : Bounds → Bounds → Type 0
LevelsPart b c = (b.max_y <ℤ c.min_y) ⊎ (c.max_y <ℤ b.min_y)
