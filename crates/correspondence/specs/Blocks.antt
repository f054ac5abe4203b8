-- Successive edges of a ring.
use Rattle.std.specs.Prelude.{ℕ, ◌<◌, ◌≤◌, List, length}
use Rattle.fku_types.specs.declared.points.Point.{Point}
use Rattle.plane_geom.specs.Rings.{around}
use Rattle.correspondence.specs.declared.blocks.Block.{Block}
use Rattle.correspondence.specs.Bounding.{LiesWithin}

-- edges of the ring, at least one, and bounds of the ends of each
pub record IsBlock (ring : List Point) (b : Block) : Type 0 where
  pub some : b.begin < b.end
  pub within : b.end ≤ length ring
  pub enclosed : (k : ℕ) → b.begin ≤ k → k ≤ b.end → LiesWithin b.bounds (around ring k)
