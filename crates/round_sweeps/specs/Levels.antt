-- Pairs whose rings each lie at one height.
use Rattle.std.specs.Prelude.{◌≡◌, List}
use Rattle.fku_types.specs.declared.points.Point.{Point}
use Rattle.plane_geom.specs.Rings.{IsRing}
use Rattle.strip_graph.specs.Edges.{IsLevel}
use Rattle.strip_graph.specs.Strips.{Strip, IsStrip}

-- the points of both rings of such a pair
pub record AreLevelRings (p : Strip) (lower upper : List Point) : Type 0 where
  pub strip : IsStrip p
  pub low_level : IsLevel p.low
  pub high_level : IsLevel p.high
  pub low : lower ≡ p.low
  pub high : upper ≡ p.high
  pub low_ring : IsRing lower
  pub high_ring : IsRing upper
