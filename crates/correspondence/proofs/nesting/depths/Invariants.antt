use Rattle.std.proofs.Common.{◌≡◌, ℕ, ◌<◌, map, length}
use Rattle.std.specs.List.{range_with_len}
use Rattle.plane_geom.specs.Nesting.{CountedAmong}
use Rattle.correspondence.specs.Contours.{points_of}
use Rattle.correspondence.specs.Nesting.{depth, LiesIn}
use Rattle.correspondence.proofs.nesting.depths.Given as goal

abbrev pub invariant-loop-place : goal.invariant-loop-place
invariant-loop-place l = record {
  depths : l.depths.items ≡ map (depth (map points_of l.contours)) (range_with_len 0 l.place);
  counted : (k : ℕ) → k < l.place → CountedAmong (LiesIn (map points_of l.contours) k) (length l.contours)
      (depth (map points_of l.contours) k);
}
