-- Bounds of which one lies below the other.
use Rattle.std.proofs.Common.{inl, inr, arith}
use Rattle.std.proofs.lemmas.Int.{ints}
use Rattle.fku_types.specs.declared.points.Point.{Point}
use Rattle.correspondence.specs.declared.bounds.Bounds.{Bounds}
use Rattle.correspondence.specs.Bounding.{LiesWithin, BoundsMeet, LevelsPart, LieBeside}

pub not_met : (b c : Bounds) → LevelsPart b c → BoundsMeet b c → ⊥
not_met b c (inl h) m = absurd (omega (arith, ints, h, m.top))
not_met b c (inr h) m = absurd (omega (arith, ints, h, m.bottom))

pub parted : (b c : Bounds) → LevelsPart b c → LevelsPart c b
parted b c (inl h) = inr h
parted b c (inr h) = inl h

pub part_beside : (b c : Bounds) (p : Point) → LevelsPart b c → LiesWithin b p → LieBeside c p
part_beside b c p (inl h) w = inl (omega (arith, ints, h, w.top))
part_beside b c p (inr h) w = inr (omega (arith, ints, h, w.bottom))
