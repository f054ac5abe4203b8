use Rattle.ring_polygons.proofs.CompositeLaws.{one_composite}
use Rattle.ring_polygons.proofs.composite_laws.composites_are_one.Goals as goal

pub returns : goal.returns
returns c = one_composite
