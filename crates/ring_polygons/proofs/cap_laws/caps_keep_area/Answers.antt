use Rattle.ring_polygons.proofs.AreaLaws.{cap_sides, cap_area}
use Rattle.ring_polygons.proofs.cap_laws.caps_keep_area.Goals as goal

pub returns-clause-points : goal.returns-clause-points
returns-clause-points c = cap_sides

pub returns-clause-numbers : goal.returns-clause-numbers
returns-clause-numbers c = cap_area
