use Rattle.surface_core.proofs.SurfaceLaws.{one_surface}
use Rattle.surface_core.proofs.laws.surfaces_are_one.Goals as goal

pub returns : goal.returns
returns c = one_surface
