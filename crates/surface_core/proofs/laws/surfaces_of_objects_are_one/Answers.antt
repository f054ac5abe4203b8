use Rattle.surface_core.proofs.ObjectLaws.{one_surface_in}
use Rattle.surface_core.proofs.laws.surfaces_of_objects_are_one.Goals as goal

pub returns : goal.returns
returns c = one_surface_in
