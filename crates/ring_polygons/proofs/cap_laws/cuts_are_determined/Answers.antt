use Rattle.ring_polygons.proofs.OneCut.{one_cut}
use Rattle.ring_polygons.proofs.cap_laws.cuts_are_determined.Goals as goal

pub returns : goal.returns
returns c = one_cut
