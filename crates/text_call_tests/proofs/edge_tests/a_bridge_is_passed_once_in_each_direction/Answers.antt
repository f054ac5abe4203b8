use Rattle.std.proofs.Common.{sym, subst, refl}
use Rattle.triangle_meshes.specs.Meshes.{IsValid}
use Rattle.triangle_meshes.proofs.Validity.{valid_from_test}
use Rattle.text_call_tests.proofs.edge_tests.a_bridge_is_passed_once_in_each_direction.Goals as goal

pub edges_are_counted-requires-clause-valid : goal.edges_are_counted-requires-clause-valid
edges_are_counted-requires-clause-valid g c = subst IsValid (sym c.in_ok-surface.ensures) (valid_from_test _ refl)
