use Rattle.std.proofs.Common.{refl, sym, subst}
use Rattle.triangle_meshes.specs.Meshes.{IsValid}
use Rattle.triangle_meshes.proofs.Validity.{valid_from_test}
use Rattle.text_call_tests.proofs.volume_tests.the_parts_are_counted_together.Goals as goal

pub volumes-requires-clause-valid : goal.volumes-requires-clause-valid
volumes-requires-clause-valid g c = subst IsValid (sym c.in_ok-both.ensures) (valid_from_test _ refl)

pub volumes-requires-2-clause-valid : goal.volumes-requires-2-clause-valid
volumes-requires-2-clause-valid g c = subst IsValid (sym c.in_ok-open.ensures) (valid_from_test _ refl)
