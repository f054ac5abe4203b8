use Rattle.std.proofs.Common.{refl, sym, subst}
use Rattle.triangle_meshes.specs.Meshes.{IsValid}
use Rattle.triangle_meshes.proofs.Validity.{valid_from_test}
use Rattle.text_call_tests.proofs.mesh_text_tests.an_odd_vertex_stands_alone.Goals as goal

pub write_byu-requires : goal.write_byu-requires
write_byu-requires g c = subst IsValid (sym c.in_ok-caps.ensures) (valid_from_test _ refl)
