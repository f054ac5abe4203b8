use Rattle.std.proofs.Common.{◌≡◌, true, [], ◌∷◌, refl, sym, subst}
use Rattle.triangle_meshes.specs.Meshes.{Surface, IsValid}
use Rattle.triangle_meshes.specs.Joined.{joined}
use Rattle.triangle_meshes.proofs.Validity.{is_valid, valid_from_test}
use Rattle.text_call_tests.proofs.edge_tests.single_triangles_joined.Goals as goal

-- two meshes that are written out
both_valid : (s t a b : Surface) → s ≡ a → t ≡ b → is_valid (joined (a ∷ b ∷ [])) ≡ true → IsValid (joined (s ∷ t ∷ []))
both_valid s t a b e f h =
    subst (λ (x : Surface). IsValid (joined (x ∷ t ∷ []))) (sym e)
    (subst (λ (y : Surface). IsValid (joined (a ∷ y ∷ []))) (sym f) (valid_from_test (joined (a ∷ b ∷ [])) h))

pub join_meshes-requires-clause-whole : goal.join_meshes-requires-clause-whole
join_meshes-requires-clause-whole c = both_valid _ _ _ _ c.in_ok-first.ensures c.in_ok-second.ensures refl
