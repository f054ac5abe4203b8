-- The surface of a single object is that of the text.
use Rattle.std.proofs.Common.{◌≡◌, ℕ, List, [], ◌∷◌, ◌++◌, length, sym, ap, ◌∙◌, arith, Option, Some}
use Rattle.std.specs.Option.{option_to_list}
use Rattle.std.proofs.lemmas.Int.{ints}
use Rattle.std.proofs.lemmas.List.{length-append}
use Rattle.triangle_meshes.specs.Meshes.{surface_of}
use Rattle.surface_core.specs.declared.surfaces.Built.{Built}
use Rattle.surface_core.specs.Objects.{IsJoined}
use Rattle.triangle_meshes.proofs.JoinedMeshes.{one_joined}

pub one_built : (b : Built) → IsJoined (b ∷ []) b
one_built b = record {
  mesh = sym (one_joined (surface_of b.mesh));
  pairs = omega arith;
  cost = omega (arith, ints);
  folded = omega arith;
}

-- the last item of a list of one is all of it
pub only_item : {X : Type 0} (xs rest : List X) (o : Option X) (x : X) → xs ≡ rest ++ option_to_list o → o ≡ Some x
    → length xs ≡ 1 → xs ≡ x ∷ []
only_item xs [] o x e is n = e ∙ ap option_to_list is
only_item xs (y ∷ rest) o x e is n =
    absurd (omega (
      arith,
      n,
      ap length e,
      length-append rest (option_to_list o),
      ap (λ z. length (option_to_list z)) is,
    ))
