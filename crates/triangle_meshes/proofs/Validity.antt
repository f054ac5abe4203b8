-- A test of valid meshes that computes, for written-out meshes.
use Rattle.std.proofs.Common.{◌≡◌, ℕ, ◌&&◌, Bool, true, nat_lt, nat_le, List, length}
use Rattle.std.specs.Prelude.{sum_by, unsigned_abs}
use Rattle.std.specs.List.{list_all}
use Rattle.std.proofs.lemmas.List.Sums.{AllPass-from_list_all}
use Rattle.std.proofs.lemmas.Bool.{and_parts, ltb-true, leb-true}
use Rattle.fku_types.specs.declared.limits.TheConstants.{MAX_MESH_PARTS, MAX_MESH_TRIANGLES, MAX_MESH_VERTICES}
use Rattle.fku_types.specs.declared.points.Point.{Point}
use Rattle.fku_types.specs.Points.{IsInRange}
use Rattle.triangle_meshes.specs.Meshes.{Surface, IsValid}

abbrev is_in_range : Point → Bool
is_in_range p = nat_le (unsigned_abs p.x) 999999 &&
    (nat_le (unsigned_abs p.y) 999999 && nat_le (unsigned_abs p.z) 999999)

abbrev are_few : Surface → Bool
are_few s = nat_le 1 (length s.vertices) &&
    (nat_le (length s.vertices) MAX_MESH_VERTICES &&
    (nat_le 1 (length s.parts) && (nat_le (length s.parts) MAX_MESH_PARTS && nat_le (sum_by length s.parts)
    MAX_MESH_TRIANGLES)))

abbrev are_known : ℕ → List (List (List ℕ)) → Bool
are_known n parts = list_all (λ part. nat_le 1 (length part) && list_all (list_all (λ id. nat_lt id n)) part) parts

abbrev pub is_valid : Surface → Bool
is_valid s = are_few s && (list_all is_in_range s.vertices && are_known (length s.vertices) s.parts)

in_range_from : (p : Point) → is_in_range p ≡ true → IsInRange p
in_range_from p h =
    let a = and_parts _ _ h in
    let b = and_parts _ _ a.1 in
    record { x = leb-true _ _ a.0; y = leb-true _ _ b.0; z = leb-true _ _ b.1 }

pub valid_from_test : (s : Surface) → is_valid s ≡ true → IsValid s
valid_from_test s h =
    let a = and_parts (are_few s) (list_all is_in_range s.vertices && are_known (length s.vertices) s.parts) h in
    let b = and_parts (list_all is_in_range s.vertices) (are_known (length s.vertices) s.parts) a.1 in
    let v1 = and_parts _ _ a.0 in
    let v2 = and_parts _ _ v1.1 in
    let p1 = and_parts _ _ v2.1 in
    let p2 = and_parts _ _ p1.1 in
    let each = AllPass-from_list_all (λ part.
    nat_le 1 (length part) && list_all (list_all (λ id. nat_lt id (length s.vertices))) part) s.parts b.1 in
    record {
      some_vertex = leb-true _ _ v1.0;
      few_vertices = leb-true _ _ v2.0;
      in_range = λ k d l. in_range_from _ (AllPass-from_list_all is_in_range s.vertices b.0 k d l);
      some_part = leb-true _ _ p1.0;
      few_parts = leb-true _ _ p2.0;
      some_triangle = λ k d l. leb-true _ _ (and_parts _ _ (each k d l)).0;
      known_ids = λ k d l. λ k' d' l'. λ k'' d'' l''.
          ltb-true _ _ (AllPass-from_list_all (λ id. nat_lt id (length s.vertices)) _
          (AllPass-from_list_all (list_all (λ id. nat_lt id (length s.vertices))) _ (and_parts _ _ (each k d l)).1 k' d'
          l') k'' d'' l'');
      few_triangles = leb-true _ _ p2.1;
    }
