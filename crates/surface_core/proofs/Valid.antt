-- A mesh of one part is valid.
use Rattle.std.proofs.Common.{◌≡◌, ℕ, ◌*◌, ◌<◌, ◌≤◌, List, [], ◌∷◌, length, get_or, flat_map, sum_by, refl, sym, ap, ◌∙◌, arith, subst, All}
use Rattle.std.specs.List.{AllByRecursion}
use Rattle.std.proofs.lemmas.List.{length-append}
use Rattle.std.proofs.lemmas.List.Elements.{recursion_from_All}
use Rattle.std.proofs.lemmas.List.Sums.{sum_by-cons, sum_by-append}
use Rattle.fku_types.specs.declared.limits.TheConstants.{MAX_MESH_TRIANGLES}
use Rattle.fku_types.specs.declared.points.Point.{Point}
use Rattle.fku_types.specs.Points.{IsInRange}
use Rattle.section_core.specs.Parts.{Parts}
use Rattle.section_core.specs.declared.parts.Contour.{Contour}
use Rattle.section_core.specs.declared.parts.Section.{Section}
use Rattle.section_core.specs.Flat.{section_data}
use Rattle.section_core.specs.ValidSections.{contours_in, vertices, section_of, AreValidSections}
use Rattle.correspondence.specs.Contours.{points_of}
use Rattle.triangle_meshes.specs.Meshes.{IsValid}
use Rattle.surface_core.specs.Surfaces.{points_in}
use Rattle.section_pairs.proofs.Firsts.{all_one}
use Rattle.surface_core.proofs.SectionFacts.{all_points, points_in_range}
use Rattle.std.proofs.Common.{map}

three_each : (cs : List Contour) → AllByRecursion (λ (c : Contour). 3 ≤ vertices c) cs
    → 3 * length cs ≤ sum_by vertices cs
three_each [] h = omega arith
three_each (c ∷ cs) h = omega (arith, three_each cs h.1, h.0, sum_by-cons vertices c cs)

three_all : (ss : List Section) → AllByRecursion
    (λ (s : Section). AllByRecursion (λ (c : Contour). 3 ≤ vertices c) s.contours.items) ss
    → 3 * length (contours_in ss) ≤ sum_by vertices (contours_in ss)
three_all [] h = omega arith
three_all (s ∷ ss) h = omega (
  arith,
  three_all ss h.1,
  three_each s.contours.items h.0,
  sum_by-append vertices s.contours.items (contours_in ss),
  length-append s.contours.items (contours_in ss),
)

held_count : (ss : List Section) → length (flat_map (λ (s : Section). flat_map points_of s.contours.items) ss)
    ≡ sum_by vertices (contours_in ss)
held_count [] = refl
held_count (s ∷ ss) =
    omega (
      arith,
      held_count ss,
      own s.contours.items,
      length-append (flat_map points_of s.contours.items)
          (flat_map (λ (x : Section). flat_map points_of x.contours.items) ss),
      sum_by-append vertices s.contours.items (contours_in ss),
    )
  where
    own : (cs : List Contour) → length (flat_map points_of cs) ≡ sum_by vertices cs
    own [] = refl
    own (c ∷ cs) = omega (arith, own cs, length-append (points_of c) (flat_map points_of cs), sum_by-cons vertices c cs)

some_point : (ss : List Section) → AreValidSections ss
    → 1 ≤ length (flat_map (λ (s : Section). flat_map points_of s.contours.items) ss)
some_point ss k =
    let each = three_all ss (recursion_from_All
    (λ (s : Section). AllByRecursion (λ (c : Contour). 3 ≤ vertices c) s.contours.items) ss (λ i d l.
    let cs : List Contour = (get_or ss i d).contours.items in
    recursion_from_All (λ (c : Contour). 3 ≤ vertices c) cs (λ j e m. ((k.each i d l).contours j e m).enough))) in
    omega (arith, each, held_count ss, k.some_contour)

-- the points of sections, and one part of triangles of them
pub valid_from : (S : Parts) (ss : List Section) (vs : List Point) (parts : List (List (List ℕ))) (ts : List (List ℕ))
    → AreValidSections ss → map section_data ss ≡ map section_of S.sections
    → vs ≡ flat_map (λ (s : Section). flat_map points_of s.contours.items) ss → parts ≡ ts ∷ [] → 1 ≤ length ts
    → length ts ≤ MAX_MESH_TRIANGLES
    → All (All (λ id. id < length (flat_map points_in S.sections))) ts
    → IsValid (record { vertices = vs; parts = parts })
valid_from S ss vs parts ts k e v p some few known =
    let same : vs ≡ flat_map points_in S.sections = v ∙ all_points S ss e in
    let ids : All (All (λ id. id < length vs)) ts =
    subst (λ (ps : List Point). All (All (λ id. id < length ps)) ts) (sym same) known in
    subst (λ (xs : List (List (List ℕ))). IsValid (record { vertices = vs; parts = xs })) (sym p) (record {
      some_vertex = omega (arith, ap length v, some_point ss k);
      few_vertices = omega (arith, ap length v, held_count ss, k.few_vertices);
      in_range = subst (All IsInRange) (sym v) (points_in_range ss k);
      some_part = omega arith;
      few_parts = omega arith;
      some_triangle = all_one (λ (part : List (List ℕ)). 1 ≤ length part) ts some;
      known_ids = all_one (All (All (λ id. id < length vs))) ts ids;
      few_triangles = omega (arith, sum_by-cons {X = List (List ℕ)} length ts [], few);
    })
