use Rattle.std.proofs.Common.{arith, ◌≡◌, ◌<◌, List, ℕ, length, ap, sym, subst, ◌∙◌, All}
use Rattle.std.specs.List.{flat_map}
use Rattle.std.proofs.lemmas.List.Concat.{length-flat_map}
use Rattle.triangle_meshes.specs.Meshes.{surface_of, triangle_lists}
use Rattle.triangle_meshes.proofs.Parts.{Part, all_in_parts}
use Rattle.mesh_measures.proofs.SameEdges.{edges_in_parts}
use Rattle.mesh_measures.proofs.mesh_counts.counts.Goals as goal
use Rattle.mesh_measures.proofs.mesh_counts.counts.Goals.{After-deref-2}

-- the triangles of the mesh's parts
triangles_are : (c : After-deref-2)
    → c.deref-2.result.now ≡ flat_map (λ part. part) (surface_of c.args.mesh.now).parts
triangles_are c = c.deref-2.ensures.value ∙ c.in_ok-triangles.ensures
    ∙ ap (λ (ps : List Part). flat_map (λ (p : List (List ℕ)). p) (triangle_lists ps)) c.deref.ensures.value

pub count_sides-requires : goal.count_sides-requires
count_sides-requires c = omega (
  arith,
  ap length (triangles_are (goal.at.count_sides-requires c).After-deref-2),
  length-flat_map (λ (part : List (List ℕ)). part) (surface_of c.args.mesh.now).parts,
  c.requires.few_triangles,
)

pub returns-clause-edges : goal.returns-clause-edges
returns-clause-edges c =
    let s = surface_of c.args.mesh.now in
    let are = triangles_are (goal.at.returns-clause-edges c).After-deref-2 in
    let known = subst (All (All (λ id. id < length s.vertices))) (sym are)
    (all_in_parts (All (λ id. id < length s.vertices)) s.parts c.requires.known_ids) in
    c.in_ok-sides.ensures.edges s.vertices (omega (arith, c.requires.few_vertices)) known
    ∙ edges_in_parts s.vertices s.parts c.deref-2.result.now are
