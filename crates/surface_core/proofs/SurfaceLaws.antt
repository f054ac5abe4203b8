-- Sections have only one surface.
use Rattle.std.proofs.Common.{◌≡◌, List, ◌∷◌, [], ℕ, length, sym, ap, ap₂, ◌∙◌}
use Rattle.fku_types.specs.declared.points.Point.{Point}
use Rattle.plane_geom.specs.Planes.{signed_sum}
use Rattle.section_core.specs.Parts.{Parts}
use Rattle.row_paths.specs.Solutions.{Solution}
use Rattle.triangle_meshes.specs.Meshes.{Surface, surface_of}
use Rattle.pair_pool.proofs.SolutionLists.{same_solutions}
use Rattle.section_pairs.specs.Pairs.{PairParts}
use Rattle.surface_core.specs.Surfaces.{Capping, by_contour, IsBuilt, IsBuiltWith, IsSurfaceWith, strips_in, capped_triangles, capped_folded}
use Rattle.surface_core.specs.declared.surfaces.Built.{Built}
use Rattle.section_pairs.proofs.PairLaws.{one_pairs}

-- equal pairs with equal solutions have one surface
pub same_surface : (C : Capping) (S : Parts) (ps qs : List PairParts) (xs ys : List Solution) (m n : Surface) → ps ≡ qs
    → xs ≡ ys → IsSurfaceWith C S ps xs m → IsSurfaceWith C S qs ys n → m ≡ n
same_surface C S ps qs xs ys m n e f a b =
    let part : m.parts ≡ n.parts = a.one_part
    ∙ ap₂ (λ (rs : List PairParts) (zs : List Solution). capped_triangles C S rs zs ∷ []) e f ∙ sym b.one_part in
    ap₂ made (a.vertices ∙ sym b.vertices) part
  where
    made : List Point → List (List (List ℕ)) → Surface
    made vertices parts = record { vertices = vertices; parts = parts }

pub one_surface_with : (C : Capping) (S : Parts) (b c : Built) → IsBuiltWith C S b → IsBuiltWith C S c
    → (surface_of b.mesh ≡ surface_of c.mesh) × (b.pairs ≡ c.pairs) × (b.cost ≡ c.cost) × (b.folded ≡ c.folded)
one_surface_with C S b c h k =
    let ps : h.pairs ≡ k.pairs = one_pairs S h.pairs k.pairs h.are_pairs k.are_pairs in
    let xs : h.solutions ≡ k.solutions =
    same_solutions (strips_in h.pairs) (strips_in k.pairs) h.solutions k.solutions (ap strips_in ps) h.chosen
    k.chosen in (
      same_surface C S h.pairs k.pairs h.solutions k.solutions (surface_of b.mesh) (surface_of c.mesh) ps xs h.surface
          k.surface,
      h.pair_count ∙ ap length ps ∙ sym k.pair_count,
      h.cost ∙ ap (signed_sum (λ (x : Solution). x.cost)) xs ∙ sym k.cost,
      h.folded ∙ ap (capped_folded C S) ps ∙ sym k.folded,
    )

pub one_surface : (S : Parts) (b c : Built) → IsBuilt S b → IsBuilt S c → (surface_of b.mesh ≡ surface_of c.mesh)
    × (b.pairs ≡ c.pairs) × (b.cost ≡ c.cost) × (b.folded ≡ c.folded)
one_surface S b c h k = one_surface_with by_contour S b c h k
