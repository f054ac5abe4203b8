-- The caps of sections, one list for each, as the code holds them.
use Rattle.std.specs.Prelude.{◌≡◌, ℕ, ◌+◌, ◌*◌, ◌<◌, ◌≤◌, List, All, ◌++◌, length, slice_index_or, Vec}
use Rattle.std.specs.Global.{Global}
use Rattle.std.specs.List.{flat_map}
use Rattle.plane_geom.specs.Rings.{RingView, IsClosed}
use Rattle.row_paths.specs.Solutions.{Solution}
use Rattle.pair_pool.specs.Solvers.{SolvesEach}
use Rattle.section_core.specs.Parts.{Parts}
use Rattle.ring_polygons.specs.declared.faces.Face.TheVariants.{Below, Above}
use Rattle.ring_polygons.specs.declared.capping.CapList.{CapList}
use Rattle.section_pairs.specs.Pairs.{PairParts}
use Rattle.surface_core.specs.Surfaces.{caps_on, open_on, strips_in, points_in, Capping, capped_triangles, capped_folded}
use Rattle.surface_core.specs.Objects.{AreListsOf, object_vertices, object_contours}

-- the caps of a section with these rings: its bottom caps, then its top caps
abbrev pub both_caps : List RingView → List PairParts → ℕ → List (List ℕ)
both_caps rings ps s = caps_on Below (open_on Below rings ps s) ++ caps_on Above (open_on Above rings ps s)

-- a list has the caps of section s
pub record AreCapsOf (C : Capping) (S : Parts) (ps : List PairParts) (s : ℕ) (c : CapList) : Type 0 where
  pub triangles : c.triangles.items ≡ C.caps Below S ps s ++ C.caps Above S ps s
  pub folded : c.folded ≡ C.folded S ps s

-- with the tiles of these solutions the caps make a closed surface of the sections' vertices, no larger than one may be
pub record IsWholeSurface (C : Capping) (S : Parts) (ps : List PairParts) (xs : List Solution) : Type 0 where
  pub closed : IsClosed (capped_triangles C S ps xs)
  pub known : All (All (λ id. id < length (flat_map points_in S.sections))) (capped_triangles C S ps xs)
  pub some : 1 ≤ length (capped_triangles C S ps xs)
  pub few : length (capped_triangles C S ps xs) ≤ 2 * object_vertices S + 12 * object_contours S
  pub few_folded : capped_folded C S ps ≤ 2 * object_vertices S + 12 * object_contours S

-- the caps close what the pairs leave open, whatever their solutions are
abbrev pub DoClose : Capping → Parts → List PairParts → Type 0
DoClose C S ps = (xs : List Solution) → SolvesEach (strips_in ps) xs → IsWholeSurface C S ps xs

-- lists have the caps of all sections, and these close
pub record AreCaps (C : Capping) (S : Parts) (ps : List PairParts) (caps : List CapList) : Type 0 where
  pub count : length caps ≡ length S.sections
  pub each : (s : ℕ) (d : CapList) → s < length caps → AreCapsOf C S ps s (slice_index_or caps s d)
  pub close : DoClose C S ps

-- the same for objects and their pairs
abbrev pub AreCapLists : Capping → List Parts → List (List PairParts) → List (Vec CapList Global) → Type 0
AreCapLists C objects pss lists = AreListsOf (AreCaps C) objects pss lists
