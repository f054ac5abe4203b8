-- The mesh of a surface, and its counts.
use Rattle.std.specs.Prelude.{◌≡◌, ℕ, ◌+◌, ◌<◌, ◌==◌, ◌≤ℤ◌, pos, not, slice_index_or, List, [], ◌∷◌, ◌++◌, length, map, filter, sum_by, if◌then◌else◌}
use Rattle.std.specs.List.{flat_map, range_with_len}
use Rattle.fku_types.specs.declared.points.Point.{Point}
use Rattle.plane_geom.specs.Rings.{RingView}
use Rattle.plane_geom.specs.Planes.{signed_sum}
use Rattle.strip_graph.specs.declared.tilings.Step.{Step}
use Rattle.strip_graph.specs.Words.{word_cost}
use Rattle.strip_graph.specs.Tilings.{IsAcceptable}
use Rattle.strip_graph.specs.Strips.{Strip, rows, cols, arcs}
use Rattle.row_paths.specs.Solutions.{Solution}
use Rattle.pair_pool.specs.Solvers.{SolvesEach}
use Rattle.section_core.specs.Parts.{Parts, SectionParts}
use Rattle.correspondence.specs.Outlines.{layer}
use Rattle.correspondence.specs.Places.{has}
use Rattle.ring_polygons.specs.declared.faces.Face.{Face}
use Rattle.ring_polygons.specs.declared.faces.Face.TheVariants.{Below, Above}
use Rattle.ring_polygons.specs.Caps.{top_cap, faced, folded}
use Rattle.triangle_meshes.specs.Tiles.{tiles}
use Rattle.triangle_meshes.specs.Meshes.{Surface, surface_of}
use Rattle.surface_core.specs.declared.surfaces.Built.{Built}
use Rattle.section_pairs.specs.Rings.{rings_at, pick}
use Rattle.section_pairs.specs.Pairs.{PairParts}
use Rattle.section_pairs.specs.SectionFaults.{ArePairs}

-- the places of a section's contours that a pair joins on a face: those above its gap below them, those below it above
-- them
abbrev pub joins : Face → ℕ → PairParts → List ℕ
joins Below s p = if (p.gap + 1) == s then p.above else []
joins Above s p = if p.gap == s then p.below else []

-- the places of a section's contours that are in pairs of the gap on a face
abbrev pub joined_on : Face → List PairParts → ℕ → List ℕ
joined_on face ps s = flat_map (joins face s) ps

-- rings in file order, except those at some places
abbrev pub others : List RingView → List ℕ → List RingView
others rings places = pick rings (filter (λ k. not (has k places)) (range_with_len 0 (length rings)))

-- the rings of a section that are in no pair of the gap on a face
abbrev pub open_on : Face → List RingView → List PairParts → ℕ → List RingView
open_on face rings ps s = others rings (joined_on face ps s)

-- the caps of rings as tops, and on a face
abbrev pub tops : List RingView → List (List ℕ)
tops rings = flat_map (λ (r : RingView). top_cap r.points r.ids) rings

abbrev pub caps_on : Face → List RingView → List (List ℕ)
caps_on face rings = faced face (tops rings)

-- the tiles of the pairs of the gap above a section, in pair order, each in the order of its word
abbrev pub strip_triangles : ℕ → List PairParts → List Solution → List (List ℕ)
strip_triangles s [] xs = []
strip_triangles s (p ∷ ps) [] = []
strip_triangles s (p ∷ ps) (x ∷ xs) =
    (if p.gap == s then tiles p.strip.low_ids p.strip.high_ids x.row 0 x.word else []) ++ strip_triangles s ps xs

-- how many triangles of the caps of rings are folded
abbrev pub folded_in : List RingView → ℕ
folded_in rings = sum_by (λ (r : RingView). folded r.points) rings

-- how many triangles of the caps of a section are folded
abbrev pub folded_of : List RingView → List PairParts → ℕ → ℕ
folded_of rings ps s = folded_in (open_on Below rings ps s) + folded_in (open_on Above rings ps s)

-- a way to cap what no pair joins: the triangles of a section's caps on a face, and how many triangles of the section's
-- caps are folded
pub record Capping : Type 0 where
  pub caps : Face → Parts → List PairParts → ℕ → List (List ℕ)
  pub folded : Parts → List PairParts → ℕ → ℕ

-- one cap for each contour
abbrev pub by_contour : Capping
by_contour = record {
  caps = λ face S ps s. caps_on face (open_on face (rings_at S s) ps s);
  folded = λ S ps s. folded_of (rings_at S s) ps s;
}

-- the bottom caps of a section, its top caps, and the strips of the gap above it
abbrev pub capped_section : Capping → Parts → List PairParts → List Solution → ℕ → List (List ℕ)
capped_section C S ps xs s = C.caps Below S ps s ++ (C.caps Above S ps s ++ strip_triangles s ps xs)

-- section by section
abbrev pub capped_triangles : Capping → Parts → List PairParts → List Solution → List (List ℕ)
capped_triangles C S ps xs = flat_map (capped_section C S ps xs) (range_with_len 0 (length S.sections))

-- how many triangles of the caps of all sections are folded
abbrev pub capped_folded : Capping → Parts → List PairParts → ℕ
capped_folded C S ps = sum_by (C.folded S ps) (range_with_len 0 (length S.sections))

-- the same with one cap for each contour
abbrev pub section_triangles : Parts → List PairParts → List Solution → ℕ → List (List ℕ)
section_triangles S ps xs s = capped_section by_contour S ps xs s

abbrev pub surface_triangles : Parts → List PairParts → List Solution → List (List ℕ)
surface_triangles S ps xs = capped_triangles by_contour S ps xs

abbrev pub section_folded : Parts → List PairParts → ℕ → ℕ
section_folded S ps s = folded_of (rings_at S s) ps s

abbrev pub surface_folded : Parts → List PairParts → ℕ
surface_folded S ps = capped_folded by_contour S ps

-- the points of a section, contour by contour
abbrev pub points_in : SectionParts → List Point
points_in s = flat_map (λ (outline : List Point). outline) (layer s).outlines

-- all points in file order are the vertices, and the one part has the triangles of the sections
pub record IsSurfaceWith (C : Capping) (S : Parts) (ps : List PairParts) (xs : List Solution) (m : Surface) : Type 0
  where
    pub vertices : m.vertices ≡ flat_map points_in S.sections
    pub one_part : m.parts ≡ capped_triangles C S ps xs ∷ []

abbrev pub IsSurface : Parts → List PairParts → List Solution → Surface → Type 0
IsSurface S ps xs m = IsSurfaceWith by_contour S ps xs m

-- the strips of pairs
abbrev pub strips_in : List PairParts → List Strip
strips_in ps = map (λ (p : PairParts). p.strip) ps

-- no acceptable tiling of a strip costs less than its solution
abbrev pub AreLeast : List Strip → List Solution → Type 0
AreLeast strips solutions =
    (k : ℕ) (p : Strip) (x : Solution) (i j : ℕ) (w : List Step) → k < length strips
    → IsAcceptable (rows (slice_index_or strips k p)) (cols (slice_index_or strips k p)) i j w
    → (slice_index_or solutions k x).cost ≤ℤ pos (word_cost (arcs (slice_index_or strips k p)) i j w)

-- the surface of sections: their pairs, each joined by the chosen tiling of its strip, with its counts
pub record IsBuiltWith (C : Capping) (S : Parts) (b : Built) : Type 0 where
  pub pairs : List PairParts
  pub solutions : List Solution
  pub are_pairs : ArePairs S pairs
  pub chosen : SolvesEach (strips_in pairs) solutions
  pub least : AreLeast (strips_in pairs) solutions
  pub surface : IsSurfaceWith C S pairs solutions (surface_of b.mesh)
  pub pair_count : b.pairs ≡ length pairs
  pub cost : b.cost ≡ signed_sum (λ (x : Solution). x.cost) solutions
  pub folded : b.folded ≡ capped_folded C S pairs

abbrev pub IsBuilt : Parts → Built → Type 0
IsBuilt S b = IsBuiltWith by_contour S b
