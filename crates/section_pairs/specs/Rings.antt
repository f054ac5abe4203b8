-- The rings of sections, and the composites of a component's rings.
use Rattle.std.specs.Prelude.{◌≡◌, ℕ, ◌<◌, ◌≤◌, List, take, length, map, sum_by, All, slice_index_or, Vec}
use Rattle.std.specs.Global.{Global}
use Rattle.std.specs.List.{AllByRecursion}
use Rattle.fku_types.specs.declared.limits.TheConstants.{MAX_SECTION_VERTICES}
use Rattle.plane_geom.specs.Rings.{RingView}
use Rattle.plane_geom.specs.RingViews.{ring_views, IsContour}
use Rattle.plane_geom.specs.declared.ring.Ring.{Ring}
use Rattle.section_core.specs.Parts.{Parts, SectionParts}
use Rattle.correspondence.specs.Nesting.{oriented}
use Rattle.correspondence.specs.Outlines.{layer, layer_at}
use Rattle.correspondence.specs.Components.{IsRising}
use Rattle.ring_polygons.specs.Composites.{view_at, composite}

-- how many vertices a section has
abbrev pub vertices_in : SectionParts → ℕ
vertices_in s = sum_by length (layer s).outlines

-- the vertex number with which a section begins: vertices are numbered in file order
abbrev pub first_vertex : Parts → ℕ → ℕ
first_vertex S s = sum_by vertices_in (take s S.sections)

-- the rings of a section's contours, in file order, each turned by rule
abbrev pub rings_at : Parts → ℕ → List RingView
rings_at S s = oriented (first_vertex S s) (layer_at S s).outlines

-- the rings at some places, and their composite
abbrev pub pick : List RingView → List ℕ → List RingView
pick rings places = map (view_at rings) places

abbrev pub composite_at : List RingView → List ℕ → RingView
composite_at rings places = composite (pick rings places)

-- the rings of a section keep the limits: contours of at most MAX_SECTION_VERTICES vertices in all
pub record AreSectionRings (rings : List Ring) : Type 0 where
  pub each : All IsContour rings
  pub few : sum_by (λ r. length r.points.items) rings ≤ MAX_SECTION_VERTICES

-- places among n, in rising order, and at least one
pub record ArePicked (n : ℕ) (places : List ℕ) : Type 0 where
  pub rising : IsRising places
  pub there : AllByRecursion (λ k. k < n) places
  pub some : 0 < length places

-- lists of the rings of all sections
pub record AreRingsOf (S : Parts) (rings : List (Vec Ring Global)) : Type 0 where
  pub count : length rings ≡ length S.sections
  pub views : (s : ℕ) (d : Vec Ring Global) → s < length rings
      → ring_views (slice_index_or rings s d).items ≡ rings_at S s
  pub limits : All (λ v. AreSectionRings v.items) rings
