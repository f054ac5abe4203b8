-- What the code holds of a section: marks of the contours that are in pairs, the parent of each contour, groups, and
-- caps.
use Rattle.std.specs.Prelude.{◌≡◌, ℕ, ◌<◌, ◌≤◌, not, Bool, false, Option, None, List, length, map, sum_by, slice_index_or, IfSome, Vec}
use Rattle.std.specs.Global.{Global}
use Rattle.std.specs.List.{AllByRecursion}
use Rattle.fku_types.specs.declared.limits.TheConstants.{MAX_SECTION_VERTICES}
use Rattle.fku_types.specs.declared.points.Point.{Point}
use Rattle.plane_geom.specs.Rings.{RingView}
use Rattle.plane_geom.specs.declared.ring.Ring.{Ring}
use Rattle.section_core.specs.Parts.{Parts}
use Rattle.ring_polygons.specs.declared.faces.Face.{Face}
use Rattle.ring_polygons.specs.declared.capping.CapList.{CapList}
use Rattle.section_pairs.specs.Rings.{pick, AreRingsOf}
use Rattle.section_pairs.specs.Pairs.{PairParts}
use Rattle.surface_core.specs.Objects.{AreListsOf}
use Rattle.surface_core.specs.Caps.{AreCaps}
use Rattle.ring_caps.specs.RingSurfaces.{groups_on, ring_caps_on, groups_folded, by_group}

-- a contour without a mark has a cap
abbrev pub capped_by : List Bool → ℕ → Bool
capped_by joined k = not (slice_index_or joined k false)

-- the parent of a contour
abbrev pub parent_by : List (Option ℕ) → ℕ → Option ℕ
parent_by parents k = slice_index_or parents k None

-- each parent exists
abbrev pub AreThere : List (Option ℕ) → Type 0
AreThere parents = (k : ℕ) → k < length parents → IfSome (parent_by parents k) (λ j. j < length parents)

-- lists of places
abbrev pub lists : List (Vec ℕ Global) → List (List ℕ)
lists groups = map (λ v. v.items) groups

-- places of rings that may be joined: at least one, with at most MAX_SECTION_VERTICES vertices together
pub record IsGroup (rings : List RingView) (places : List ℕ) : Type 0 where
  pub some : 0 < length places
  pub there : AllByRecursion (λ k. k < length rings) places
  pub few : sum_by (λ r. length r.points) (pick rings places) ≤ MAX_SECTION_VERTICES

-- the caps of the groups of a section on a face: of its contours that are in no pair there
pub record AreFaceCaps (face : Face) (outlines : List (List Point)) (rings : List RingView) (ps : List PairParts)
    (s : ℕ) (l : CapList) : Type 0 where
  pub triangles : l.triangles.items ≡ ring_caps_on face rings (groups_on face outlines ps s)
  pub folded : l.folded ≡ groups_folded rings (groups_on face outlines ps s)

-- the caps of the groups of all sections, of the rings of these sections
pub record AreGroupCaps (S : Parts) (ps : List PairParts) (caps : List CapList) : Type 0 where
  pub rings : List (Vec Ring Global)
  pub are_rings : AreRingsOf S rings
  pub are_caps : AreCaps by_group S ps caps

-- the caps of objects, one list for each object
abbrev pub AreGroupCapLists : List Parts → List (List PairParts) → List (Vec CapList Global) → Type 0
AreGroupCapLists objects pss lists = AreListsOf AreGroupCaps objects pss lists
