-- The surface with caps of groups, and its counts.
use Rattle.std.specs.Prelude.{◌≡◌, ℕ, ◌+◌, ◌<◌, List, [], ◌∷◌, ◌++◌, All, length, map, sum_by}
use Rattle.std.specs.List.{AllZip, flat_map, range_with_len}
use Rattle.fku_types.specs.declared.limits.TheConstants.{MAX_COMPOSITE_VERTICES}
use Rattle.fku_types.specs.declared.points.Point.{Point}
use Rattle.fku_types.specs.declared.fault.Fault.{Fault}
use Rattle.fku_types.specs.declared.fault.Fault.TheVariants.{CapLimit}
use Rattle.plane_geom.specs.Rings.{RingView}
use Rattle.row_paths.specs.Solutions.{Solution}
use Rattle.pair_pool.specs.Solvers.{SolvesEach}
use Rattle.section_core.specs.Parts.{Parts, FileParts}
use Rattle.correspondence.specs.Outlines.{layer_at}
use Rattle.ring_polygons.specs.declared.faces.Face.{Face}
use Rattle.ring_polygons.specs.declared.faces.Face.TheVariants.{Below, Above}
use Rattle.ring_polygons.specs.Caps.{faced}
use Rattle.triangle_meshes.specs.Meshes.{Surface}
use Rattle.triangle_meshes.specs.Joined.{joined}
use Rattle.surface_core.specs.declared.surfaces.Built.{Built}
use Rattle.section_pairs.specs.Rings.{rings_at, pick, composite_at}
use Rattle.section_pairs.specs.Pairs.{PairParts, IsShort}
use Rattle.section_pairs.specs.SectionFaults.{IsFound, IsFirstFault, OrNoMemory, ArePairs}
use Rattle.surface_core.specs.Objects.{objects_in, AreAllPairs, IsFoundIn, AreBuiltBy}
use Rattle.surface_core.specs.Surfaces.{joined_on, strips_in, Capping, capped_section, capped_triangles, capped_folded, IsSurface, IsSurfaceWith, IsBuiltWith}
use Rattle.ring_caps.specs.GroupCaps.{group_cap, group_folded}
use Rattle.ring_caps.specs.Groups.{side_groups}

-- the groups of a section that end on a face: those of its contours that are in no pair there
abbrev pub groups_on : Face → List (List Point) → List PairParts → ℕ → List (List ℕ)
groups_on face outlines ps s = side_groups outlines (joined_on face ps s)

-- the caps of groups of rings, as tops, and on a face
abbrev pub ring_tops : List RingView → List (List ℕ) → List (List ℕ)
ring_tops rings gs = flat_map (λ (g : List ℕ). group_cap (pick rings g)) gs

abbrev pub ring_caps_on : Face → List RingView → List (List ℕ) → List (List ℕ)
ring_caps_on face rings gs = faced face (ring_tops rings gs)

-- how many triangles of the caps of groups are folded
abbrev pub groups_folded : List RingView → List (List ℕ) → ℕ
groups_folded rings gs = sum_by (λ (g : List ℕ). group_folded (pick rings g)) gs

-- a section's bottom caps, then its top caps, and how many of their triangles are folded
abbrev pub both_group_caps : List (List Point) → List RingView → List PairParts → ℕ → List (List ℕ)
both_group_caps outlines rings ps s =
    ring_caps_on Below rings (groups_on Below outlines ps s) ++ ring_caps_on Above rings (groups_on Above outlines ps s)

abbrev pub both_folded : List (List Point) → List RingView → List PairParts → ℕ → ℕ
both_folded outlines rings ps s =
    groups_folded rings (groups_on Below outlines ps s) + groups_folded rings (groups_on Above outlines ps s)

-- one cap for each group
abbrev pub face_triangles : Face → Parts → List PairParts → ℕ → List (List ℕ)
face_triangles face S ps s = ring_caps_on face (rings_at S s) (groups_on face (layer_at S s).outlines ps s)

abbrev pub by_group : Capping
by_group = record {
  caps = λ face S ps s. face_triangles face S ps s;
  folded = λ S ps s. both_folded (layer_at S s).outlines (rings_at S s) ps s;
}

-- the triangles of a section with caps of groups, and of all sections
abbrev pub ring_section : Parts → List PairParts → List Solution → ℕ → List (List ℕ)
ring_section S ps xs s = capped_section by_group S ps xs s

abbrev pub ring_triangles : Parts → List PairParts → List Solution → List (List ℕ)
ring_triangles S ps xs = capped_triangles by_group S ps xs

abbrev pub IsRingSurface : Parts → List PairParts → List Solution → Surface → Type 0
IsRingSurface S ps xs m = IsSurfaceWith by_group S ps xs m

-- the surface of sections with one cap for each contour, each pair joined by the chosen tiling of its strip
pub record IsPlainSurface (S : Parts) (m : Surface) : Type 0 where
  pub pairs : List PairParts
  pub solutions : List Solution
  pub are_pairs : ArePairs S pairs
  pub chosen : SolvesEach (strips_in pairs) solutions
  pub surface : IsSurface S pairs solutions m

-- the surfaces of objects with one cap for each contour, as one
pub record ArePlainSurfaces (F : FileParts) (m : Surface) : Type 0 where
  pub each : List Surface
  pub plain : AllZip IsPlainSurface (objects_in F) each
  pub whole : m ≡ joined each

-- how many triangles of the caps of a section's groups, and of those of all sections, are folded
abbrev pub ring_section_folded : Parts → List PairParts → ℕ → ℕ
ring_section_folded S ps s = both_folded (layer_at S s).outlines (rings_at S s) ps s

abbrev pub ring_folded : Parts → List PairParts → ℕ
ring_folded S ps = capped_folded by_group S ps

-- a group: its section, counted from 1, and how many vertices its composite has
abbrev pub group_size : ℕ → List RingView → List ℕ → ℕ × ℕ
group_size s rings g = (s + 1, length (composite_at rings g).points)

abbrev pub side_sizes : ℕ → List RingView → List (List ℕ) → List (ℕ × ℕ)
side_sizes s rings gs = map (group_size s rings) gs

-- the groups of a section on a face, and on both faces, those below first
abbrev pub face_sizes : Face → ℕ → List (List Point) → List RingView → List PairParts → List (ℕ × ℕ)
face_sizes face s outlines rings ps = side_sizes s rings (groups_on face outlines ps s)

abbrev pub both_sizes : ℕ → List (List Point) → List RingView → List PairParts → List (ℕ × ℕ)
both_sizes s outlines rings ps = face_sizes Below s outlines rings ps ++ face_sizes Above s outlines rings ps

abbrev pub section_sizes : Parts → List PairParts → ℕ → List (ℕ × ℕ)
section_sizes S ps s = both_sizes s (layer_at S s).outlines (rings_at S s) ps

-- the groups of all sections
abbrev pub group_sizes : Parts → List PairParts → List (ℕ × ℕ)
group_sizes S ps = flat_map (section_sizes S ps) (range_with_len 0 (length S.sections))

-- the surface of sections with caps of groups, with its counts; all groups are short
pub record IsRingBuilt (S : Parts) (b : Built) : Type 0 where
  pub is_built : IsBuiltWith by_group S b
  pub short : All IsShort (group_sizes S is_built.pairs)

-- the fault has the section and the size of a group whose composite is too long
abbrev pub HasLongGroup : ℕ × ℕ → Fault → Type 0
HasLongGroup size (CapLimit section count) = (section ≡ size.0) × (count ≡ size.1) × (MAX_COMPOSITE_VERTICES < count)
HasLongGroup size _ = ⊥

-- the first fault of sections, or else of their groups: by section, bottom before top, in group order
pub data IsRingFound (S : Parts) : Fault → Type 0 where
  in_sections : (fault : Fault) → IsFound S fault → IsRingFound S fault
  in_groups : (fault : Fault) (ps : List PairParts) → ArePairs S ps
      → IsFirstFault IsShort HasLongGroup (group_sizes S ps) fault → IsRingFound S fault

-- what `ring_surface` refuses: it is `NoMemory`, or this is the first fault
abbrev pub IsRingFault : Parts → Fault → Type 0
IsRingFault S fault = OrNoMemory (IsRingFound S) fault

-- the same for objects, each separately
abbrev pub AreRingBuilt : FileParts → Built → Type 0
AreRingBuilt F b = AreBuiltBy IsRingBuilt F b

-- the groups of objects, object by object; sections are counted in their object
abbrev pub all_group_sizes : List Parts → List (List PairParts) → List (ℕ × ℕ)
all_group_sizes [] pss = []
all_group_sizes (S ∷ objects) [] = []
all_group_sizes (S ∷ objects) (ps ∷ pss) = group_sizes S ps ++ all_group_sizes objects pss

-- the first fault of an object, or else of their groups, object by object
pub data IsRingFoundIn (F : FileParts) : Fault → Type 0 where
  in_objects : (fault : Fault) → IsFoundIn F fault → IsRingFoundIn F fault
  in_groups : (fault : Fault) (pss : List (List PairParts)) → AreAllPairs F pss
      → IsFirstFault IsShort HasLongGroup (all_group_sizes (objects_in F) pss) fault → IsRingFoundIn F fault

-- what `ring_surface_all` refuses: it is `NoMemory`, or this is the first fault
abbrev pub IsAllRingFault : FileParts → Fault → Type 0
IsAllRingFault F fault = OrNoMemory (IsRingFoundIn F) fault
