-- The objects of a text: each is paired and tiled separately.
use Rattle.std.specs.Prelude.{◌≡◌, ℕ, ◌+◌, ◌*◌, ◌<◌, ◌≤◌, ◌≤ℤ◌, ⊤, pos, List, [], ◌∷◌, length, map, sum_by, All, Vec}
use Rattle.std.specs.Global.{Global}
use Rattle.std.specs.List.{AllZip, flat_map}
use Rattle.fku_types.specs.declared.limits.TheConstants.{MAX_STEPS}
use Rattle.fku_types.specs.declared.fault.Fault.{Fault}
use Rattle.plane_geom.specs.Planes.{signed_sum}
use Rattle.strip_graph.specs.Strips.{step_cost_limit}
use Rattle.section_core.specs.Parts.{Parts, ObjectParts, FileParts}
use Rattle.section_core.specs.declared.objects.Object.{Object}
use Rattle.triangle_meshes.specs.Meshes.{Surface, surface_of}
use Rattle.triangle_meshes.specs.Joined.{joined}
use Rattle.section_pairs.specs.declared.gap_pairs.GapPair.{GapPair}
use Rattle.surface_core.specs.declared.surfaces.Built.{Built}
use Rattle.section_pairs.specs.Rings.{vertices_in}
use Rattle.section_pairs.specs.Pairs.{PairParts, pair_parts}
use Rattle.section_pairs.specs.SectionFaults.{IsFirstFault, IsFound, IsLateMemory, OrNoMemory, ArePairs}
use Rattle.surface_core.specs.Surfaces.{IsBuilt}

-- an object by itself, under the rules of the text
abbrev pub alone : FileParts → ObjectParts → Parts
alone F o = record { cost = F.cost; rule = F.rule; sections = o.sections; links = o.links }

-- the objects of a text, in file order
abbrev pub objects_in : FileParts → List Parts
objects_in F = map (alone F) F.objects

-- the same, as the code holds them
abbrev pub sections_in : List Object → List Parts
sections_in items = map (λ (o : Object). o.sections) items

-- an object without a fault
abbrev pub HasPairs : Parts → Type 0
HasPairs S = (ps : List PairParts) × ArePairs S ps

-- the pairs of objects without a fault, object by object
abbrev pub AreAllPairs : FileParts → List (List PairParts) → Type 0
AreAllPairs F pss = AllZip ArePairs (objects_in F) pss

-- lists of pairs, as the code holds them
abbrev pub pair_lists : List (Vec GapPair Global) → List (List PairParts)
pair_lists lists = map (λ (v : Vec GapPair Global). map pair_parts v.items) lists

-- what holds of each object, of its pairs and of its list, if there is one list for each object
abbrev pub AreListsOf : {X : Type 0} → (Parts → List PairParts → List X → Type 0) → List Parts → List (List PairParts)
    → List (Vec X Global) → Type 0
AreListsOf R [] [] [] = ⊤
AreListsOf R (S ∷ objects) (ps ∷ pss) (xs ∷ lists) = R S ps xs.items × AreListsOf R objects pss lists
AreListsOf R _ _ _ = ⊥

-- each pair lies in a gap of its object
abbrev pub LieInGaps : Parts → List PairParts → Type 0
LieInGaps S ps = All (λ (p : PairParts). p.gap + 1 < length S.sections) ps

-- all pairs in their order, as they are numbered through the text
abbrev pub numbered : List (List PairParts) → List PairParts
numbered pss = flat_map (λ (ps : List PairParts). ps) pss

-- the fault of the first object that has one
abbrev pub IsFoundAmong : List Parts → Fault → Type 0
IsFoundAmong objects fault = IsFirstFault HasPairs IsFound objects fault

abbrev pub IsFoundIn : FileParts → Fault → Type 0
IsFoundIn F fault = IsFoundAmong (objects_in F) fault

-- what `pairs_all` refuses: it is `NoMemory`, or this is the first fault
abbrev pub IsAllPairsFault : FileParts → Fault → Type 0
IsAllPairsFault F fault = OrNoMemory (IsFoundIn F) fault

-- `NoMemory` comes only if the contours and sections of the first object have no fault
abbrev pub IsLateAmong : List Parts → Fault → Type 0
IsLateAmong objects fault = (S : Parts) (more : List Parts) → objects ≡ S ∷ more → IsLateMemory S fault

abbrev pub IsLateMemoryIn : FileParts → Fault → Type 0
IsLateMemoryIn F fault = IsLateAmong (objects_in F) fault

-- the meshes of surfaces
abbrev pub surfaces_of : List Built → List Surface
surfaces_of each = map (λ (b : Built). surface_of b.mesh) each

-- several surfaces as one: the meshes one after another, and the sums of the counts
pub record IsJoined (each : List Built) (b : Built) : Type 0 where
  pub mesh : surface_of b.mesh ≡ joined (surfaces_of each)
  pub pairs : b.pairs ≡ sum_by (λ (x : Built). x.pairs) each
  pub cost : b.cost ≡ signed_sum (λ (x : Built). x.cost) each
  pub folded : b.folded ≡ sum_by (λ (x : Built). x.folded) each

-- the surfaces of objects, each separately
pub record AreBuiltBy (Is : Parts → Built → Type 0) (F : FileParts) (b : Built) : Type 0 where
  pub each : List Built
  pub built : AllZip Is (objects_in F) each
  pub whole : IsJoined each b

-- the surfaces of objects
abbrev pub AreBuilt : FileParts → Built → Type 0
AreBuilt F b = AreBuiltBy IsBuilt F b

-- how many vertices and contours an object has
abbrev pub object_vertices : Parts → ℕ
object_vertices S = sum_by vertices_in S.sections

abbrev pub object_contours : Parts → ℕ
object_contours S = sum_by (λ s. length s.contours) S.sections

-- the largest cost of a pair
abbrev pub pair_cost_limit : ℕ
pair_cost_limit = MAX_STEPS * step_cost_limit

-- a surface of an object is at most this large: one part, with two triangles for a vertex and twelve for a contour, and
-- a pair for a contour
pub record IsBounded (S : Parts) (b : Built) : Type 0 where
  pub vertices : length b.mesh.vertices.items ≡ object_vertices S
  pub one_part : length b.mesh.parts.items ≡ 1
  pub triangles : sum_by length (surface_of b.mesh).parts ≤ 2 * object_vertices S + 12 * object_contours S
  pub folded : b.folded ≤ 2 * object_vertices S + 12 * object_contours S
  pub pairs : b.pairs ≤ object_contours S
  pub some_cost : pos 0 ≤ℤ b.cost
  pub few_cost : b.cost ≤ℤ pos (b.pairs * pair_cost_limit)
