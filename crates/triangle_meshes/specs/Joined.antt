-- Meshes joined in order into one mesh.
use Rattle.std.specs.Prelude.{ℕ, ◌+◌, ◌<◌, List, [], ◌∷◌, ◌++◌, map, length}
use Rattle.std.specs.List.{flat_map, AllByRecursion}
use Rattle.fku_types.specs.declared.limits.TheConstants.{MAX_MESH_VERTICES}
use Rattle.triangle_meshes.specs.Meshes.{Surface}

-- a triangle, a part, and parts, each id raised by a number
abbrev pub raised_triangle : ℕ → List ℕ → List ℕ
raised_triangle by triangle = map (λ id. id + by) triangle

abbrev pub raised_part : ℕ → List (List ℕ) → List (List ℕ)
raised_part by part = map (raised_triangle by) part

abbrev pub raised : ℕ → List (List (List ℕ)) → List (List (List ℕ))
raised by parts = map (raised_part by) parts

-- the raised ids are ids of a valid mesh
abbrev pub IsBelow : ℕ → List ℕ → Type 0
IsBelow by triangle = AllByRecursion (λ id. id + by < MAX_MESH_VERTICES) triangle

-- the parts in order, the ids of each mesh raised by the number of vertices before it
abbrev pub joined_parts : ℕ → List Surface → List (List (List ℕ))
joined_parts before [] = []
joined_parts before (s ∷ more) = raised before s.parts ++ joined_parts (before + length s.vertices) more

-- the vertices and the parts of meshes in order
abbrev pub joined : List Surface → Surface
joined meshes = record { vertices = flat_map (λ s. s.vertices) meshes; parts = joined_parts 0 meshes }
