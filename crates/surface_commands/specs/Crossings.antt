-- `crossings`: which triangles of a part of a mesh cross another one of the part.
use Rattle.std.specs.Prelude.{ℕ, zero, suc, ◌+◌, List, [], ◌∷◌, ◌++◌, length, codes, decimal}
use Rattle.fku_types.specs.declared.points.Point.{Point}
use Rattle.triangle_meshes.specs.Meshes.{Surface}
use Rattle.mesh_measures.specs.Crossings.{part_corners, crossing_counts, crossing_pairs}
use Rattle.command_replies.specs.Reply.{Reply, Tells}
use Rattle.surface_commands.specs.MeshTexts.{on_mesh, parts_line}

-- the line of a polygon that crosses so many others; none if it crosses none
abbrev pub cross_line : ℕ → ℕ → List ℕ
cross_line polygon zero = []
cross_line polygon (suc n) =
    codes "CROSS " ++ (decimal polygon ++ (codes " " ++ (decimal (suc n) ++ codes "\n")))

-- the lines of polygons with the numbers of others that they cross; the first polygon has this number
abbrev pub cross_lines : ℕ → List ℕ → List ℕ
cross_lines polygon [] = []
cross_lines polygon (n ∷ more) = cross_line polygon n ++ cross_lines (polygon + 1) more

-- the lines of the part of this number, whose first polygon has this number: how many other polygons of the part each
-- one crosses, and how many pairs of polygons cross
abbrev pub crossed_text : ℕ → ℕ → List ℕ → ℕ → List ℕ
crossed_text number polygon counts pairs =
    codes "PART " ++ (decimal number ++ (codes "\n" ++ (cross_lines polygon counts
    ++ (codes "CROSSINGS " ++ (decimal pairs ++ codes "\n")))))

-- the lines of parts, of which the first and its first polygon have these numbers
abbrev pub crossing_parts_text : List Point → ℕ → ℕ → List (List (List ℕ)) → List ℕ
crossing_parts_text vertices number polygon [] = []
crossing_parts_text vertices number polygon (part ∷ more) =
    crossed_text number polygon (crossing_counts (part_corners vertices part))
    (crossing_pairs (part_corners vertices part))
    ++ crossing_parts_text vertices (number + 1) (polygon + length part) more

-- the number of parts, and the lines of each; parts and polygons are counted from 1 through the mesh
abbrev pub crossings_text : Surface → List ℕ
crossings_text m = parts_line (length m.parts) ++ crossing_parts_text m.vertices 1 1 m.parts

-- the reply for bytes: the crossings of the mesh whose text they are; no pair is counted
abbrev pub crossings : List ℕ → Reply → Type 0
crossings = on_mesh (λ m. Tells (crossings_text m) 0)
