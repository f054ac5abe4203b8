-- The written text of a mesh, as bytes.
use Rattle.std.specs.Prelude.{ℕ, ◌+◌, ◌-◌, ◌*◌, ℤ, pos, negsuc, List, [], ◌∷◌, ◌++◌, length, sum_by}
use Rattle.std.specs.List.{flat_map}
use Rattle.fku_types.specs.declared.points.Point.{Point}
use Rattle.triangle_meshes.specs.Meshes.{Surface}
use Rattle.byu_text.specs.Fields.{number_line, coordinates_line}

-- how many parts, vertices, polygons and connectivity entries, three of these for each polygon
abbrev pub counts_line : Surface → List ℕ
counts_line s = let polygons = sum_by length s.parts in
    number_line (pos (length s.parts) ∷ pos (length s.vertices) ∷ pos polygons ∷ pos (3 * polygons) ∷ [])

-- the first and the last polygon of each part, where the next polygon of the file has this number
abbrev pub part_ranges : ℕ → List (List (List ℕ)) → List ℕ
part_ranges next [] = []
part_ranges next (part ∷ parts) =
    number_line (pos next ∷ pos (next + length part - 1) ∷ []) ++ part_ranges (next + length part) parts

-- two vertices on each line; an odd last one has its own
abbrev pub vertex_lines : List Point → List ℕ
vertex_lines [] = []
vertex_lines (p ∷ []) = coordinates_line (p ∷ [])
vertex_lines (p ∷ q ∷ ps) = coordinates_line (p ∷ q ∷ []) ++ vertex_lines ps

-- the numbers of vertices by their ids, counted from 1, the last one negative
abbrev pub vertex_numbers : List ℕ → List ℤ
vertex_numbers [] = []
vertex_numbers (id ∷ []) = negsuc id ∷ []
vertex_numbers (id ∷ next ∷ ids) = pos (id + 1) ∷ vertex_numbers (next ∷ ids)

-- the line of a polygon
abbrev pub polygon_line : List ℕ → List ℕ
polygon_line ids = number_line (vertex_numbers ids)

-- the counts, the parts, the vertices and the polygons
abbrev pub byu_of : Surface → List ℕ
byu_of s = counts_line s ++ (part_ranges 1 s.parts
    ++ (vertex_lines s.vertices ++ flat_map (flat_map polygon_line) s.parts))
