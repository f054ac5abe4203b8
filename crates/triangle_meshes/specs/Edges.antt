-- The edges of a mesh, in either direction.
use Rattle.std.specs.Prelude.{ℕ, zero, suc, ◌+◌, Bool, List, [], ◌++◌, map, length, count_by, nat_lt, nat_le, if◌then◌else◌}
use Rattle.std.specs.List.{list_any, range_with_len}
use Rattle.plane_geom.specs.Rings.{edge_count}
use Rattle.triangle_meshes.specs.Meshes.{Surface}

-- u and v are joined: in some part v follows u, or u follows v
abbrev pub is_joined : Surface → ℕ → ℕ → Bool
is_joined s u v = list_any (λ part. nat_lt 0 (edge_count part u v + edge_count part v u)) s.parts

-- the pairs of ids below n, the first one not above the second
abbrev pub pairs_below : ℕ → List (ℕ × ℕ)
pairs_below zero = []
pairs_below (suc n) = map (λ u. (u, n)) (range_with_len 0 (n + 1)) ++ pairs_below n

-- how many pairs of vertices are joined, two different ones or one with itself
abbrev pub edges_of : Surface → ℕ
edges_of s = count_by (λ e. is_joined s e.0 e.1) (pairs_below (length s.vertices))

-- the two ids of an edge, the smaller one first
abbrev pub unordered : ℕ × ℕ → ℕ × ℕ
unordered e = if nat_le e.0 e.1 then e else (e.1, e.0)
