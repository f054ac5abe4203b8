-- One number for each edge between vertices below 2 ^ 32, and counts of such numbers.
use Rattle.std.specs.Prelude.{ℕ, ◌+◌, ◌*◌, ◌/◌, ◌%◌, ◌==◌, ◌&&◌, Bool, List, count_by, nat_lt}
use Rattle.plane_geom.specs.Rings.{is_edge}
use Rattle.triangle_meshes.specs.Edges.{unordered}

-- one number for two ids, in order
abbrev pub key : ℕ × ℕ → ℕ
key e = 4294967296 * e.0 + e.1

-- the ids of a number
abbrev pub first_of_key : ℕ → ℕ
first_of_key k = k / 4294967296

abbrev pub last_id : ℕ → ℕ
last_id k = k % 4294967296

-- one number for the two ids of an edge, in either direction
abbrev pub side_key : ℕ × ℕ → ℕ
side_key e = key (unordered e)

-- how often a number occurs in a list
abbrev pub times : ℕ → List ℕ → ℕ
times k xs = count_by (λ x. x == k) xs

-- a number is that of an edge that leads to a greater id
abbrev pub is_forth : ℕ → ℕ × ℕ → Bool
is_forth k e = nat_lt (first_of_key k) (last_id k) && is_edge (first_of_key k) (last_id k) e

-- a number is that of the reverse of an edge that leads to a smaller id
abbrev pub is_back : ℕ → ℕ × ℕ → Bool
is_back k e = nat_lt (first_of_key k) (last_id k) && is_edge (last_id k) (first_of_key k) e
