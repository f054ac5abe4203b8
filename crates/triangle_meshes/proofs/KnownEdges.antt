-- The edges of triangles of known ids join known ids.
use Rattle.std.proofs.Common.{ℕ, ◌<◌, List, [], ◌∷◌, ◌++◌, take, All}
use Rattle.std.specs.List.{flat_map, AllByRecursion}
use Rattle.std.proofs.lemmas.List.Elements.{All-head, All-tail, All-append, All-take, recursion_from_All}
use Rattle.fku_types.proofs.ListLaws.{all_join}
use Rattle.plane_geom.specs.Rings.{path_edges, ring_edges}

-- both ids of an edge are below n
abbrev pub IsKnown : ℕ → ℕ × ℕ → Type 0
IsKnown n e = (e.0 < n) × (e.1 < n)

known_path : (n : ℕ) (ids : List ℕ) → AllByRecursion (λ id. id < n) ids → AllByRecursion (IsKnown n) (path_edges ids)
known_path n [] a = tt
known_path n (i ∷ []) a = tt
known_path n (i ∷ j ∷ ids) a = ((a.0, a.1.0), known_path n (j ∷ ids) a.1)

pub known_edges : (n : ℕ) (ts : List (List ℕ)) → All (All (λ id. id < n)) ts
    → AllByRecursion (IsKnown n) (flat_map ring_edges ts)
known_edges n [] a = tt
known_edges n (t ∷ ts) a =
    let P : ℕ → Type 0 = λ id. id < n in
    let ids = All-head (All P) t ts a in
    let ring = recursion_from_All P (t ++ take 1 t) (All-append P t (take 1 t) ids (All-take P 1 t ids)) in
    all_join (IsKnown n) (ring_edges t) (flat_map ring_edges ts) (known_path n (t ++ take 1 t) ring)
    (known_edges n ts (All-tail (All P) t ts a))
