-- Meshes joined in order.
use Rattle.std.proofs.Common.{◌≡◌, ℕ, ◌+◌, ◌-◌, ◌<◌, ◌≤◌, ◌&&◌, inl, inr, Bool, true, false, cond, List, [], ◌∷◌, ◌++◌, map, length, get_or, take, drop, refl, ap, ap₂, sym, subst, ◌∙◌, append-nil, arith, All}
use Rattle.std.specs.Prelude.{◌==◌}
use Rattle.std.specs.List.{flat_map, AllByRecursion}
use Rattle.std.proofs.lemmas.List.{length-append, length-map, get_or-map, map-append, drop_all, take-map}
use Rattle.std.proofs.lemmas.List.Elements.{recursion_from_All, All-from_recursion}
use Rattle.std.proofs.lemmas.Bool.Decides.{nat_tests}
use Rattle.std.proofs.lemmas.Bool.{false≢true, cases_lt, and_right}
use Rattle.fku_types.specs.declared.limits.TheConstants.{MAX_MESH_VERTICES}
use Rattle.fku_types.specs.declared.points.Point.{Point}
use Rattle.fku_types.proofs.ListLaws.{all_join}
use Rattle.plane_geom.specs.Rings.{path_edges, ring_edges, edge_count, IsClosed}
use Rattle.plane_geom.proofs.Sums.{weigh}
use Rattle.plane_geom.proofs.Counts.{one_edge, count_weigh, weigh_same}
use Rattle.triangle_meshes.specs.declared.meshes.Mesh.{Mesh}
use Rattle.triangle_meshes.specs.Meshes.{Surface, surface_of, IsValid}
use Rattle.triangle_meshes.specs.Joined.{raised_triangle, raised_part, raised, IsBelow, joined_parts, joined}

-- edges of a raised triangle
abbrev up : ℕ → ℕ × ℕ → ℕ × ℕ
up n e = (e.0 + n, e.1 + n)

path-up : (n : ℕ) (xs : List ℕ) → path_edges (map (λ (k : ℕ). k + n) xs) ≡ map (up n) (path_edges xs)
path-up n [] = refl
path-up n (x ∷ []) = refl
path-up n (x ∷ y ∷ xs) = ap (λ (es : List (ℕ × ℕ)). (x + n, y + n) ∷ es) (path-up n (y ∷ xs))

ring-up : (n : ℕ) (xs : List ℕ) → ring_edges (raised_triangle n xs) ≡ map (up n) (ring_edges xs)
ring-up n xs =
    ap (λ (ys : List ℕ). path_edges (raised_triangle n xs ++ ys)) (take-map (λ (k : ℕ). k + n) 1 xs)
    ∙ ap path_edges (sym (map-append (λ (k : ℕ). k + n) xs (take 1 xs)))
    ∙ path-up n (xs ++ take 1 xs)

edges-up : (n : ℕ) (part : List (List ℕ))
    → flat_map ring_edges (raised_part n part) ≡ map (up n) (flat_map ring_edges part)
edges-up n [] = refl
edges-up n (t ∷ part) =
    ap (λ (es : List (ℕ × ℕ)). es ++ flat_map ring_edges (raised_part n part)) (ring-up n t)
    ∙ ap (λ (es : List (ℕ × ℕ)). map (up n) (ring_edges t) ++ es) (edges-up n part)
    ∙ sym (map-append (up n) (ring_edges t) (flat_map ring_edges part))

weigh-up : (f : ℕ → ℕ → ℕ) (n : ℕ) (es : List (ℕ × ℕ)) → weigh f (map (up n) es) ≡ weigh (λ a b. f (a + n) (b + n)) es
weigh-up f n [] = refl
weigh-up f n (e ∷ es) = ap (λ (k : ℕ). f (e.0 + n) (e.1 + n) + k) (weigh-up f n es)

weigh-none : (f : ℕ → ℕ → ℕ) → ((a b : ℕ) → f a b ≡ 0) → (es : List (ℕ × ℕ)) → weigh f es ≡ 0
weigh-none f h [] = refl
weigh-none f h (e ∷ es) = omega (arith, h e.0 e.1, weigh-none f h es)

-- an id is raised to this one if it is smaller by that number
same_up : (n u a : ℕ) → n ≤ u → (a + n == u) ≡ (a == (u - n))
same_up n u a le = by_test (a == (u - n)) refl
  where
    by_test : (b : Bool) → (a == (u - n)) ≡ b → (a + n == u) ≡ (a == (u - n))
    by_test true e = let k : a ≡ u - n = grind (arith, nat_tests) in let t : (a + n == u) ≡ true =
        grind (arith, nat_tests) in t ∙ sym e
    by_test false e = let k : a ≡ u - n → ⊥ =
        λ s. false≢true (sym e ∙ (let t : (a == (u - n)) ≡ true = grind (arith, nat_tests) in t)) in
        let t : (a + n == u) ≡ false = grind (arith, nat_tests) in t ∙ sym e

not_up : (n u a : ℕ) → u < n → (a + n == u) ≡ false
not_up n u a lt = grind (arith, nat_tests)

count-up : (n u v : ℕ) (part : List (List ℕ))
    → edge_count (raised_part n part) u v ≡ weigh (λ a b. one_edge u v (a + n) (b + n)) (flat_map ring_edges part)
count-up n u v part = count_weigh u v (flat_map ring_edges (raised_part n part))
    ∙ ap (weigh (one_edge u v)) (edges-up n part) ∙ weigh-up (one_edge u v) n (flat_map ring_edges part)

count-raised : (n u v : ℕ) (part : List (List ℕ)) → n ≤ u → n ≤ v
    → edge_count (raised_part n part) u v ≡ edge_count part (u - n) (v - n)
count-raised n u v part l m =
    count-up n u v part
    ∙ weigh_same (λ a b. one_edge u v (a + n) (b + n)) (one_edge (u - n) (v - n))
    (λ a b. ap (λ (x : Bool). cond (x && (b + n == v)) 1 0) (same_up n u a l)
    ∙ ap (λ (y : Bool). cond ((a == (u - n)) && y) 1 0) (same_up n v b m)) (flat_map ring_edges part)
    ∙ sym (count_weigh (u - n) (v - n) (flat_map ring_edges part))

count-left : (n u v : ℕ) (part : List (List ℕ)) → u < n → edge_count (raised_part n part) u v ≡ 0
count-left n u v part lt = count-up n u v part
    ∙ weigh-none (λ a b. one_edge u v (a + n) (b + n))
    (λ a b. ap (λ (x : Bool). cond (x && (b + n == v)) 1 0) (not_up n u a lt)) (flat_map ring_edges part)

count-right : (n u v : ℕ) (part : List (List ℕ)) → v < n → edge_count (raised_part n part) u v ≡ 0
count-right n u v part lt =
    count-up n u v part
    ∙ weigh-none (λ a b. one_edge u v (a + n) (b + n))
    (λ a b. ap (λ (y : Bool). cond ((a + n == u) && y) 1 0) (not_up n v b lt)
    ∙ ap (λ (y : Bool). cond y 1 0) (and_right (a + n == u) false refl)) (flat_map ring_edges part)

-- a closed part stays closed
raised-closed : (n : ℕ) (part : List (List ℕ)) → IsClosed part → IsClosed (raised_part n part)
raised-closed n part closed u v =
    elim (cases_lt u n) [
      | inl l ↦ count-left n u v part l ∙ sym (count-right n v u part l)
      | inr l ↦ elim (cases_lt v n) [
        | inl m ↦ count-right n u v part m ∙ sym (count-left n v u part m)
        | inr m ↦ count-raised n u v part l m ∙ closed (u - n) (v - n) ∙ sym (count-raised n v u part m l)
      ]
    ]

parts-closed : (n : ℕ) (parts : List (List (List ℕ))) → AllByRecursion IsClosed parts
    → AllByRecursion IsClosed (raised n parts)
parts-closed n [] h = tt
parts-closed n (part ∷ parts) h = (raised-closed n part h.0, parts-closed n parts h.1)

abbrev AreClosed : Surface → Type 0
AreClosed s = All IsClosed s.parts

joined-closed : (n : ℕ) (meshes : List Surface) → AllByRecursion AreClosed meshes
    → AllByRecursion IsClosed (joined_parts n meshes)
joined-closed n [] h = tt
joined-closed n (s ∷ more) h =
    all_join IsClosed (raised n s.parts) (joined_parts (n + length s.vertices) more)
    (parts-closed n s.parts (recursion_from_All IsClosed s.parts h.0))
    (joined-closed (n + length s.vertices) more h.1)

pub all_closed : (meshes : List Surface) → All AreClosed meshes → All IsClosed (joined meshes).parts
all_closed meshes h = All-from_recursion IsClosed (joined_parts 0 meshes)
    (joined-closed 0 meshes (recursion_from_All AreClosed meshes h))

-- the ids of a mesh stay below the limit
ids_below : (n m : ℕ) (t : List ℕ) → n + m ≤ MAX_MESH_VERTICES → AllByRecursion (λ id. id < m) t → IsBelow n t
ids_below n m [] le h = tt
ids_below n m (k ∷ t) le h = (omega (arith, le, h.0), ids_below n m t le h.1)

triangles_below : (n m : ℕ) (part : List (List ℕ)) → n + m ≤ MAX_MESH_VERTICES
    → AllByRecursion (λ t. All (λ id. id < m) t) part → AllByRecursion (IsBelow n) part
triangles_below n m [] le h = tt
triangles_below n m (t ∷ part) le h =
    (ids_below n m t le (recursion_from_All (λ id. id < m) t h.0), triangles_below n m part le h.1)

pub parts_below : (n m : ℕ) (parts : List (List (List ℕ))) → n + m ≤ MAX_MESH_VERTICES
    → AllByRecursion (λ part. All (λ t. All (λ id. id < m) t) part) parts
    → AllByRecursion (AllByRecursion (IsBelow n)) parts
parts_below n m [] le h = tt
parts_below n m (part ∷ parts) le h = (
  triangles_below n m part le (recursion_from_All (λ t. All (λ id. id < m) t) part h.0),
  parts_below n m parts le h.1,
)

pub all_below : (n : ℕ) (s : Surface) → IsValid s → n + length s.vertices ≤ MAX_MESH_VERTICES
    → AllByRecursion (AllByRecursion (IsBelow n)) s.parts
all_below n s v le = parts_below n (length s.vertices) s.parts le
    (recursion_from_All (λ part. All (λ t. All (λ id. id < length s.vertices) t) part) s.parts v.known_ids)

-- one of some valid meshes
pub mesh_valid : (meshes : List Mesh) (i : ℕ) (x : Mesh) → All IsValid (map surface_of meshes) → i < length meshes
    → x ≡ get_or meshes i x → IsValid (surface_of x)
mesh_valid meshes i x h lt e =
    subst IsValid (get_or-map surface_of meshes i x (surface_of x) lt ∙ ap surface_of (sym e))
    (h i (surface_of x) (omega (arith, lt, length-map meshes surface_of)))

-- the vertices so far and those of the next mesh are vertices of all
pub few_so_far : (vs all : List Point) (xs : List Mesh) (x : Mesh) (rest : List Mesh)
    → vs ++ flat_map (λ (s : Surface). s.vertices) (map surface_of xs) ≡ all → xs ≡ x ∷ rest
    → length all ≤ MAX_MESH_VERTICES → length vs + length x.vertices.items ≤ MAX_MESH_VERTICES
few_so_far vs all xs x rest h e le =
    let more = flat_map (λ (s : Surface). s.vertices) (map surface_of rest) in
    let whole : vs ++ (x.vertices.items ++ more) ≡ all =
    ap (λ (ys : List Mesh). vs ++ flat_map (λ (s : Surface). s.vertices) (map surface_of ys)) (sym e) ∙ h in
    omega (arith, le, ap length whole, length-append vs (x.vertices.items ++ more), length-append x.vertices.items more)

-- no mesh is left
pub none_left : (ps all : List (List (List ℕ))) (n : ℕ) (xs : List Mesh) (i : ℕ) → length xs ≤ i
    → ps ++ joined_parts n (map surface_of (drop i xs)) ≡ all → ps ≡ all
none_left ps all n xs i le h = sym (append-nil ps)
    ∙ ap (λ (ys : List Mesh). ps ++ joined_parts n (map surface_of ys)) (sym (drop_all i xs le)) ∙ h

same_triangle : (t : List ℕ) → raised_triangle 0 t ≡ t
same_triangle [] = refl
same_triangle (id ∷ t) = ap₂ (λ (n : ℕ) ns. n ∷ ns) (omega arith) (same_triangle t)

same_part : (part : List (List ℕ)) → raised_part 0 part ≡ part
same_part [] = refl
same_part (t ∷ part) = ap₂ (λ (x : List ℕ) xs. x ∷ xs) (same_triangle t) (same_part part)

same_parts : (parts : List (List (List ℕ))) → raised 0 parts ≡ parts
same_parts [] = refl
same_parts (part ∷ parts) = ap₂ (λ (x : List (List ℕ)) xs. x ∷ xs) (same_part part) (same_parts parts)

-- one mesh joined is itself
pub one_joined : (s : Surface) → joined (s ∷ []) ≡ s
one_joined s =
    ap₂ (λ (vs : List Point) ps. record { vertices = vs; parts = ps }) (append-nil s.vertices)
    (append-nil (raised 0 s.parts) ∙ same_parts s.parts)
