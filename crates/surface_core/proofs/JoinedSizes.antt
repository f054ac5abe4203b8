-- Joined surfaces are valid if each is and together they keep the limits.
use Rattle.std.proofs.Common.{◌≡◌, ℕ, ◌+◌, ◌*◌, ◌<◌, ◌≤◌, List, [], ◌∷◌, ◌++◌, length, map, flat_map, sum_by, refl, sym, ap, ◌∙◌, arith, subst, ℤ, pos, ◌+ℤ◌, ◌≤ℤ◌, append_assoc, append-nil, to_z, of_z, to_z-of_z, SFits, FitsSigned}
use mir.Syntax.{w128}
use Rattle.std.specs.Prelude.{All}
use Rattle.std.specs.List.{AllByRecursion, AllZip}
use Rattle.std.proofs.lemmas.Int.{ints}
use Rattle.std.proofs.lemmas.List.{length-append, length-map, map-append}
use Rattle.std.proofs.lemmas.List.Concat.{length-flat_map}
use Rattle.std.proofs.lemmas.List.Elements.{All-from_recursion, recursion_from_All, All-append, All-nil}
use Rattle.std.proofs.lemmas.List.Sums.{sum_by-cons, sum_by-append}
use Rattle.fku_types.specs.declared.limits.TheConstants.{MAX_CONTOURS, MAX_MESH_PARTS, MAX_MESH_TRIANGLES, MAX_MESH_VERTICES, MAX_PAIRS, MAX_VERTICES}
use Rattle.fku_types.specs.Points.{IsInRange}
use Rattle.plane_geom.specs.Planes.{signed_sum}
use Rattle.section_core.specs.Parts.{Parts}
use Rattle.triangle_meshes.specs.declared.meshes.Mesh.{Mesh}
use Rattle.fku_types.proofs.ListLaws.{all_join, all_weaker}
use Rattle.triangle_meshes.specs.Meshes.{Surface, IsValid, surface_of}
use Rattle.triangle_meshes.specs.Joined.{raised_triangle, raised_part, raised, joined_parts, joined}
use Rattle.surface_core.specs.declared.surfaces.Built.{Built}
use Rattle.surface_core.specs.Objects.{surfaces_of, object_vertices, object_contours, pair_cost_limit, IsBounded}
use Rattle.surface_core.proofs.ObjectFacts.{AreFewObjects}

-- ---- ids
abbrev Known : ℕ → List (List ℕ) → Type 0
Known n part = All (All (λ id. id < n)) part

ids_up : (by m n : ℕ) (t : List ℕ) → by + m ≤ n → AllByRecursion (λ id. id < m) t
    → AllByRecursion (λ id. id < n) (raised_triangle by t)
ids_up by m n [] le h = tt
ids_up by m n (k ∷ t) le h = (omega (arith, le, h.0), ids_up by m n t le h.1)

triangles_up : (by m n : ℕ) (part : List (List ℕ)) → by + m ≤ n → AllByRecursion (All (λ id. id < m)) part
    → AllByRecursion (All (λ id. id < n)) (raised_part by part)
triangles_up by m n [] le h = tt
triangles_up by m n (t ∷ part) le h = (
  All-from_recursion (λ id. id < n) (raised_triangle by t)
      (ids_up by m n t le (recursion_from_All (λ id. id < m) t h.0)),
  triangles_up by m n part le h.1,
)

parts_up : (by m n : ℕ) (parts : List (List (List ℕ))) → by + m ≤ n → AllByRecursion (Known m) parts
    → AllByRecursion (Known n) (raised by parts)
parts_up by m n [] le h = tt
parts_up by m n (part ∷ parts) le h = (
  All-from_recursion (All (λ id. id < n)) (raised_part by part)
      (triangles_up by m n part le (recursion_from_All (All (λ id. id < m)) part h.0)),
  parts_up by m n parts le h.1,
)

known_ids : (by n : ℕ) (meshes : List Surface) → AllByRecursion IsValid meshes
    → by + sum_by (λ (s : Surface). length s.vertices) meshes ≤ n → AllByRecursion (Known n) (joined_parts by meshes)
known_ids by n [] h le = tt
known_ids by n (s ∷ meshes) h le =
    let sum = sum_by-cons (λ (x : Surface). length x.vertices) s meshes in
    let m : ℕ = length s.vertices in
    all_join (Known n) (raised by s.parts) (joined_parts (by + m) meshes)
    (parts_up by m n s.parts (omega (arith, le, sum)) (recursion_from_All (Known m) s.parts h.0.known_ids))
    (known_ids (by + m) n meshes h.1 (omega (arith, le, sum)))

-- ---- triangles
some_up : (by : ℕ) (parts : List (List (List ℕ))) → AllByRecursion (λ part. 1 ≤ length part) parts
    → AllByRecursion (λ part. 1 ≤ length part) (raised by parts)
some_up by [] h = tt
some_up by (part ∷ parts) h = (omega (arith, h.0, length-map part (raised_triangle by)), some_up by parts h.1)

some_triangles : (by : ℕ) (meshes : List Surface) → AllByRecursion IsValid meshes
    → AllByRecursion (λ part. 1 ≤ length part) (joined_parts by meshes)
some_triangles by [] h = tt
some_triangles by (s ∷ meshes) h =
    all_join (λ part. 1 ≤ length part) (raised by s.parts) (joined_parts (by + length s.vertices) meshes)
    (some_up by s.parts (recursion_from_All (λ part. 1 ≤ length part) s.parts h.0.some_triangle))
    (some_triangles (by + length s.vertices) meshes h.1)

same_up : (by : ℕ) (parts : List (List (List ℕ))) → sum_by length (raised by parts) ≡ sum_by length parts
same_up by [] = refl
same_up by (part ∷ parts) =
    omega (
      arith,
      same_up by parts,
      length-map part (raised_triangle by),
      sum_by-cons {X = List (List ℕ)} length part parts,
      sum_by-cons {X = List (List ℕ)} length (raised_part by part) (raised by parts),
    )

triangles_sum : (by : ℕ) (meshes : List Surface)
    → sum_by length (joined_parts by meshes) ≡ sum_by (λ (s : Surface). sum_by length s.parts) meshes
triangles_sum by [] = refl
triangles_sum by (s ∷ meshes) =
    omega (
      arith,
      triangles_sum (by + length s.vertices) meshes,
      same_up by s.parts,
      sum_by-append {X = List (List ℕ)} length (raised by s.parts) (joined_parts (by + length s.vertices) meshes),
      sum_by-cons (λ (x : Surface). sum_by length x.parts) s meshes,
    )

parts_sum : (by : ℕ) (meshes : List Surface)
    → length (joined_parts by meshes) ≡ sum_by (λ (s : Surface). length s.parts) meshes
parts_sum by [] = refl
parts_sum by (s ∷ meshes) =
    omega (
      arith,
      parts_sum (by + length s.vertices) meshes,
      length-map s.parts (raised_part by),
      length-append (raised by s.parts) (joined_parts (by + length s.vertices) meshes),
      sum_by-cons (λ (x : Surface). length x.parts) s meshes,
    )

-- ---- vertices
in_range : (meshes : List Surface) → AllByRecursion IsValid meshes
    → All IsInRange (flat_map (λ (s : Surface). s.vertices) meshes)
in_range [] h = All-nil IsInRange
in_range (s ∷ meshes) h = All-append IsInRange s.vertices (flat_map (λ (s : Surface). s.vertices) meshes) h.0.in_range
    (in_range meshes h.1)

some_one : (f : Surface → ℕ) (meshes : List Surface) → 1 ≤ length meshes
    → AllByRecursion (λ (s : Surface). 1 ≤ f s) meshes → 1 ≤ sum_by f meshes
some_one f [] l h = absurd (omega (arith, l))
some_one f (s ∷ meshes) l h = omega (arith, h.0, sum_by-cons f s meshes)

-- valid meshes that keep the limits together are a valid mesh
valid_joined : (meshes : List Surface) → 1 ≤ length meshes → All IsValid meshes
    → sum_by (λ (s : Surface). length s.vertices) meshes ≤ MAX_MESH_VERTICES
    → sum_by (λ (s : Surface). length s.parts) meshes ≤ MAX_MESH_PARTS
    → sum_by (λ (s : Surface). sum_by length s.parts) meshes ≤ MAX_MESH_TRIANGLES
    → IsValid (joined meshes)
valid_joined meshes some all few_vertices few_parts few_triangles =
    let each = recursion_from_All IsValid meshes all in
    let n : ℕ = length (joined meshes).vertices in
    let count : n ≡ sum_by (λ (s : Surface). length s.vertices) meshes =
    length-flat_map (λ (s : Surface). s.vertices) meshes in
    let parts = parts_sum 0 meshes in
    record {
      some_vertex = omega (
        arith,
        count,
        some_one (λ (s : Surface). length s.vertices) meshes some
            (all_weaker IsValid (λ (s : Surface). 1 ≤ length s.vertices) meshes (λ s v. v.some_vertex) each),
      );
      few_vertices = omega (arith, count, few_vertices);
      in_range = in_range meshes each;
      some_part = omega (
        arith,
        parts,
        some_one (λ (s : Surface). length s.parts) meshes some
            (all_weaker IsValid (λ (s : Surface). 1 ≤ length s.parts) meshes (λ s v. v.some_part) each),
      );
      few_parts = omega (arith, parts, few_parts);
      some_triangle = All-from_recursion (λ part. 1 ≤ length part) (joined_parts 0 meshes)
          (some_triangles 0 meshes each);
      known_ids = All-from_recursion (Known n) (joined_parts 0 meshes)
          (known_ids 0 n meshes each (omega (arith, count)));
      few_triangles = omega (arith, triangles_sum 0 meshes, few_triangles);
    }

-- ---- surfaces of objects
-- a cost between 0 and the largest cost of so many pairs
abbrev pub IsCheap : Built → Type 0
IsCheap b = (pos 0 ≤ℤ b.cost) × (b.cost ≤ℤ pos (b.pairs * pair_cost_limit))

pub record AreBounded (objects : List Parts) (each : List Built) : Type 0 where
  pub count : length each ≡ length objects
  pub vertices : sum_by (λ (s : Surface). length s.vertices) (surfaces_of each) ≡ sum_by object_vertices objects
  pub parts : sum_by (λ (s : Surface). length s.parts) (surfaces_of each) ≡ length objects
  pub triangles : sum_by (λ (s : Surface). sum_by length s.parts) (surfaces_of each) ≤ 2 * sum_by object_vertices
      objects + 12 * sum_by object_contours objects
  pub folded : sum_by (λ (b : Built). b.folded) each ≤ 2 * sum_by object_vertices objects
      + 12 * sum_by object_contours objects
  pub pairs : sum_by (λ (b : Built). b.pairs) each ≤ sum_by object_contours objects
  pub cheap : AllByRecursion IsCheap each

pub are_bounded : (objects : List Parts) (each : List Built) → AllZip IsBounded objects each → AreBounded objects each
are_bounded [] [] h = record {
  count = refl;
  vertices = refl;
  parts = refl;
  triangles = omega arith;
  folded =
      omega arith;
  pairs = omega arith;
  cheap = tt;
}
are_bounded [] (b ∷ each) h = absurd h
are_bounded (S ∷ objects) [] h = absurd h
are_bounded (S ∷ objects) (b ∷ each) h =
    let more = are_bounded objects each h.1 in
    let here = h.0 in
    let s : Surface = surface_of b.mesh in
    let ss : List Surface = surfaces_of each in
    let part : length s.parts ≡ length b.mesh.parts.items = length-map b.mesh.parts.items _ in
    let vs = sum_by-cons object_vertices S objects in
    let cs = sum_by-cons object_contours S objects in
    record {
      count = omega (arith, more.count);
      vertices = omega (arith, more.vertices, here.vertices, vs, sum_by-cons (λ (s : Surface). length s.vertices) s ss);
      parts = omega (arith, more.parts, here.one_part, part, sum_by-cons (λ (s : Surface). length s.parts) s ss);
      triangles = omega (
        arith,
        more.triangles,
        here.triangles,
        vs,
        cs,
        sum_by-cons (λ (s : Surface). sum_by length s.parts) s ss,
      );
      folded = omega (arith, more.folded, here.folded, vs, cs, sum_by-cons (λ (b : Built). b.folded) b each);
      pairs = omega (arith, more.pairs, here.pairs, cs, sum_by-cons (λ (b : Built). b.pairs) b each);
      cheap = ((here.some_cost, here.few_cost), more.cheap);
    }

-- the joined mesh of objects that keep the limits
pub joined_valid : (objects : List Parts) (each : List Built) → AreFewObjects objects → AreBounded objects each
    → All IsValid (surfaces_of each) → IsValid (joined (surfaces_of each))
joined_valid objects each few bounded valid =
    let n : length (surfaces_of each) ≡ length each = length-map each _ in
    valid_joined (surfaces_of each)
    (omega (arith, n, bounded.count, few.some))
    valid
    (omega (arith, bounded.vertices, few.vertices))
    (omega (arith, bounded.parts, few.objects))
    (omega (arith, bounded.triangles, few.vertices, few.contours))

-- ---- one after another
pub sum_next : (f : Built → ℕ) (xs more : List Built) (b : Built) (so_far whole : ℕ) → xs ≡ b ∷ more
    → so_far + sum_by f xs ≡ whole → (so_far + f b) + sum_by f more ≡ whole
sum_next f xs more b so_far whole e h = omega (arith, h, ap (sum_by f) e, sum_by-cons f b more)

pub cost_next : (xs more : List Built) (b : Built) (so_far whole : ℤ) → xs ≡ b ∷ more
    → so_far +ℤ signed_sum (λ (x : Built). x.cost) xs ≡ whole
    → (so_far +ℤ b.cost) +ℤ signed_sum (λ (x : Built). x.cost) more ≡ whole
cost_next xs more b so_far whole e h =
    let f : Built → ℤ = λ x. x.cost in
    regroup so_far b.cost (signed_sum f more) ∙ ap (λ (ys : List Built). so_far +ℤ signed_sum f ys) (sym e) ∙ h
  where
    regroup : (s t u : ℤ) → (s +ℤ t) +ℤ u ≡ s +ℤ (t +ℤ u)
    regroup s t u = omega (arith, ints)

pub meshes_next : (old new : List Mesh) (xs more : List Built) (b : Built) (whole : List Surface)
    → new ≡ old ++ b.mesh ∷ [] → xs ≡ b ∷ more → map surface_of old ++ surfaces_of xs ≡ whole
    → map surface_of new ++ surfaces_of more ≡ whole
meshes_next old new xs more b whole n e h =
    ap (λ (ms : List Mesh). map surface_of ms ++ surfaces_of more) n
    ∙ ap (λ (ss : List Surface). ss ++ surfaces_of more) (map-append surface_of old (b.mesh ∷ []))
    ∙ append_assoc (map surface_of old) (surface_of b.mesh ∷ []) (surfaces_of more)
    ∙ ap (λ (ys : List Built). map surface_of old ++ surfaces_of ys) (sym e) ∙ h

pub none_left : (meshes : List Mesh) (rest : List Built) (n : ℕ) (whole : List Surface) → n ≡ length rest → n ≡ 0
    → map surface_of meshes ++ surfaces_of rest ≡ whole → map surface_of meshes ≡ whole
none_left meshes [] n whole e z h = sym (append-nil (map surface_of meshes)) ∙ h
none_left meshes (b ∷ rest) n whole e z h = absurd (omega (arith, e, z))

-- a sum of costs fits its type
costs_fit : (s t : ℤ) (n m : ℕ) → n + m ≤ MAX_PAIRS → pos 0 ≤ℤ s → s ≤ℤ pos (n * pair_cost_limit) → pos 0 ≤ℤ t
    → t ≤ℤ pos (m * pair_cost_limit) → SFits w128 t × SFits w128 (s +ℤ t)
costs_fit s t n m l a b d e =
    let k : SFits w128 t = omega (arith, ints) in
    let f : SFits w128 (s +ℤ t) = omega (arith, ints) in
    (k, f)

-- a sum of costs, as it is computed
pub record Cost (s t : ℤ) (n m : ℕ) : Type 0 where
  pub fits : FitsSigned w128 (s +ℤ to_z w128 (of_z w128 t))
  pub is : to_z w128 (of_z w128 (s +ℤ to_z w128 (of_z w128 t))) ≡ s +ℤ t
  pub some : pos 0 ≤ℤ (s +ℤ t)
  pub few : (s +ℤ t) ≤ℤ pos ((n + m) * pair_cost_limit)

pub cost_more : (s t : ℤ) (n m : ℕ) → n + m ≤ MAX_PAIRS → pos 0 ≤ℤ s → s ≤ℤ pos (n * pair_cost_limit) → pos 0 ≤ℤ t
    → t ≤ℤ pos (m * pair_cost_limit) → Cost s t n m
cost_more s t n m l a b d e =
    let fit = costs_fit s t n m l a b d e in
    let here : to_z w128 (of_z w128 t) ≡ t = to_z-of_z fit.0 in
    let f : SFits w128 (s +ℤ t) = fit.1 in
    record {
      fits = subst (λ (z : ℤ). FitsSigned w128 (s +ℤ z)) (sym here) f;
      is = ap (λ (z : ℤ). to_z w128 (of_z w128 (s +ℤ z))) here ∙ to_z-of_z f;
      some = omega (arith, ints);
      few = omega (arith, ints);
    }

-- what one more object adds, if all keep the limits
pub few_added : (objects : List Parts) (each rest more : List Built) (b : Built) (n : ℕ) → AreFewObjects objects
    → AreBounded objects each → rest ≡ b ∷ more
    → n + sum_by (λ (x : Built). x.pairs) rest ≡ sum_by (λ (x : Built). x.pairs) each → n + b.pairs ≤ MAX_PAIRS
few_added objects each rest more b n few all e h =
    omega (
      arith,
      sum_next (λ (x : Built). x.pairs) rest more b n (sum_by (λ (x : Built). x.pairs) each) e h,
      all.pairs,
      few.contours,
    )

pub folded_added : (objects : List Parts) (each rest more : List Built) (b : Built) (n : ℕ) → AreFewObjects objects
    → AreBounded objects each → rest ≡ b ∷ more
    → n + sum_by (λ (x : Built). x.folded) rest ≡ sum_by (λ (x : Built). x.folded) each
    → n + b.folded ≤ 2 * MAX_VERTICES + 12 * MAX_CONTOURS
folded_added objects each rest more b n few all e h =
    omega (
      arith,
      sum_next (λ (x : Built). x.folded) rest more b n (sum_by (λ (x : Built). x.folded) each) e h,
      all.folded,
      few.vertices,
      few.contours,
    )

pub cost_added : (objects : List Parts) (each rest more : List Built) (b : Built) (n : ℕ) (s : ℤ)
    → AreFewObjects objects → AreBounded objects each → rest ≡ b ∷ more
    → n + sum_by (λ (x : Built). x.pairs) rest ≡ sum_by (λ (x : Built). x.pairs) each → AllByRecursion IsCheap rest
    → pos 0 ≤ℤ s → s ≤ℤ pos (n * pair_cost_limit) → Cost s b.cost n b.pairs
cost_added objects each rest more b n s few all e h cheap some low =
    let own = (subst (AllByRecursion IsCheap) e cheap).0 in
    cost_more s b.cost n b.pairs (few_added objects each rest more b n few all e h) some low own.0 own.1

-- where nothing is left, what was summed is the whole sum
pub sum_ended : (f : Built → ℕ) (rest : List Built) (n s t : ℕ) → n ≡ length rest → n ≡ 0 → s + sum_by f rest ≡ t
    → s ≡ t
sum_ended f [] n s t e z h = omega (arith, h)
sum_ended f (b ∷ rest) n s t e z h = absurd (omega (arith, e, z))

pub cost_ended : (f : Built → ℤ) (rest : List Built) (n : ℕ) (s t : ℤ) → n ≡ length rest → n ≡ 0
    → s +ℤ signed_sum f rest ≡ t → s ≡ t
cost_ended f [] n s t e z h = omega (arith, ints, h)
cost_ended f (b ∷ rest) n s t e z h = absurd (omega (arith, e, z))
