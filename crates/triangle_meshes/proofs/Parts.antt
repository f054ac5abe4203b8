-- The parts of a mesh as lists.
use Rattle.std.proofs.Common.{◌≡◌, ℕ, ◌<◌, ◌≤◌, List, [], ◌∷◌, length, take, get_or, sym, ap, ◌∙◌, arith, Vec, All}
use Rattle.std.specs.Prelude.{sum_by}
use Rattle.std.specs.List.{flat_map}
use Rattle.std.specs.declared.alloc.Global.{Global}
use Rattle.triangle_meshes.specs.Meshes.{triangle_lists}
use Rattle.std.proofs.lemmas.List.{get_or-map, length-map, take_all}
use Rattle.std.proofs.lemmas.List.Elements.{All-nil, All-append, All-head, All-tail}
use Rattle.std.proofs.lemmas.List.Sums.{get_or-le-sum_by}

abbrev pub Part : Type 0
Part = Vec (List ℕ) Global

-- triangles are those of the part at a place
pub record IsPart (parts : List Part) (i : ℕ) (triangles : List (List ℕ)) : Type 0 where
  pub there : i < length (triangle_lists parts)
  pub is : triangles ≡ get_or (triangle_lists parts) i []

pub part_read : (parts read : List Part) (i : ℕ) (p : Part) (triangles : List (List ℕ)) → triangles ≡ p.items
    → read ≡ parts → i < length read → p ≡ get_or read i p → IsPart parts i triangles
part_read parts read i p triangles told same l e =
    let k : i < length parts = omega (arith, l, ap length same) in
    record {
      there = omega (arith, length-map parts (λ (x : Part). x.items));
      is = told ∙ ap (λ (x : Part). x.items) (e ∙ ap (λ (x : List Part). get_or x i p) same)
          ∙ sym (get_or-map (λ (x : Part). x.items) parts i p [] k);
    }

pub all_read : (parts read : List Part) (i : ℕ) → read ≡ parts → length read ≤ i
    → take i (triangle_lists parts) ≡ triangle_lists parts
all_read parts read i same l =
    take_all i (triangle_lists parts) (omega (arith, l, ap length same, length-map parts (λ (x : Part). x.items)))

-- a part has at most as many triangles as the mesh
pub few_in_part : (parts : List Part) (i n : ℕ) → i < length (triangle_lists parts)
    → sum_by length (triangle_lists parts) ≤ n → length (get_or (triangle_lists parts) i []) ≤ n
few_in_part parts i n l s = omega (arith, get_or-le-sum_by length (triangle_lists parts) i [] l)

-- what holds of each triangle of each part
pub all_in_parts : (P : List ℕ → Type 0) (parts : List (List (List ℕ))) → All (All P) parts
    → All P (flat_map (λ part. part) parts)
all_in_parts P [] a = All-nil P
all_in_parts P (part ∷ parts) a =
    All-append P part (flat_map (λ part. part) parts) (All-head (All P) part parts a)
    (all_in_parts P parts (All-tail (All P) part parts a))
