-- The volume inside a closed list of triangles is the same for every point.
use Rattle.std.proofs.Common.{◌≡◌, ℕ, ◌+◌, ◌<◌, List, [], ◌∷◌, length, take, get_or, ℤ, pos, ◌+ℤ◌, refl, sym, ap, ◌∙◌, arith, slice_index, slice_index_or, All}
use Rattle.std.specs.List.{AllByRecursion}
use Rattle.std.proofs.lemmas.Int.{ints}
use Rattle.std.proofs.lemmas.List.{take_more}
use Rattle.std.proofs.lemmas.List.Elements.{recursion_from_All}
use Rattle.fku_types.specs.declared.points.Point.{Point}
use Rattle.plane_geom.specs.Rings.{origin, IsClosed}
use Rattle.plane_geom.specs.Planes.{signed_sum}
use Rattle.plane_geom.proofs.Balance.{closed_total}
use Rattle.plane_geom.proofs.RingReads.{signed_sum_push}
use Rattle.ring_polygons.proofs.SignedSums.{Turns, part, ring_signed, rings_signed}
use Rattle.triangle_meshes.specs.Volumes.{determinant, six_volume_of, part_volume}
use Rattle.triangle_meshes.proofs.Determinants.{determinant-turns, seen_sum}

-- a triangle
abbrev pub HasThree : List ℕ → Type 0
HasThree t = length t ≡ 3

-- the signed sum over one more item
pub sum_more : {X : Type 0} (f : X → ℤ) (xs : List X) (i : ℕ) (d : X) → i < length xs
    → signed_sum f (take (i + 1) xs) ≡ signed_sum f (take i xs) +ℤ f (get_or xs i d)
sum_more f xs i d l = ap (signed_sum f) (take_more xs i d l) ∙ signed_sum_push f (take i xs) (get_or xs i d)

-- the vertex of an id
abbrev raw : List Point → ℕ → Point
raw vertices id = slice_index_or vertices id origin

-- the weight of an edge between vertex ids, as seen from a point
abbrev seen : List Point → Point → ℕ → ℕ → ℤ
seen vertices o a b = determinant o (raw vertices a) (raw vertices b)

-- the determinant of a triangle's own vertices
abbrev plain : List Point → List ℕ → ℤ
plain vertices t = determinant (raw vertices (slice_index t 0)) (raw vertices (slice_index t 1))
    (raw vertices (slice_index t 2))

one_plain : (vertices : List Point) (o : Point) (t : List ℕ) → HasThree t
    → six_volume_of vertices o t +ℤ ring_signed (seen vertices o) t ≡ plain vertices t
one_plain vertices o [] h = absurd (omega (arith, h))
one_plain vertices o (a ∷ []) h = absurd (omega (arith, h))
one_plain vertices o (a ∷ b ∷ []) h = absurd (omega (arith, h))
one_plain vertices o (a ∷ b ∷ c ∷ []) h =
    three_and_none (six_volume_of vertices o (a ∷ b ∷ c ∷ [])) (seen vertices o a b) (seen vertices o b c)
    (seen vertices o c a) ∙ seen_sum o (raw vertices a) (raw vertices b) (raw vertices c)
  where
    three_and_none : (v x y z : ℤ) → v +ℤ (x +ℤ (y +ℤ (z +ℤ pos 0))) ≡ v +ℤ (x +ℤ (y +ℤ z))
    three_and_none v x y z = omega (arith, ints)
one_plain vertices o (a ∷ b ∷ c ∷ e ∷ t) h = absurd (omega (arith, h))

add_both : (a b c x y z : ℤ) → a +ℤ b ≡ c → x +ℤ y ≡ z → (a +ℤ x) +ℤ (b +ℤ y) ≡ c +ℤ z
add_both a b c x y z e f = omega (arith, ints)

all_plain : (vertices : List Point) (o : Point) (triangles : List (List ℕ)) → AllByRecursion HasThree triangles
    → part_volume vertices o triangles +ℤ signed_sum (ring_signed (seen vertices o)) triangles
    ≡ signed_sum (plain vertices) triangles
all_plain vertices o [] h = refl
all_plain vertices o (t ∷ ts) h =
    add_both (six_volume_of vertices o t) (ring_signed (seen vertices o) t) (plain vertices t)
    (part_volume vertices o ts) (signed_sum (ring_signed (seen vertices o)) ts) (signed_sum (plain vertices) ts)
    (one_plain vertices o t h.0) (all_plain vertices o ts h.1)

-- over a closed list of triangles the signed sum is 0
pub closed_signed : (w : ℕ → ℕ → ℤ) → Turns w → (triangles : List (List ℕ)) → IsClosed triangles
    → signed_sum (ring_signed w) triangles ≡ pos 0
closed_signed w h ts c = omega (arith, ints, rings_signed w h ts, closed_total ts c (part w))

add_none : (a b c : ℤ) → a +ℤ b ≡ c → b ≡ pos 0 → a ≡ c
add_none a b c e z = omega (arith, ints)

pub volume_anywhere : (vertices : List Point) (triangles : List (List ℕ)) (o p : Point) → All HasThree triangles
    → IsClosed triangles → part_volume vertices o triangles ≡ part_volume vertices p triangles
volume_anywhere vertices ts o p three c = about o ∙ sym (about p)
  where
    about : (q : Point) → part_volume vertices q ts ≡ signed_sum (plain vertices) ts
    about q =
        add_none (part_volume vertices q ts) (signed_sum (ring_signed (seen vertices q)) ts)
        (signed_sum (plain vertices) ts)
        (all_plain vertices q ts (recursion_from_All HasThree ts three))
        (closed_signed (seen vertices q) (λ a b. determinant-turns q (raw vertices a) (raw vertices b)) ts c)
