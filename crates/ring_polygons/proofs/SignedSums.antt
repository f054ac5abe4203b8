-- Signed sums over directed edges, of a weight that changes sign with the edge's direction.
use Rattle.std.proofs.Common.{◌≡◌, ℕ, zero, suc, List, [], ◌∷◌, length, ℤ, pos, negsuc, ◌+ℤ◌, neg_ℤ, refl, ap, ◌∙◌, arith}
use Rattle.std.proofs.lemmas.Int.{ints}
use Rattle.plane_geom.specs.Rings.{ring_edges}
use Rattle.plane_geom.specs.Planes.{signed_sum}
use Rattle.plane_geom.proofs.Sums.{weigh, total, back}
use Rattle.ring_polygons.specs.Caps.{cut}
use Rattle.ring_polygons.proofs.CutLaws.{AreCorners, cut_total}

-- the number, or 0 if it is negative
abbrev above : ℤ → ℕ
above (pos n) = n
above (negsuc n) = 0

abbrev pub part : {X : Type 0} → (X → X → ℤ) → X → X → ℕ
part w a b = above (w a b)

above_both : (z : ℤ) → z +ℤ pos (above (neg_ℤ z)) ≡ pos (above z)
above_both (pos zero) = refl
above_both (pos (suc n)) = omega (arith, ints)
above_both (negsuc n) = omega (arith, ints)

-- the weight of a reversed edge has the other sign
abbrev pub Turns : {X : Type 0} → (X → X → ℤ) → Type 0
Turns {X} w = (a b : X) → w b a ≡ neg_ℤ (w a b)

parts : {X : Type 0} (w : X → X → ℤ) → Turns w → (a b : X) → w a b +ℤ pos (part w b a) ≡ pos (part w a b)
parts w h a b = ap (λ (z : ℤ). w a b +ℤ pos (above z)) (h a b) ∙ above_both (w a b)

-- the signed sum over the edges of a ring
abbrev pub ring_signed : {X : Type 0} → (X → X → ℤ) → List X → ℤ
ring_signed w ring = signed_sum (λ e. w e.0 e.1) (ring_edges ring)

pub edges_signed : {X : Type 0} (w : X → X → ℤ) → Turns w → (es : List (X × X))
    → signed_sum (λ e. w e.0 e.1) es +ℤ pos (weigh (back (part w)) es) ≡ pos (weigh (part w) es)
edges_signed w h [] = refl
edges_signed w h (e ∷ es) = omega (arith, ints, parts w h e.0 e.1, edges_signed w h es)

pub rings_signed : {X : Type 0} (w : X → X → ℤ) → Turns w → (rings : List (List X))
    → signed_sum (ring_signed w) rings +ℤ pos (total (back (part w)) rings) ≡ pos (total (part w) rings)
rings_signed w h [] = refl
rings_signed w h (ring ∷ rings) = omega (arith, ints, edges_signed w h (ring_edges ring), rings_signed w h rings)

-- over the triangles of a ring it is that of the ring
pub cut_signed : {X : Type 0} (w : X → X → ℤ) → Turns w → (d : X) (places : List ℕ) (ring : List X)
    → AreCorners (length ring) places → signed_sum (ring_signed w) (cut d places ring) ≡ ring_signed w ring
cut_signed w h d places ring c = omega (
  arith,
  ints,
  rings_signed w h (cut d places ring),
  edges_signed w h (ring_edges ring),
  cut_total (part w) d places ring c,
)
