-- The edges that caps leave over.
use Rattle.std.proofs.Common.{◌≡◌, ℕ, zero, suc, ◌+◌, ◌-◌, ◌<◌, ◌≤◌, inl, inr, Bool, List, [], ◌∷◌, length, remove, find, Option, Some, ap, arith, subst, ℤ}
use Rattle.std.specs.List.{range_with_len, AllByRecursion}
use Rattle.std.specs.Prelude.{unwrap_or}
use Rattle.std.proofs.lemmas.Bool.{cases_Bool, cond-true, cond-false}
use Rattle.std.proofs.lemmas.List.Edits.{length-remove}
use Rattle.fku_types.specs.declared.points.Point.{Point}
use Rattle.ring_polygons.specs.declared.faces.Face.{Face}
use Rattle.ring_polygons.specs.declared.faces.Face.TheVariants.{Below, Above}
use Rattle.ring_polygons.specs.declared.twins.Twins.{Twins}
use Rattle.ring_polygons.specs.declared.twins.Twins.TheVariants.{Hinder}
use Rattle.ring_polygons.specs.Caps.{sign_of, is_ear, ear_place, ear_places, places_by, cap_by, cap_places, top_cap, turned_over, cap_on, LeavesRing}
use Rattle.plane_geom.proofs.Sums.{ring_sum, total, back}
use Rattle.plane_geom.proofs.Counts.{leaves_over}
use Rattle.ring_polygons.proofs.CutLaws.{AreCorners, cut_total, HasThree, cut_three}
use Rattle.ring_polygons.proofs.Turned.{turned_total}

-- the first number of a range that passes a test, or else 0, is below the end of the range
pub found_below : (test : ℕ → Bool) (a n : ℕ) → 0 < a + n → unwrap_or (find test (range_with_len a n)) 0 < a + n
found_below test a zero h = h
found_below test a (suc n) h =
    elim (cases_Bool (test a)) [
      | inl t ↦ omega (
        arith,
        ap (λ (o : Option ℕ). unwrap_or o 0)
            (cond-true {A = Option ℕ} (test a) (Some a) (find test (range_with_len (a + 1) n)) t),
      )
      | inr t ↦ omega (
        arith,
        ap (λ (o : Option ℕ). unwrap_or o 0)
            (cond-false {A = Option ℕ} (test a) (Some a) (find test (range_with_len (a + 1) n)) t),
        found_below test (a + 1) n (omega arith),
      )
    ]

pub ear_place_below : (twins : Twins) (sign : ℤ) (ring : List Point) → 0 < length ring
    → ear_place twins sign ring < length ring
ear_place_below twins sign ring h = omega (arith, found_below (is_ear twins sign ring) 0 (length ring) (omega arith))

ears_are_corners : (twins : Twins) (sign : ℤ) (n : ℕ) (ring : List Point) → length ring ≡ n + 3
    → AreCorners (length ring) (ear_places twins sign n ring)
ears_are_corners twins sign zero ring h = omega (arith, h)
ears_are_corners twins sign (suc n) ring h =
    let t : ℕ = ear_place twins sign ring in
    let below : t < length ring = ear_place_below twins sign ring (omega (arith, h)) in
    let size : length (remove ring t) ≡ length ring - 1 = omega (arith, length-remove ring t below) in (
      below,
      omega (arith, h),
      subst (λ (k : ℕ). AreCorners k (ear_places twins sign n (remove ring t))) size
          (ears_are_corners twins sign n (remove ring t) (omega (arith, size, h))),
    )

pub corners_by : (twins : Twins) (ring : List Point) → 3 ≤ length ring → AreCorners (length ring) (places_by twins ring)
unfolding places_by
corners_by twins ring h = ears_are_corners twins (sign_of ring) (length ring - 3) ring (omega arith)

pub corners_by_of : (twins : Twins) (ring : List Point) (ids : List ℕ) → 3 ≤ length ids → length ring ≡ length ids
    → AreCorners (length ids) (places_by twins ring)
corners_by_of twins ring ids h e =
    subst (λ (k : ℕ). AreCorners k (places_by twins ring)) e (corners_by twins ring (omega (arith, e)))

pub cap_corners : (ring : List Point) → 3 ≤ length ring → AreCorners (length ring) (cap_places ring)
cap_corners ring h = corners_by Hinder ring h

pub cap_corners_of : (ring : List Point) (ids : List ℕ) → 3 ≤ length ids → length ring ≡ length ids
    → AreCorners (length ids) (cap_places ring)
cap_corners_of ring ids h e = corners_by_of Hinder ring ids h e

pub cap_three : (ring : List Point) (ids : List ℕ) → 3 ≤ length ids → length ring ≡ length ids
    → AllByRecursion HasThree (top_cap ring ids)
cap_three ring ids h e = cut_three 0 (cap_places ring) ids (cap_corners_of ring ids h e)

-- a cap leaves over its ring forwards
pub by_total : (f : ℕ → ℕ → ℕ) (twins : Twins) (ring : List Point) (ids : List ℕ) → 3 ≤ length ids
    → length ring ≡ length ids →
    total f (cap_by twins ring ids) + ring_sum (back f) ids ≡ total (back f) (cap_by twins ring ids) + ring_sum f ids
by_total f twins ring ids h e = cut_total f 0 (places_by twins ring) ids (corners_by_of twins ring ids h e)

pub top_total : (f : ℕ → ℕ → ℕ) (ring : List Point) (ids : List ℕ) → 3 ≤ length ids → length ring ≡ length ids →
    total f (top_cap ring ids) + ring_sum (back f) ids ≡ total (back f) (top_cap ring ids) + ring_sum f ids
top_total f ring ids h e = by_total f Hinder ring ids h e

-- on a face it leaves over its ring, in the direction of the face
pub face_total : (face : Face) (ring : List Point) (ids : List ℕ) → 3 ≤ length ids → length ring ≡ length ids
    → LeavesRing face (cap_on face ring ids) ids
face_total Below ring ids h e =
    let ts : List (List ℕ) = top_cap ring ids in
    let three = cap_three ring ids h e in
    leaves_over (turned_over ts) [] (ids ∷ [])
    (λ f. omega (arith, top_total f ring ids h e, turned_total f ts three, turned_total (back f) ts three))
face_total Above ring ids h e = leaves_over (top_cap ring ids) (ids ∷ []) []
    (λ f. omega (arith, top_total f ring ids h e))
