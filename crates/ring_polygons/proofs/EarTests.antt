-- The test of an ear, step by step.
use Rattle.std.proofs.Common.{subst, ◌≡◌, ℕ, ◌+◌, ◌-◌, ◌%◌, ◌<◌, ◌==◌, ◌&&◌, ◌||◌, not, Bool, true, false, List, length, slice_index_or, ℤ, pos, ◌*ℤ◌, int_lt, arith}
use Rattle.std.specs.List.{list_all, range_with_len}
use Rattle.std.proofs.lemmas.Bool.{and_from, and_left, and_right, not_from_true, not_from_false}
use Rattle.fku_types.specs.declared.points.Point.{Point}
use Rattle.plane_geom.specs.Rings.{origin, item_around}
use Rattle.plane_geom.specs.Planes.{side_of}
use Rattle.ring_polygons.specs.declared.twins.Twins.{Twins}
use Rattle.ring_polygons.specs.Caps.{corner, pass, is_within, is_twin, hinders, is_ear}
use Rattle.ring_polygons.proofs.Ranges.{all_pass, one_fails}

abbrev along : ℤ → List Point → ℕ → Bool
along s ring t = int_lt (pos 0) (s *ℤ side_of (corner origin ring t))

abbrev free : Twins → ℤ → List Point → ℕ → ℕ → Bool
free w s ring t k = not (hinders w s ring t k)

-- a corner that does not turn as the ring does
pub not_along : (w : Twins) (s : ℤ) (ring : List Point) (t : ℕ)
    → int_lt (pos 0) (s *ℤ side_of (corner origin ring t)) ≡ false → is_ear w s ring t ≡ false
unfolding is_ear
not_along w s ring t h = and_left (along s ring t) (list_all (free w s ring t) (range_with_len 0 (length ring))) h

-- a corner that a vertex blocks
pub hindered : (w : Twins) (s : ℤ) (ring : List Point) (t k : ℕ) → k < length ring → hinders w s ring t k ≡ true
    → is_ear w s ring t ≡ false
unfolding is_ear
hindered w s ring t k l h =
    and_right (along s ring t) (list_all (free w s ring t) (range_with_len 0 (length ring)))
    (one_fails (free w s ring t) 0 (length ring) k (omega arith) (omega arith) (not_from_true (hinders w s ring t k) h))

-- a corner that turns as the ring does and that no vertex blocks
pub unhindered : (w : Twins) (s : ℤ) (ring : List Point) (t : ℕ)
    → int_lt (pos 0) (s *ℤ side_of (corner origin ring t)) ≡ true
    → ((k : ℕ) → k < length ring → hinders w s ring t k ≡ false) → is_ear w s ring t ≡ true
unfolding is_ear
unhindered w s ring t h none =
    and_from (along s ring t) (list_all (free w s ring t) (range_with_len 0 (length ring))) h
    (all_pass (free w s ring t) 0 (length ring) (λ k l r. not_from_false (hinders w s ring t k) (none k (omega arith))))

-- a vertex outside the triangle of a corner, whose neighbours stand at these places
pub outside : (w : Twins) (s : ℤ) (ring : List Point) (t b a k : ℕ) → b ≡ (t + length ring - 1) % length ring
    → a ≡ (t + 1) % length ring → is_within s (slice_index_or ring b origin) (slice_index_or ring t origin)
    (slice_index_or ring a origin) (slice_index_or ring k origin) ≡ false → hinders w s ring t k ≡ false
outside w s ring t b a k e f h =
    let at = slice_index_or ring t origin in
    let vertex = slice_index_or ring k origin in
    let turned = subst (λ x. is_within s (slice_index_or ring x origin) at (slice_index_or ring a origin) vertex
    ≡ false) e h in
    let placed = subst (λ x. is_within s (item_around origin ring (t + length ring - 1)) at
    (slice_index_or ring x origin) vertex ≡ false) f turned in
    let other = not ((k == (t + length ring - 1) % length ring) || (k == t) || (k == (t + 1) % length ring)) in
    let within = is_within s (item_around origin ring (t + length ring - 1)) at (item_around origin ring (t + 1)) vertex
    in
    and_left (other && within) (not (pass w && is_twin ring t k)) (and_right other within placed)
