-- What holds of each spot of a rounded loop, and that it has one.
use Rattle.std.proofs.Common.{ℕ, ◌<◌, ◌≤◌, true, false, cond, List, [], ◌∷◌, length, map, get_or, sym, arith, subst, All, pos}
use Rattle.std.specs.List.{dedup_from}
use Rattle.std.proofs.lemmas.List.{get_or-map, length-map}
use Rattle.std.proofs.lemmas.List.Elements.{Contains-get_or}
use Rattle.fku_types.specs.declared.points.Spot.{Spot}
use Rattle.strip_graph.specs.declared.slices.Cut.{Cut}
use Rattle.section_slices.specs.Roundings.{rounded_spot, is_same_spot, opened_loop, rounded_loop, IsCloseToOne}
use Rattle.section_slices.proofs.Rounds.{close}

-- each spot is close to its point
pub close_spots : (d : ℕ) (points : List Cut) → 1 ≤ d → All (IsCloseToOne d points) (map (rounded_spot d) points)
close_spots d points h k e l =
    let none : Cut = record { x = pos 0; y = pos 0 } in
    let there : k < length points = omega (arith, l, length-map points (rounded_spot d)) in
    subst (IsCloseToOne d points) (sym (get_or-map (rounded_spot d) points k none e there))
    (record {
      point = get_or points k none;
      there = Contains-get_or points k none there;
      x =
          close d (get_or points k none).x h;
      y = close d (get_or points k none).y h;
    })

some_kept : (s : Spot) (xs : List Spot) → 0 < length (dedup_from is_same_spot s xs)
some_kept s [] = omega arith
some_kept s (x ∷ xs) = elim (is_same_spot x s) as
    (λ b. 0 < length (cond b (dedup_from is_same_spot s xs) (s ∷ dedup_from is_same_spot x xs)))
    [ true ↦ some_kept s xs | false ↦ omega arith ]

some_opened : (xs : List Spot) → 0 < length xs → 0 < length (opened_loop xs)
some_opened [] h = absurd (omega arith)
some_opened (x ∷ xs) h = omega arith

-- a loop with a point has a spot
pub some_spot : (d : ℕ) (points : List Cut) → 1 ≤ length points → 1 ≤ length (rounded_loop d points)
some_spot d [] h = absurd (omega arith)
some_spot d (c ∷ points) h = omega (
  arith,
  some_opened (dedup_from is_same_spot (rounded_spot d c) (map (rounded_spot d) points))
      (some_kept (rounded_spot d c) (map (rounded_spot d) points)),
)
