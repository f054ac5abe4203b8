use Rattle.std.proofs.Common.{◌≡◌, ◌≤◌, ◌∙◌, ap, take, length, arith, sym, subst, nat_abs, to_z-of_z, ℕ, List, map, All}
use Rattle.std.proofs.lemmas.Int.{ints}
use Rattle.std.proofs.lemmas.List.Elements.{All-take}
use Rattle.std.proofs.lemmas.List.Filters.{All-dedup}
use Rattle.std.specs.List.{dedup}
use Rattle.fku_types.specs.declared.points.Spot.{Spot}
use Rattle.section_slices.specs.Roundings.{is_same_spot, opened_loop, rounded_spot, IsCloseToOne, IsRoundedInRange}
use Rattle.section_slices.proofs.RoundedLoops.{close_spots, some_spot}
use Rattle.section_slices.proofs.rounding.round_loop.Goals as goal

pub returns-clause-spots : goal.returns-clause-spots
returns-clause-spots c =
    let left : c.drop_repeats.new.spots.items ≡ dedup is_same_spot c.in_ok-spots.spots.items = c.drop_repeats.ensures in
    c.truncate.ensures.items ∙ ap (take c.opened_count-count.result) (sym c.deref.ensures.value)
    ∙ c.opened_count-count.ensures ∙ ap opened_loop
    (c.deref.ensures.value ∙ left ∙ ap (dedup is_same_spot) c.in_ok-spots.ensures.value)
    ∙ ap (λ (d : ℕ). opened_loop (dedup is_same_spot (map (rounded_spot d) c.args.points.now)))
    (ap nat_abs (to_z-of_z c.ranges.den))

-- what holds of all rounded points holds of those that are left
left : (P : Spot → Type 0) (all most kept : List Spot) (n : ℕ) → All P all → most ≡ dedup is_same_spot all
    → kept ≡ take n most → All P kept
left P all most kept n h e f = subst (All P) (sym (f ∙ ap (take n) e))
    (All-take P n (dedup is_same_spot all) (All-dedup is_same_spot P all h))

pub returns-clause-range : goal.returns-clause-range
returns-clause-range c =
    left IsRoundedInRange c.in_ok-spots.spots.items c.drop_repeats.new.spots.items c.truncate.new.self.items
    c.opened_count-count.result c.in_ok-spots.ensures.range
    c.drop_repeats.ensures c.truncate.ensures.items

pub returns-clause-close : goal.returns-clause-close
returns-clause-close c =
    let den = c.args.den in
    let points = c.args.points.now in
    let e : c.in_ok-spots.spots.items ≡ map (rounded_spot (nat_abs den)) points = c.in_ok-spots.ensures.value
    ∙ ap (λ (d : ℕ). map (rounded_spot d) points) (ap nat_abs (to_z-of_z c.ranges.den)) in
    let h : 1 ≤ nat_abs den = omega (arith, ints, c.requires.some) in
    left (IsCloseToOne (nat_abs den) points) c.in_ok-spots.spots.items c.drop_repeats.new.spots.items
    c.truncate.new.self.items c.opened_count-count.result
    (subst (All (IsCloseToOne (nat_abs den) points)) (sym e) (close_spots (nat_abs den) points h))
    c.drop_repeats.ensures c.truncate.ensures.items

pub returns-clause-some : goal.returns-clause-some
returns-clause-some c = omega (
  arith,
  ap length (returns-clause-spots c),
  some_spot (nat_abs c.args.den) c.args.points.now c.requires.some_point,
)
