use Rattle.std.proofs.Common.{◌≡◌, inl, inr, false, true, List}
use Rattle.fku_types.specs.declared.points.Point.{Point}
use Rattle.plane_geom.specs.Nesting.{Inside}
use Rattle.plane_geom.specs.Rings.{origin}
use Rattle.correspondence.specs.Apart.{Touch}
use Rattle.correspondence.specs.Contours.{first_point}
use Rattle.correspondence.specs.Overlaps.{Overlap}
use Rattle.correspondence.proofs.overlaps.overlap_within.Goals as goal

not_overlapping : (one other : List Point) → (Touch one other → ⊥) → (Inside (first_point one) other → ⊥)
    → (Inside (first_point other) one → ⊥) → Overlap one other → ⊥
not_overlapping one other f g h (inl t) = f t
not_overlapping one other f g h (inr (inl i)) = g i
not_overlapping one other f g h (inr (inr i)) = h i

pub returns-then-lie_apart : goal.returns-then-lie_apart
returns-then-lie_apart c =
    let t = c.if-lie_apart.true in
    let one = c.args.one.now in
    let other = c.args.other.now in
    let own = c.requires.one_bounds 0 origin c.requires.some.0 in
    let next = c.requires.other_bounds 0 origin c.requires.some.1 in
    let apart = not_overlapping one other
    (c.lie_apart.ensures.touch t one other c.requires.one_bounds c.requires.other_bounds)
    (c.lie_apart.ensures.inside t (first_point one) other own c.requires.other_bounds)
    (c.lie_apart.ensures.other_inside t (first_point other) one next c.requires.one_bounds) in
    (λ n. absurd (let k : false ≡ true = n in cc), λ w. absurd (apart w))
