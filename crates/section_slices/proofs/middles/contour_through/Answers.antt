use Rattle.std.proofs.Common.{refl, subst, to_z-of_z, ℤ}
use Rattle.section_core.specs.Flat.{IsAtHeight}
use Rattle.section_core.proofs.Placed.{placed_parts, placed_level}
use Rattle.section_slices.proofs.middles.contour_through.Goals as goal

pub returns-clause-parts : goal.returns-clause-parts
returns-clause-parts c = placed_parts (record { name = c.args.name; points = c.in_ok-points.points }) c.args.name _
    c.args.outline.now refl c.in_ok-points.ensures

pub returns-clause-level : goal.returns-clause-level
returns-clause-level c =
    subst (λ (z : ℤ). IsAtHeight z (record { name = c.args.name; points = c.in_ok-points.points }))
    (to_z-of_z c.ranges.z)
    (placed_level (record { name = c.args.name; points = c.in_ok-points.points }) _ c.args.outline.now
    c.in_ok-points.ensures)
