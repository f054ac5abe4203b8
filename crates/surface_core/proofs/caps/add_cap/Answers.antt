use Rattle.std.proofs.Common.{arith}
use Rattle.surface_core.proofs.CapSteps.{folded_few}
use Rattle.surface_core.proofs.caps.add_cap.Goals as goal

pub append-requires : goal.append-requires
append-requires c = omega (
  arith,
  folded_few c.args.ring.now.points.items c.requires.contour.enough,
  c.requires.contour.few,
  c.in_ok-more.ensures.folded,
  c.requires.folded,
)

pub returns-clause-small : goal.returns-clause-small
returns-clause-small c =
    omega (
      arith,
      folded_few c.args.ring.now.points.items c.requires.contour.enough,
      c.requires.contour.few,
      c.in_ok-more.ensures.folded,
      c.in_ok-append.ensures.folded,
    )
