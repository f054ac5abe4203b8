use Rattle.std.proofs.Common.{◌≡◌, ◌+◌, ◌-◌, ◌<◌, ◌≤◌, length, ap, subst, ◌∙◌, arith}
use Rattle.plane_geom.specs.Rings.{around}
use Rattle.correspondence.specs.Bounding.{LiesWithin}
use Rattle.correspondence.proofs.BlockLaws.{with_end, within_part}
use Rattle.correspondence.proofs.blocks.Block.of.Goals as goal

pub returns-clause-block : goal.returns-clause-block
returns-clause-block c =
    let ring = c.args.ring.now in
    let begin = c.args.begin in
    let end = c.min-end.result in
    let bounds = c.with-bounds.result in
    let some : begin < end = omega (arith, c.min-end.ensures, c.requires.within, c.requires.some) in
    let within : end ≤ length ring = omega (arith, c.min-end.ensures) in
    let last : (end - 1) + 1 ≡ end = omega arith in
    record {
      some = some;
      within = within;
      enclosed = with_end (λ k. LiesWithin bounds (around ring k)) begin end
          (λ k from to. c.with-bounds.ensures.kept (around ring k)
          (within_part c.of.result ring begin end within c.of.ensures k from to))
          (subst (LiesWithin bounds) (c.edge_end.ensures.value ∙ ap (around ring) last) c.with-bounds.ensures.added);
    }
