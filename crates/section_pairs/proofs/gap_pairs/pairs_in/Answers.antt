use Rattle.std.proofs.Common.{◌+◌, arith}
use Rattle.section_pairs.proofs.gap_pairs.pairs_in.Goals as goal

pub loop-gap-preserved : goal.loop-gap-preserved
loop-gap-preserved c =
    let g = c.loop-gap.gap in
    record {
      first = omega (arith, c.loop-gap.invariant.first, c.vertices_at-first.ensures.next);
      rings = c.in_ok-high.ensures.rings;
      limits = c.in_ok-high.ensures.limits;
      found = c.joined-found.ensures c.args.sections.now c.args.begin g (g + 1) c.loop-gap.invariant.found
          c.composed_gap-more.ensures;
    }
