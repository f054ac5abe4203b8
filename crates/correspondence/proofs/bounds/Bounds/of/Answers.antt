use Rattle.std.proofs.Common.{ℕ, slice_index_or, subst}
use Rattle.std.proofs.lemmas.List.{get_or_default}
use Rattle.plane_geom.specs.Rings.{origin}
use borrow.Author.Count.{below_more}
use Rattle.fku_types.specs.declared.points.Point.{Point}
use Rattle.correspondence.specs.Bounding.{LiesWithin}
use Rattle.correspondence.proofs.bounds.Bounds.of.Goals as goal

pub loop-p-preserved : goal.loop-p-preserved
loop-p-preserved c k d h = below_more
    (λ (k : ℕ). (d : Point) → LiesWithin c.with-bounds.result (slice_index_or c.args.points.now k d)) c.loop-p.p-index
    (λ k l d. c.with-bounds.ensures.kept _ (c.loop-p.invariant k d l))
    (λ d. subst (LiesWithin c.with-bounds.result)
    (get_or_default c.args.points.now c.loop-p.p-index origin d c.loop-p-test.true) c.with-bounds.ensures.added) k h d
