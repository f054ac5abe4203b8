use Rattle.std.proofs.Common.{ℕ, slice_index_or, subst}
use Rattle.std.proofs.lemmas.List.{get_or_default}
use Rattle.plane_geom.specs.Rings.{origin}
use borrow.Author.Count.{below_more}
use Rattle.fku_types.specs.declared.points.Point.{Point}
use Rattle.ring_polygons.specs.Extents.{IsEnclosed}
use Rattle.ring_polygons.proofs.extents.Extent.of.Goals as goal

pub loop-p-preserved : goal.loop-p-preserved
loop-p-preserved c =
    let points = c.args.points.now in
    let extent = c.with-extent.result in
    let here = λ (d : Point). subst (IsEnclosed extent)
    (get_or_default points c.loop-p.p-index origin d c.loop-p-test.true) c.with-extent.ensures.added in
    record {
      extent = c.with-extent.ensures.extent;
      enclosed = λ k d l. below_more (λ (k : ℕ). (d : Point) → IsEnclosed extent (slice_index_or points k d))
          c.loop-p.p-index (λ k l d. c.with-extent.ensures.kept _ (c.loop-p.invariant.enclosed k d l)) here k l d;
    }
