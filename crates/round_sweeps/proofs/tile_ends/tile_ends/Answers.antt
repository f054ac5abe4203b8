use Rattle.std.proofs.Common.{length, ap, ◌∙◌, sym, subst, subst₂, arith, to_z, of_z, w32}
use Rattle.fku_types.specs.declared.points.Point.{Point}
use Rattle.fku_types.specs.Points.{IsInRange}
use Rattle.strip_graph.proofs.Bounds.{around-in_range}
use Rattle.round_sweeps.specs.Tiles.{IsTileEnd}
use Rattle.round_sweeps.proofs.TileEndLaws.{last_before, next_before, ends_more}
use Rattle.round_sweeps.proofs.tile_ends.tile_ends.Goals as goal

pub loop-index-init : goal.loop-index-init
loop-index-init c = record {
  before = last_before c.args.ring.now c.requires.ring.enough;
  ends = record { count = ap length c.in_ok-ends.ensures.items; are = λ i d lt. absurd (omega (arith, lt)) };
}

pub tile_end-requires-clause-before : goal.tile_end-requires-clause-before
tile_end-requires-clause-before c =
    subst IsInRange (sym c.loop-index.invariant.before) (around-in_range c.args.ring.now _ c.requires.ring)

pub loop-index-preserved : goal.loop-index-preserved
loop-index-preserved c =
    let z = to_z w32 (of_z w32 c.args.height) in
    let here = c.point_at-here.ensures.value in
    let last = subst₂ (λ (a b : Point). IsTileEnd c.args.turned z a b c.tile_end.result) c.loop-index.invariant.before
    here c.tile_end.ensures in
    record {
      before = here ∙ next_before c.args.ring.now c.loop-index.index c.requires.ring.enough;
      ends = ends_more c.args.turned z c.args.ring.now c.loop-index.index c.loop-index.ends.items c.push.new.self.items
          c.tile_end.result c.loop-index.invariant.ends c.in_ok-push.ensures.items last;
    }
