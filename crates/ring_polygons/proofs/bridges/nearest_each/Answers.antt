use Rattle.std.proofs.Common.{◌≡◌, ℕ, ◌+◌, List, length, ap, sym, subst, ◌∙◌, arith}
use Rattle.std.proofs.lemmas.List.{length_push, length-map}
use Rattle.fku_types.specs.declared.points.Point.{Point}
use Rattle.fku_types.proofs.LoopSteps.{each_next}
use Rattle.plane_geom.specs.Rings.{RingView}
use Rattle.plane_geom.specs.RingViews.{ring_view, ring_views}
use Rattle.ring_polygons.specs.declared.bridges.Near.{Near}
use Rattle.ring_polygons.specs.Composites.{view_at}
use Rattle.ring_polygons.specs.Nearest.{IsNearest}
use Rattle.ring_polygons.proofs.Nearest.{view_read}
use Rattle.ring_polygons.proofs.bridges.nearest_each.Goals as goal

abbrev none : Near
none = record { square = 0; place = 0; vertex = 0 }

pub loop-other-preserved : goal.loop-other-preserved
loop-other-preserved c =
    let ring = c.args.ring.now in
    let views = ring_views c.args.others.now in
    let i = c.loop-other.other-index in
    let near = c.nearest-near.result in
    let at : view_at views i ≡ ring_view c.other-item.result =
    view_read c.args.others.now i c.other-item.result c.loop-other-test.true c.other-item.is in
    let points : c.deref.result.now ≡ (view_at views i).points = c.deref.ensures.value
    ∙ ap (λ (l : RingView). l.points) (sym at) in
    let here : IsNearest ring (view_at views i).points near =
    subst (λ (l : List Point). IsNearest ring l near) points c.nearest-near.ensures in
    record {
      same = ap length c.in_ok-push.ensures.items ∙ length_push c.loop-other.nears.items near
          ∙ ap (λ (n : ℕ). n + 1) c.loop-other.invariant.same;
      each = each_next (λ (k : ℕ) (n : Near). IsNearest ring (view_at views k).points n) none c.loop-other.nears.items
          c.push.new.self.items i near c.in_ok-push.ensures.items c.loop-other.invariant.same
          c.loop-other.invariant.each here;
    }

pub returns : goal.returns
returns c =
    let all : c.loop-other.other-index ≡ length c.args.others.now =
    omega (arith, c.loop-other-test.false, c.loop-other.auto.other-index-end) in
    let views : length (ring_views c.args.others.now) ≡ length c.args.others.now =
    length-map c.args.others.now ring_view in
    record {
      same = c.loop-other.invariant.same ∙ all ∙ sym views;
      each =
          λ k lt. c.loop-other.invariant.each k (omega (arith, lt, all, views));
    }
