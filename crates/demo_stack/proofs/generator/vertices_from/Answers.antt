use Rattle.std.proofs.Common.{◌≡◌, ℕ, ◌+◌, ap, ◌∙◌, map, subst, arith, to_z-of_z}
use Rattle.std.specs.List.{range_with_len, AllByRecursion}
use Rattle.fku_types.specs.declared.points.Point.{Point}
use Rattle.section_core.specs.Views.{spot_of}
use Rattle.demo_stack.specs.Demo.{state_after, demo_spot}
use Rattle.demo_stack.proofs.Runs.{all_more, map_more, state_more, state_same}
use Rattle.demo_stack.proofs.generator.vertices_from.Goals as goal

pub loop-index-preserved : goal.loop-index-preserved
loop-index-preserved c =
    let i = c.loop-index.invariant in
    let f = c.ranges.z in
    let level : c.vertex.result.z ≡ c.args.z = simp to_z-of_z at c.vertex.ensures.level in
    let levels : AllByRecursion (λ (p : Point). p.z ≡ c.args.z) c.loop-index.points.items = simp to_z-of_z at i.level in
    let gone = λ (seed n : ℕ) (h : c.args.state.now ≡ state_after seed n).
    state_more seed n c.loop-index.index c.loop-index.state c.next.result c.next.ensures.next (i.state seed n h) in
    let spot = λ (seed n : ℕ) (h : c.args.state.now ≡ state_after seed n). c.vertex.ensures.spot
    ∙ ap (λ (s : ℕ). demo_spot s c.args.vertices c.loop-index.index)
    (state_same seed n c.loop-index.index c.next.result (gone seed n h)) in
    record {
      range = c.next.ensures.range;
      level = simp to_z-of_z (all_more (λ (p : Point). p.z ≡ c.args.z) c.loop-index.points.items c.push.new.self.items
          c.vertex.result c.in_ok-push.ensures.items levels level);
      state = gone;
      spots = λ seed n h. map_more spot_of (λ t. demo_spot (state_after seed (n + t + 1)) c.args.vertices t)
          c.loop-index.points.items c.push.new.self.items c.vertex.result c.loop-index.index c.in_ok-push.ensures.items
          (i.spots seed n h) (spot seed n h);
    }

pub returns : goal.returns
returns c =
    let i = c.loop-index.invariant in
    let points = c.loop-index.points.items in
    let all : c.loop-index.index ≡ c.args.vertices = omega (arith, c.loop-index-test.false, c.loop-index.auto) in
    let f = c.ranges.z in
    let level : AllByRecursion (λ (p : Point). p.z ≡ c.args.z) points = simp to_z-of_z at i.level in
    record {
      spots = λ seed n h. subst (λ (k : ℕ). map spot_of points
          ≡ map (λ t. demo_spot (state_after seed (n + t + 1)) c.args.vertices t) (range_with_len 0 k)) all
          (i.spots seed n h);
      level = level;
      state = λ seed n h. subst (λ (k : ℕ). c.loop-index.state ≡ state_after seed (n + k)) all (i.state seed n h);
      range = i.range;
    }
