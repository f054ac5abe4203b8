use Rattle.std.proofs.Common.{arith, ◌≡◌, ℕ, List, set, inl, inr, ap, sym, ◌∙◌, subst}
use Rattle.std.proofs.lemmas.Bool.{cases_lt}
use Rattle.std.proofs.lemmas.List.{get_or-set_same, get_or-set_other, length-set}
use Rattle.fku_types.specs.declared.points.Point.{Point}
use Rattle.plane_geom.specs.Rings.{RingView}
use Rattle.plane_geom.specs.declared.ring.Ring.{Ring}
use Rattle.plane_geom.specs.RingViews.{ring_view, ring_views}
use Rattle.ring_polygons.specs.declared.bridges.Near.{Near}
use Rattle.ring_polygons.specs.Composites.{view_at}
use Rattle.ring_polygons.specs.Nearest.{IsNearest, near_at}
use Rattle.ring_polygons.proofs.Nearest.{view_read}
use Rattle.ring_polygons.proofs.bridges.renew.Goals as goal

abbrev none : Near
none = record { square = 0; place = 0; vertex = 0 }

pub loop-c-preserved : goal.loop-c-preserved
loop-c-preserved c =
    let nears = c.loop-c.nears in
    let k = c.loop-c.c in
    let v = c.loop-c.invariant in
    let near : Near = c.renewed.result in
    let here : near_at (set nears k near) k ≡ near = get_or-set_same nears k near none (omega (arith, v.same)) in
    let there : (i : ℕ) → (i ≡ k → ⊥) → near_at (set nears k near) i ≡ near_at nears i =
    λ i ne. get_or-set_other nears k i near none ne in
    let at : view_at (ring_views c.args.others.now) k ≡ ring_view c.index-others-c.result =
    view_read c.args.others.now k c.index-others-c.result c.loop-c-test.true c.index-others-c.is in
    let points : c.deref.result.now ≡ (view_at (ring_views c.args.others.now) k).points = c.deref.ensures.value
    ∙ ap (λ (r : Ring). r.points.items) (sym c.index-others-c.is) ∙ ap (λ (l : RingView). l.points) (sym at) in
    record {
      same = length-set nears k near ∙ v.same;
      done = λ i before l n h. elim (cases_lt i k) [
        | inl lt ↦ subst (IsNearest c.args.after.now (view_at (ring_views c.args.others.now) i).points)
            (sym (there i (omega arith))) (v.done i before lt n h)
        | inr ge ↦ (let e : i ≡ k = omega arith in
            let n_here : IsNearest before (view_at (ring_views c.args.others.now) k).points (near_at nears k) =
            subst (IsNearest before (view_at (ring_views c.args.others.now) k).points) (sym (v.rest k (omega arith)))
            (subst (λ (j : ℕ). IsNearest before (view_at (ring_views c.args.others.now) j).points
            (near_at c.args.nears.now j)) e n) in
            let given = subst (λ (l : List Point). IsNearest before l (near_at nears k)) (sym points) n_here in
            let new = subst (λ (l : List Point). IsNearest c.args.after.now l near) points
            (c.renewed.ensures before given h) in
            subst (λ (j : ℕ). IsNearest c.args.after.now (view_at (ring_views c.args.others.now) j).points
            (near_at (set nears k near) j)) (sym e)
            (subst (IsNearest c.args.after.now (view_at (ring_views c.args.others.now) k).points) (sym here) new))
      ];
      rest = λ i l. there i (omega arith) ∙ v.rest i (omega arith);
    }
