use Rattle.std.proofs.Common.{arith, ◌≡◌, ◌<◌, ℕ, suc, ap, sym, ◌∙◌, length, List, All, remove, take, drop, ◌++◌, subst, inl, inr, ◌+◌}
use Rattle.std.proofs.lemmas.Bool.{cases_lt}
use Rattle.std.proofs.lemmas.List.{length-map}
use Rattle.std.proofs.lemmas.List.Edits.{length-remove, get_or-remove_below, get_or-remove_above}
use Rattle.fku_types.specs.declared.points.Point.{Point}
use Rattle.fku_types.specs.Points.{IsInRange}
use Rattle.plane_geom.specs.declared.ring.Ring.{Ring}
use Rattle.plane_geom.specs.Rings.{RingView}
use Rattle.plane_geom.specs.RingViews.{ring_view, ring_views, IsContour}
use Rattle.ring_polygons.specs.declared.bridges.Near.{Near}
use Rattle.ring_polygons.specs.Composites.{Bridge, join, join_others}
use Rattle.ring_polygons.specs.Nearest.{near_at, AreNearest, IsExtended}
use Rattle.ring_polygons.proofs.BridgeLaws.{join-length}
use Rattle.ring_polygons.proofs.NearestLaws.{nearest_remove}
use Rattle.ring_polygons.proofs.Choices.{Choice, choice, extended}
use Rattle.ring_polygons.proofs.Joining.{joins_all, joins_on, views_remove, join_range}
use Rattle.std.proofs.lemmas.Grind.{common_steps}
use Rattle.ring_polygons.proofs.composing.join_all.Goals as goal
use Rattle.ring_polygons.proofs.composing.join_all.Goals.{After-remove-other, After-deref-in-joining-3}

-- rings without one of them
rest_contours : (rings rest : List Ring) (i : ℕ) → i < length rings → rest ≡ remove rings i → All IsContour rings
    → All IsContour rest
rest_contours rings rest i l e h = subst (All IsContour) (sym e) (λ k d b. elim (cases_lt k i) [
  | inl lt ↦ rw get_or-remove_below (h k d (omega arith))
  | inr ge ↦ rw get_or-remove_above (h (k + 1) d (omega (arith, length-remove rings i l)))
])

-- the ring that is joined next
chosen_of : (c : After-remove-other)
    → Choice c.joining.ring c.remove-other.result c.joining.others.items c.first_of-first.result c.remove-near.result
chosen_of c = choice c.joining.ring c.remove-other.result c.joining.others.items c.joining.nears.items
    c.deref-in-joining.result.now c.first_of-first.result c.remove-near.result c.joining.invariant.contours
    c.joining.invariant.enough c.joining.invariant.nearest c.deref-in-joining.ensures.value c.first_of-first.ensures
    c.remove-near.ensures.value c.remove-other.ensures.value

-- the points of the joined ring
points_from : (c : After-deref-in-joining-3)
    → c.deref-in-joining-3.result.now
    ≡ join c.joining.ring.points.items c.remove-other.result.points.items c.remove-near.result.place
    c.remove-near.result.vertex
points_from c = c.deref-in-joining-3.ensures.value ∙ ap (λ (l : RingView). l.points) c.in_ok-ring.ensures

pub joining-init : goal.joining-init
joining-init c =
    let rings = c.args.rings.items in
    let ring = c.remove-ring.result in
    let others = c.remove-ring.new.self.items in
    let contour : IsContour ring = subst IsContour (sym c.remove-ring.ensures.value)
    (c.requires.contours 0 ring c.requires.some) in
    let nears = c.in_ok-nears.nears.items in
    record {
      value = joins_all rings ring others c.requires.some c.remove-ring.ensures.value c.remove-ring.ensures.items;
      contours = rest_contours rings others 0 c.requires.some c.remove-ring.ensures.items c.requires.contours;
      range = contour.in_range;
      enough = contour.enough;
      nearest = subst (λ (l : List Point). AreNearest l (ring_views others) nears) c.deref.ensures.value
          (subst (λ (l : List Ring). AreNearest c.deref.result.now (ring_views l) nears) c.deref-2.ensures.value
          c.in_ok-nears.ensures);
    }

pub first_of-first-requires : goal.first_of-first-requires
first_of-first-requires c = omega (
  arith,
  ap length c.deref-in-joining.ensures.value,
  c.joining.invariant.nearest.same,
  length-map c.joining.others.items ring_view,
  c.joining.others.ok.0,
  c.len.ensures,
  c.joining-test.true,
)

pub remove-other-requires : goal.remove-other-requires
remove-other-requires c = omega (
  arith,
  c.first_of-first.ensures.there,
  ap length c.deref-in-joining.ensures.value,
  c.joining.invariant.nearest.same,
  length-map c.joining.others.items ring_view,
  c.joining.others.ok.0,
)

pub renew-requires-clause-same : goal.renew-requires-clause-same
renew-requires-clause-same c =
    let others = c.joining.others.items in
    let nears = c.joining.nears.items in
    let k = c.first_of-first.result in
    let same : length nears ≡ length others =
    omega (arith, c.joining.invariant.nearest.same, length-map others ring_view) in
    let there : k < length others = omega
    (arith, c.first_of-first.ensures.there, ap length c.deref-in-joining.ensures.value, same) in
    omega (
      arith,
      same,
      ap length (c.deref_mut.ensures.value ∙ c.remove-near.ensures.items),
      ap length (c.deref-in-joining-2.ensures.value ∙ c.remove-other.ensures.items),
      length-remove nears k (omega (arith, there, same)),
      length-remove others k there,
    )

pub joined-requires-clause-place : goal.joined-requires-clause-place
joined-requires-clause-place c = (chosen_of (goal.at.joined-requires-clause-place c).After-remove-other).nearest.place

pub joined-requires-clause-vertex : goal.joined-requires-clause-vertex
joined-requires-clause-vertex c = (chosen_of
    (goal.at.joined-requires-clause-vertex c).After-remove-other).nearest.vertex

pub renew-requires-clause-range : goal.renew-requires-clause-range
renew-requires-clause-range c =
    let ring = c.joining.ring in
    let other = c.remove-other.result in
    let near = c.remove-near.result in
    let chosen = chosen_of (goal.at.renew-requires-clause-range c).After-remove-other in
    let points = points_from (goal.at.renew-requires-clause-range c).After-deref-in-joining-3 in
    subst (All IsInRange) (sym points)
    (join_range ring.points.items other.points.items near.place near.vertex c.joining.invariant.range
    chosen.contour.in_range)

pub renew-requires-clause-room : goal.renew-requires-clause-room
renew-requires-clause-room c =
    let ring = c.joining.ring in
    let other = c.remove-other.result in
    let near = c.remove-near.result in
    let chosen = chosen_of (goal.at.renew-requires-clause-room c).After-remove-other in
    let points = points_from (goal.at.renew-requires-clause-room c).After-deref-in-joining-3 in
    omega (
      arith,
      ap length points,
      join-length ring.points.items other.points.items near.place near.vertex
          chosen.nearest.place chosen.nearest.vertex,
      chosen.nearest.place,
    )

pub renew-requires-clause-nears : goal.renew-requires-clause-nears
renew-requires-clause-nears c i l =
    let ring = c.joining.ring in
    let other = c.remove-other.result in
    let near = c.remove-near.result in
    let others = ring_views c.joining.others.items in
    let nears = c.joining.nears.items in
    let k = c.first_of-first.result in
    let chosen = chosen_of (goal.at.renew-requires-clause-nears c).After-remove-other in
    let points = points_from (goal.at.renew-requires-clause-nears c).After-deref-in-joining-3 in
    let rest = nearest_remove ring.points.items others nears k
    (omega (arith, chosen.there, length-map c.joining.others.items ring_view)) c.joining.invariant.nearest in
    let same : c.deref_mut.result.now ≡ remove nears k = c.deref_mut.ensures.value ∙ c.remove-near.ensures.items in
    let low = rest.each i (omega (arith, rest.same, l, ap length same)) in
    omega (
      arith,
      ap length points,
      join-length ring.points.items other.points.items near.place near.vertex
          chosen.nearest.place chosen.nearest.vertex,
      low.place,
      ap (λ (x : List Near). (near_at x i).place) same,
    )

pub joining-preserved : goal.joining-preserved
joining-preserved c =
    let ring = c.joining.ring in
    let others = c.joining.others.items in
    let nears = c.joining.nears.items in
    let rest = c.remove-other.new.self.items in
    let v = c.joining.invariant in
    let k = c.first_of-first.result in
    let near = c.remove-near.result in
    let other = c.remove-other.result in
    let next = c.in_ok-ring.ring in
    let chosen = chosen_of (goal.at.joining-preserved c).After-remove-other in
    let place = sym (ap (λ (x : Bridge). x.place) chosen.bridge) in
    let which = sym (ap (λ (x : Bridge). x.other) chosen.bridge) in
    let vertex = sym (ap (λ (x : Bridge). x.vertex) chosen.bridge) in
    let gone : ring_views rest ≡ remove (ring_views others) k = ap ring_views c.remove-other.ensures.items
    ∙ views_remove others k in
    let size : suc (length rest) ≡ length others =
    omega (arith, ap length c.remove-other.ensures.items, length-remove others k chosen.there) in
    let points : next.points.items ≡ join ring.points.items other.points.items near.place near.vertex =
    ap (λ (l : RingView). l.points) c.in_ok-ring.ensures in
    let left = c.remove-near.new.self in
    let rest_nearest = nearest_remove ring.points.items (ring_views others) nears k
    (omega (arith, chosen.there, length-map others ring_view)) v.nearest in
    let seen = c.deref-in-joining-2.ensures.value in
    let after = c.deref-in-joining-3.ensures.value in
    let given : AreNearest ring.points.items (ring_views c.deref-in-joining-2.result.now) c.deref_mut.result.now =
    subst (AreNearest ring.points.items (ring_views c.deref-in-joining-2.result.now))
    (sym (c.deref_mut.ensures.value ∙ c.remove-near.ensures.items))
    (subst (λ (l : List RingView). AreNearest ring.points.items l (remove nears k)) (sym (ap ring_views seen ∙ gone))
    rest_nearest) in
    let added : c.len-added.result + 2 ≡ length other.points.items + 2 = omega arith in
    let grown : IsExtended ring.points.items c.deref-in-joining-3.result.now near.place (c.len-added.result + 2) =
    subst (λ (l : List Point). IsExtended ring.points.items l near.place (c.len-added.result + 2)) (sym after)
    (extended ring other next near (c.len-added.result + 2) chosen.nearest points added) in
    let renewed : AreNearest next.points.items (ring_views rest) c.renew.new.nears =
    subst (λ (l : List Point). AreNearest l (ring_views rest) c.renew.new.nears) after
    (subst (λ (l : List Ring). AreNearest c.deref-in-joining-3.result.now (ring_views l) c.renew.new.nears) seen
    (c.renew.ensures ring.points.items given grown)) in
    let written : take left.len (c.renew.new.nears ++ drop (length c.renew.new.nears) left.items) ≡ c.renew.new.nears =
    grind (arith, common_steps) in
    record {
      value = joins_on (ring_view ring) (ring_view next) (ring_views others) (ring_views rest) (length rest) near.place
          k near.vertex (ring_view other) place which vertex chosen.read c.in_ok-ring.ensures gone
          ∙ ap (λ (n : ℕ). join_others n (ring_view ring) (ring_views others)) size ∙ v.value;
      contours = rest_contours others rest k chosen.there c.remove-other.ensures.items v.contours;
      range = subst (All IsInRange) (sym points)
          (join_range ring.points.items other.points.items near.place near.vertex v.range chosen.contour.in_range);
      enough = omega (
        arith,
        ap length points,
        join-length ring.points.items other.points.items near.place near.vertex chosen.nearest.place
            chosen.nearest.vertex,
        v.enough,
      );
      nearest = subst (AreNearest next.points.items (ring_views rest)) (sym written) renewed;
    }
