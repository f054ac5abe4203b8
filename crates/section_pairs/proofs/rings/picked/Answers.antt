use Rattle.std.proofs.Common.{ℕ, ◌<◌, length, get_or, ◌∙◌, ap}
use Rattle.std.proofs.lemmas.List.{take_all}
use Rattle.std.proofs.lemmas.List.Elements.{All-from_recursion}
use Rattle.plane_geom.specs.RingViews.{ring_views}
use Rattle.section_pairs.specs.Rings.{pick}
use Rattle.section_pairs.proofs.PickSteps.{picked_next, contours_next}
use Rattle.section_pairs.proofs.rings.picked.Goals as goal

pub loop-place-preserved : goal.loop-place-preserved
loop-place-preserved c =
    let rings = c.args.rings.now in
    let places = c.args.places.now in
    let i = c.loop-place.place-index in
    let there : get_or places i 0 < length rings =
    All-from_recursion (λ (k : ℕ). k < length rings) places c.requires.places i 0 c.loop-place-test.true in
    record {
      views = picked_next rings places i _ _ c.index-rings-place.result c.in_ok-copy.copy c.loop-place-test.true there
          c.index-rings-place.is c.loop-place.invariant.views c.in_ok-copy.ensures c.in_ok-push.ensures.items;
      contours = contours_next rings _ _ (get_or places i 0) c.index-rings-place.result c.in_ok-copy.copy there
          c.index-rings-place.is c.requires.rings c.loop-place.invariant.contours c.in_ok-copy.ensures
          c.in_ok-push.ensures.items;
    }

pub returns : goal.returns
returns c = record {
  views = c.loop-place.invariant.views
      ∙ ap (pick (ring_views c.args.rings.now))
      (take_all c.loop-place.place-index c.args.places.now c.loop-place-test.false);
  contours = c.loop-place.invariant.contours;
}

pub bounds-rings-place : goal.bounds-rings-place
bounds-rings-place c = All-from_recursion (λ (k : ℕ). k < length c.args.rings.now) c.args.places.now c.requires.places
    c.loop-place.place-index 0 c.loop-place-test.true
