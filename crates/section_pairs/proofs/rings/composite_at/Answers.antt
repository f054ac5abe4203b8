use Rattle.std.proofs.Common.{ℕ, length, List, ap, arith}
use Rattle.plane_geom.specs.Rings.{RingView}
use Rattle.plane_geom.specs.RingViews.{ring_views}
use Rattle.section_pairs.specs.Rings.{pick}
use Rattle.ring_polygons.specs.Composites.{composite}
use Rattle.section_pairs.proofs.FoundCases.{compose_told}
use Rattle.section_pairs.proofs.Picks.{picked_few, picked_some}
use Rattle.section_pairs.proofs.rings.composite_at.Goals as goal

pub composed-requires-clause-few : goal.composed-requires-clause-few
composed-requires-clause-few c = omega (
  arith,
  picked_few c.args.rings.now c.in_ok-picked.picked.items c.args.places.now c.requires.places
      c.in_ok-picked.ensures.views,
  c.requires.rings.few,
)

pub composed-requires-clause-some : goal.composed-requires-clause-some
composed-requires-clause-some c = picked_some c.args.rings.now c.in_ok-picked.picked.items c.args.places.now
    c.requires.places c.in_ok-picked.ensures.views

pub returns-clause-fault : goal.returns-clause-fault
returns-clause-fault c =
    let picked = c.in_ok-picked.picked.items in
    let side : List RingView → ℕ × ℕ = λ rings. (c.args.section, length (composite rings).points) in
    compose_told c.composed.result (side (ring_views picked))
    (side (pick (ring_views c.args.rings.now) c.args.places.now)) (ap side c.in_ok-picked.ensures.views)
    c.composed.ensures.fault
