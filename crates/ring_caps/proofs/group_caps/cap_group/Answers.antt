use Rattle.std.proofs.Common.{ap, ◌∙◌, arith}
use Rattle.plane_geom.specs.Rings.{RingView}
use Rattle.plane_geom.specs.RingViews.{ring_views}
use Rattle.ring_polygons.proofs.Joining.{views, some_views}
use Rattle.ring_polygons.specs.declared.twins.Twins.TheVariants.{Pass}
use Rattle.ring_polygons.specs.Caps.{cap_by, area_of}
use Rattle.ring_caps.proofs.GroupLaws.{group_area, group_sides, folded_short}
use Rattle.ring_caps.proofs.group_caps.cap_group.Goals as goal

pub returns-clause-area : goal.returns-clause-area
returns-clause-area c =
    let rings = c.args.rings.items in
    group_sides (ring_views rings) (views rings c.requires.contours) (some_views rings c.requires.some)

pub returns-clause-numbered_area : goal.returns-clause-numbered_area
returns-clause-numbered_area c vertices numbered =
    let rings = c.args.rings.items in
    ap (area_of vertices) (c.in_ok-list.ensures.triangles
    ∙ ap (λ (r : RingView). cap_by Pass r.points r.ids) c.in_ok-ring.ensures.value)
    ∙ group_area vertices (ring_views rings) (views rings c.requires.contours) (some_views rings c.requires.some)
    numbered

pub returns-clause-small : goal.returns-clause-small
returns-clause-small c =
    let ring = c.in_ok-ring.ensures.ring in
    omega (arith, c.in_ok-list.ensures.folded, folded_short Pass c.in_ok-ring.ring.points.items ring.enough, ring.few)
