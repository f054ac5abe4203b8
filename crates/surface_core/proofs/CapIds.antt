-- What holds of each id of the rings of contours holds of each id of their caps.
use Rattle.std.proofs.Common.{ℕ, List, [], ◌∷◌, All}
use Rattle.std.specs.List.{AllByRecursion}
use Rattle.std.proofs.lemmas.List.Elements.{All-append, All-nil}
use Rattle.plane_geom.specs.Rings.{RingView}
use Rattle.ring_polygons.proofs.BridgeLaws.{IsRingView}
use Rattle.ring_polygons.specs.declared.faces.Face.{Face}
use Rattle.ring_polygons.specs.Caps.{top_cap, cap_places}
use Rattle.ring_polygons.proofs.CapLaws.{cap_corners_of}
use Rattle.ring_polygons.proofs.Turned.{cut_all, faced_all}
use Rattle.section_pairs.proofs.RingIds.{EachId}
use Rattle.surface_core.specs.Surfaces.{tops, caps_on}
use Rattle.surface_core.proofs.RingFacts.{tops_three}

pub tops_each : (P : ℕ → Type 0) (rings : List RingView) → AllByRecursion IsRingView rings → EachId P rings
    → All (All P) (tops rings)
tops_each P [] l h = All-nil (All P)
tops_each P (r ∷ rings) l h =
    All-append (All P) (top_cap r.points r.ids) (tops rings)
    (cut_all P 0 (cap_places r.points) r.ids (cap_corners_of r.points r.ids l.0.enough l.0.same) h.0)
    (tops_each P rings l.1 h.1)

pub caps_each : (P : ℕ → Type 0) (face : Face) (rings : List RingView) → AllByRecursion IsRingView rings
    → EachId P rings → All (All P) (caps_on face rings)
caps_each P face rings l h = faced_all P face (tops rings) (tops_three rings l) (tops_each P rings l h)
