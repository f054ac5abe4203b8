-- The edges and the area of the cap of a group of rings.
use Rattle.std.proofs.Common.{◌≡◌, ℕ, zero, suc, ◌+◌, ◌<◌, ◌≤◌, List, [], ◌∷◌, ◌++◌, length, map, get_or, remove, ℤ, pos, ◌+ℤ◌, refl, sym, ap, ap₂, ◌∙◌, arith}
use Rattle.std.specs.List.{AllByRecursion}
use Rattle.std.proofs.lemmas.Int.{ints}
use Rattle.std.proofs.lemmas.List.{map-append}
use Rattle.std.proofs.lemmas.List.Edits.{length-remove}
use Rattle.std.proofs.lemmas.List.Sums.{count_by-le-length}
use Rattle.fku_types.specs.declared.points.Point.{Point}
use Rattle.plane_geom.specs.Rings.{RingView, origin, path_edges, ring_edges}
use Rattle.plane_geom.specs.Planes.{signed_sum, side_of, edge_turn, turns}
use Rattle.plane_geom.proofs.Sums.{ring_sum, total, back}
use Rattle.ring_polygons.specs.Composites.{view_at, Bridge, least_bridge, bridged, join_others, composite, ids_of}
use Rattle.ring_polygons.proofs.JoinLaws.{join_sum}
use Rattle.ring_polygons.proofs.BridgeLaws.{IsRingView, BridgeEnds, view_get, least_bridge_ends, joined_view, remove_all, composite_total, composite_length}
use Rattle.ring_polygons.specs.declared.twins.Twins.{Twins}
use Rattle.ring_polygons.specs.declared.twins.Twins.TheVariants.{Pass}
use Rattle.ring_polygons.specs.Caps.{places_by, cap_by, points_at, area_of, cut, sign_of, is_folded, folded_by}
use Rattle.ring_polygons.proofs.CapLaws.{by_total, corners_by, corners_by_of}
use Rattle.ring_polygons.proofs.CutLaws.{cut_count}
use Rattle.ring_polygons.proofs.SignedSums.{Turns, part, ring_signed, edges_signed, rings_signed}
use Rattle.ring_polygons.proofs.AreaLaws.{edge_turn-turns, cap_sides, cut_area}
use Rattle.ring_caps.specs.GroupCaps.{group_cap, group_corners, IsNumbered, area_in}

-- the composite of rings is a ring
pub group_view : (rings : List RingView) → AllByRecursion IsRingView rings → 0 < length rings
    → IsRingView (composite rings)
group_view rings h some = (composite_length rings h some).1

-- a group's cap leaves over all its rings forwards
pub group_total : (f : ℕ → ℕ → ℕ) (rings : List RingView) → AllByRecursion IsRingView rings → 0 < length rings
    → total f (group_cap rings) + total (back f) (ids_of rings) ≡ total (back f) (group_cap rings)
    + total f (ids_of rings)
group_total f rings h some =
    let ring = group_view rings h some in
    omega (
      arith,
      by_total f Pass (composite rings).points (composite rings).ids ring.enough ring.same,
      composite_total f rings h,
    )

-- ---- areas
-- the point of a vertex number
abbrev pub point_of : List Point → ℕ → Point
point_of vertices v = get_or vertices v origin

-- what an edge between two vertex numbers adds to the turns of its ring
abbrev pub turn_of : List Point → ℕ → ℕ → ℤ
turn_of vertices a b = edge_turn (point_of vertices a) (point_of vertices b)

pub turn_of-turns : (vertices : List Point) → Turns (turn_of vertices)
turn_of-turns vertices a b = edge_turn-turns (point_of vertices a) (point_of vertices b)

-- the edges of a list of images
path_images : {X Y : Type 0} (w : Y → Y → ℤ) (g : X → Y) (xs : List X)
    → signed_sum (λ e. w e.0 e.1) (path_edges (map g xs)) ≡ signed_sum (λ e. w (g e.0) (g e.1)) (path_edges xs)
path_images w g [] = refl
path_images w g (x ∷ []) = refl
path_images w g (x ∷ y ∷ xs) = ap (λ (z : ℤ). w (g x) (g y) +ℤ z) (path_images w g (y ∷ xs))

ring_images : {X Y : Type 0} (w : Y → Y → ℤ) (g : X → Y) (xs : List X)
    → ring_signed w (map g xs) ≡ ring_signed (λ (a b : X). w (g a) (g b)) xs
ring_images w g [] = refl
ring_images {X = X} {Y = Y} w g (x ∷ xs) =
    ap (λ (ys : List Y). signed_sum (λ e. w e.0 e.1) (path_edges ys)) (sym (map-append g (x ∷ xs) (x ∷ [])))
    ∙ path_images w g ((x ∷ xs) ++ x ∷ [])

pub turns_images : (vertices : List Point) (ids : List ℕ)
    → turns (points_at vertices ids) ≡ ring_signed (turn_of vertices) ids
turns_images vertices ids = ring_images edge_turn (point_of vertices) ids

same_sums : (s t : ℤ) (f b g c : ℕ) → s +ℤ pos b ≡ pos f → t +ℤ pos c ≡ pos g → f + c ≡ b + g → s ≡ t
same_sums s t f b g c x y z = omega (arith, ints)

-- over a composite's edges, a weight that changes sign with the edge has the sum over the rings
composite_signed : (w : ℕ → ℕ → ℤ) → Turns w → (rings : List RingView) → AllByRecursion IsRingView rings
    → ring_signed w (composite rings).ids ≡ signed_sum (ring_signed w) (ids_of rings)
composite_signed w h rings all =
    same_sums (ring_signed w (composite rings).ids) (signed_sum (ring_signed w) (ids_of rings))
    (ring_sum (part w) (composite rings).ids) (ring_sum (back (part w)) (composite rings).ids)
    (total (part w) (ids_of rings)) (total (back (part w)) (ids_of rings))
    (edges_signed w h (ring_edges (composite rings).ids)) (rings_signed w h (ids_of rings))
    (composite_total (part w) rings all)

-- the area of a cap, from the edges of its ring
pub cap_turns : (twins : Twins) (vertices ring : List Point) (ids : List ℕ) → 3 ≤ length ids → length ring ≡ length ids
    → area_of vertices (cap_by twins ring ids) ≡ ring_signed (turn_of vertices) ids
cap_turns twins vertices ring ids h e =
    cut_area vertices (points_at vertices ids) ids (places_by twins ring) (corners_by_of twins ring ids h e) refl
    ∙ turns_images vertices ids

-- the area of a group's cap, from the edges of its rings
pub group_turns : (vertices : List Point) (rings : List RingView) → AllByRecursion IsRingView rings → 0 < length rings
    → area_of vertices (group_cap rings) ≡ signed_sum (ring_signed (turn_of vertices)) (ids_of rings)
group_turns vertices rings h some =
    let ring = group_view rings h some in
    cap_turns Pass vertices (composite rings).points (composite rings).ids ring.enough ring.same
    ∙ composite_signed (turn_of vertices) (turn_of-turns vertices) rings h

numbered_turns : (vertices : List Point) (rings : List RingView) → AllByRecursion (IsNumbered vertices) rings
    → signed_sum (ring_signed (turn_of vertices)) (ids_of rings) ≡ area_in rings
numbered_turns vertices [] h = refl
numbered_turns vertices (r ∷ rings) h =
    ap₂ (λ (x y : ℤ). x +ℤ y) (sym (turns_images vertices r.ids) ∙ ap turns h.0) (numbered_turns vertices rings h.1)

-- it is the sum of its rings' areas
pub group_area : (vertices : List Point) (rings : List RingView) → AllByRecursion IsRingView rings → 0 < length rings
    → AllByRecursion (IsNumbered vertices) rings → area_of vertices (group_cap rings) ≡ area_in rings
group_area vertices rings h some n = group_turns vertices rings h some ∙ numbered_turns vertices rings n

-- ---- areas by points
abbrev points_of : List RingView → List (List Point)
points_of rings = map (λ r. r.points) rings

remove_points : (f : Point → Point → ℕ) (others : List RingView) (i : ℕ) → i < length others
    → total f (points_of others) ≡ ring_sum f (view_at others i).points + total f (points_of (remove others i))
remove_points f [] i l = absurd (omega arith)
remove_points f (ring ∷ others) zero l = refl
remove_points f (ring ∷ others) (suc i) l = omega (arith, remove_points f others i (omega arith))

-- the joined ring has the edges of the rings, and each bridge in both directions
others_points : (f : Point → Point → ℕ) (n : ℕ) (ring : RingView) (others : List RingView) → n ≡ length others
    → IsRingView ring → AllByRecursion IsRingView others →
    ring_sum f (join_others n ring others).points + (ring_sum (back f) ring.points + total (back f) (points_of others))
    ≡ ring_sum (back f) (join_others n ring others).points + (ring_sum f ring.points + total f (points_of others))
others_points f zero ring [] e r o = omega arith
others_points f zero ring (other ∷ others) e r o = absurd (omega arith)
others_points f (suc n) ring others e r o =
    let b : Bridge = least_bridge ring others in
    let other : RingView = view_at others b.other in
    let ends : BridgeEnds ring others b = least_bridge_ends ring others r o (omega arith) in
    let k : IsRingView other = view_get others b.other o ends.other in
    let next : RingView = bridged ring other b.place b.vertex in
    let rest = others_points f n next (remove others b.other) (omega (arith, length-remove others b.other ends.other))
    (joined_view ring other b.place b.vertex r k ends.place ends.vertex) (remove_all others b.other o) in
    let forth = join_sum f ring.points other.points b.place b.vertex origin ends.place ends.vertex in
    let back_again = join_sum (back f) ring.points other.points b.place b.vertex origin ends.place ends.vertex in
    omega (
      arith,
      rest,
      forth,
      back_again,
      remove_points f others b.other ends.other,
      remove_points (back f) others b.other ends.other,
    )

composite_points : (f : Point → Point → ℕ) (rings : List RingView) → AllByRecursion IsRingView rings
    → ring_sum f (composite rings).points + total (back f) (points_of rings)
    ≡ ring_sum (back f) (composite rings).points + total f (points_of rings)
composite_points f [] h = refl
composite_points f (ring ∷ others) h = others_points f (length others) ring others refl h.0 h.1

turns_of : (rings : List RingView) → signed_sum (ring_signed edge_turn) (points_of rings) ≡ area_in rings
turns_of [] = refl
turns_of (ring ∷ rings) = ap (λ (z : ℤ). turns ring.points +ℤ z) (turns_of rings)

-- the triangles of a group's cap, by their points, have the areas of its rings
pub group_sides : (rings : List RingView) → AllByRecursion IsRingView rings → 0 < length rings
    → signed_sum side_of (group_corners rings) ≡ area_in rings
group_sides rings h some =
    let ring = group_view rings h some in
    let points : List Point = (composite rings).points in
    let w : Point → Point → ℤ = edge_turn in
    cap_sides Pass points (omega (arith, ring.same, ring.enough))
    ∙ same_sums (turns points) (signed_sum (ring_signed w) (points_of rings)) (ring_sum (part w) points)
    (ring_sum (back (part w)) points) (total (part w) (points_of rings)) (total (back (part w)) (points_of rings))
    (edges_signed w edge_turn-turns (ring_edges points)) (rings_signed w edge_turn-turns (points_of rings))
    (composite_points (part w) rings h)
    ∙ turns_of rings

-- ---- folded triangles
pub folded_short : (twins : Twins) (points : List Point) → 3 ≤ length points → folded_by twins points ≤ length points
folded_short twins points h =
    omega (
      arith,
      count_by-le-length (is_folded (sign_of points)) (cut origin (places_by twins points) points),
      cut_count origin (places_by twins points) points (corners_by twins points h),
    )
