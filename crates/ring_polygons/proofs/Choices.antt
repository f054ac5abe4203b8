-- The ring that is joined next, from the first least of the bridges to each ring.
use Rattle.std.proofs.Common.{◌≡◌, ℕ, ◌+◌, ◌<◌, ◌≤◌, List, length, get_or, All, sym, ap, ◌∙◌, arith, subst}
use Rattle.std.proofs.lemmas.List.{length-map, get_or_default}
use Rattle.fku_types.specs.declared.points.Point.{Point}
use Rattle.plane_geom.specs.declared.ring.Ring.{Ring}
use Rattle.plane_geom.specs.Rings.{RingView}
use Rattle.plane_geom.specs.RingViews.{ring_view, ring_views, IsContour}
use Rattle.ring_polygons.specs.declared.bridges.Near.{Near}
use Rattle.ring_polygons.specs.Composites.{Bridge, view_at, least_bridge, join}
use Rattle.ring_polygons.specs.Nearest.{IsNearest, near_at, AreNearest, IsFirstNearest, IsExtended}
use Rattle.ring_polygons.proofs.BridgeLaws.{IsRingView, least_bridge_is}
use Rattle.ring_polygons.proofs.Nearest.{view_read}
use Rattle.ring_polygons.proofs.NearestLaws.{first_is_least, one_least, join_extends}
use Rattle.ring_polygons.proofs.Joining.{views}

pub record Choice (ring other : Ring) (others : List Ring) (k : ℕ) (near : Near) : Type 0 where
  pub there : k < length others
  pub read : view_at (ring_views others) k ≡ ring_view other
  pub contour : IsContour other
  pub nearest : IsNearest ring.points.items other.points.items near
  pub bridge : least_bridge (ring_view ring) (ring_views others)
      ≡ record { place = near.place; other = k; vertex = near.vertex }

pub choice : (ring other : Ring) (others : List Ring) (nears seen : List Near) (k : ℕ) (near : Near)
    → All IsContour others → 3 ≤ length ring.points.items → AreNearest ring.points.items (ring_views others) nears →
    seen ≡ nears → IsFirstNearest seen k → near ≡ get_or nears k near → other ≡ get_or others k other
    → Choice ring other others k near
choice ring other others nears seen k near contours enough h e f n o =
    let first : IsFirstNearest nears k = subst (λ (l : List Near). IsFirstNearest l k) e f in
    let size : length nears ≡ length others = h.same ∙ length-map others ring_view in
    let there : k < length others = omega (arith, first.there, size) in
    let read : view_at (ring_views others) k ≡ ring_view other = view_read others k other there o in
    let at : near ≡ near_at nears k = n
    ∙ get_or_default nears k near (record { square = 0; place = 0; vertex = 0 }) first.there in
    let some : 0 < length (ring_views others) = omega (arith, there, length-map others ring_view) in
    let whole : IsRingView (ring_view ring) =
    record { same = ring.one_id_each; enough = omega (arith, enough, ring.one_id_each) } in
    let b : Bridge = record { place = (near_at nears k).place; other = k; vertex = (near_at nears k).vertex } in
    let least : least_bridge (ring_view ring) (ring_views others) ≡ b =
    one_least (ring_view ring) (ring_views others) (least_bridge (ring_view ring) (ring_views others)) b
    (least_bridge_is (ring_view ring) (ring_views others) whole (views others contours) some)
    (first_is_least (ring_view ring) (ring_views others) nears k h first) in
    record {
      there = there;
      read = read;
      contour = subst IsContour (sym o) (contours k other there);
      nearest = subst (IsNearest ring.points.items other.points.items) (sym at)
          (subst (λ (l : RingView). IsNearest ring.points.items l.points (near_at nears k)) read
          (h.each k (omega (arith, there, length-map others ring_view))));
      bridge = least ∙ sym (ap (λ (x : Near). record { place = x.place; other = k; vertex = x.vertex }) at);
    }

-- the joined ring is extended
pub extended : (ring other next : Ring) (near : Near) (added : ℕ) → IsNearest ring.points.items other.points.items near
    → next.points.items ≡ join ring.points.items other.points.items near.place near.vertex
    → added ≡ length other.points.items + 2 →
    IsExtended ring.points.items next.points.items near.place added
extended ring other next near added n e a =
    subst (IsExtended ring.points.items next.points.items near.place) (sym a)
    (subst (λ (l : List Point). IsExtended ring.points.items l near.place (length other.points.items + 2)) (sym e)
    (join_extends ring.points.items other.points.items near.place near.vertex n.place n.vertex))
