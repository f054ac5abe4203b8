-- Caps of the rings without a mark, ring by ring.
use Rattle.std.proofs.Common.{◌≡◌, ℕ, ◌+◌, ◌<◌, ◌≤◌, not, Bool, true, false, cond, List, [], ◌∷◌, ◌++◌, length, get_or, filter, flat_map, sum_by, refl, sym, ap, ap₂, ◌∙◌, arith, subst, append_assoc}
use Rattle.std.specs.List.{range_with_len}
use Rattle.std.proofs.lemmas.List.{append-nil, map-append}
use Rattle.std.proofs.lemmas.List.Elements.{filter-append}
use Rattle.std.proofs.lemmas.List.Sums.{sum_by-append, count_by-le-length, sum_by-cons}
use Rattle.std.proofs.lemmas.Grind.{flat_map-append}
use Rattle.fku_types.specs.declared.points.Point.{Point}
use Rattle.fku_types.proofs.ListLaws.{range_more}
use Rattle.plane_geom.specs.Rings.{RingView, origin}
use Rattle.plane_geom.specs.declared.ring.Ring.{Ring}
use Rattle.plane_geom.specs.RingViews.{ring_view, ring_views}
use Rattle.ring_polygons.specs.Composites.{view_at}
use Rattle.ring_polygons.proofs.Nearest.{view_read}
use Rattle.ring_polygons.specs.declared.faces.Face.{Face}
use Rattle.ring_polygons.specs.declared.faces.Face.TheVariants.{Below, Above}
use Rattle.ring_polygons.specs.Caps.{folded, is_folded, sign_of, cut, cap_places, top_cap, faced}
use Rattle.ring_polygons.proofs.CapLaws.{cap_corners}
use Rattle.ring_polygons.proofs.CutLaws.{cut_count}
use Rattle.ring_polygons.proofs.Turned.{faced-append}
use Rattle.row_paths.specs.Solutions.{Solution}
use Rattle.section_core.specs.Parts.{Parts}
use Rattle.section_pairs.specs.Rings.{pick}
use Rattle.section_pairs.specs.Pairs.{PairParts}
use Rattle.ring_polygons.specs.declared.capping.CapList.{CapList}
use Rattle.surface_core.specs.Surfaces.{tops, caps_on, folded_in, strip_triangles, Capping, capped_section}
use Rattle.surface_core.specs.Caps.{AreCapsOf, AreCaps}
use Rattle.surface_core.specs.Marks.{kept}

-- the rings without a mark among the first k
abbrev pub done : List RingView → List Bool → ℕ → List RingView
done rings marks k = pick rings (filter (λ i. not (get_or marks i false)) (range_with_len 0 k))

one_kept : (rings : List RingView) (k : ℕ) (b : Bool) → pick rings (cond (not b) (k ∷ []) []) ≡ kept b (view_at rings k)
one_kept rings k true = refl
one_kept rings k false = refl

-- one more ring
pub done_more : (rings : List RingView) (marks : List Bool) (k : ℕ)
    → done rings marks (k + 1) ≡ done rings marks k ++ kept (get_or marks k false) (view_at rings k)
done_more rings marks k =
    let test : ℕ → Bool = λ i. not (get_or marks i false) in
    ap (λ (l : List ℕ). pick rings (filter test l)) (range_more k)
    ∙ ap (pick rings) (filter-append test (range_with_len 0 k) (k ∷ []))
    ∙ map-append (view_at rings) (filter test (range_with_len 0 k)) (filter test (k ∷ []))
    ∙ ap (λ (l : List RingView). pick rings (filter test (range_with_len 0 k)) ++ l)
    (one_kept rings k (get_or marks k false))

-- the triangles with one more cap
caps-append : (face : Face) (rings more : List RingView)
    → caps_on face (rings ++ more) ≡ caps_on face rings ++ caps_on face more
caps-append face rings more = ap (faced face) (flat_map-append (λ (r : RingView). top_cap r.points r.ids) rings more)
    ∙ faced-append face (tops rings) (tops more)

pub caps_step : (face : Face) (old so_far now : List (List ℕ)) (rings one after : List RingView)
    → so_far ≡ old ++ caps_on face rings → now ≡ so_far ++ caps_on face one → after ≡ rings ++ one
    → now ≡ old ++ caps_on face after
caps_step face old so_far now rings one after s n a =
    n ∙ ap (λ (l : List (List ℕ)). l ++ caps_on face one) s ∙ append_assoc old (caps_on face rings) (caps_on face one)
    ∙ ap (λ (l : List (List ℕ)). old ++ l) (sym (caps-append face rings one) ∙ ap (caps_on face) (sym a))

pub folded_step : (old so_far now : ℕ) (rings one after : List RingView) → so_far ≡ old + folded_in rings
    → now ≡ so_far + folded_in one → after ≡ rings ++ one → now ≡ old + folded_in after
folded_step old so_far now rings one after s n a =
    omega (arith, s, n, ap folded_in a, sum_by-append (λ (r : RingView). folded r.points) rings one)

-- at most as many triangles are folded as a ring has points
pub folded_few : (ring : List Point) → 3 ≤ length ring → folded ring ≤ length ring
folded_few ring h =
    omega (
      arith,
      count_by-le-length (is_folded (sign_of ring)) (cut origin (cap_places ring) ring),
      cut_count origin (cap_places ring) ring (cap_corners ring h),
    )

-- one more ring of the code
pub ring_step : (rings : List Ring) (marks : List Bool) (k : ℕ) (r : Ring) → k < length rings → r ≡ get_or rings k r
    → done (ring_views rings) marks (k + 1) ≡ done (ring_views rings) marks k
    ++ kept (get_or marks k false) (ring_view r)
ring_step rings marks k r l e = done_more (ring_views rings) marks k
    ∙ ap (λ (x : RingView). done (ring_views rings) marks k ++ kept (get_or marks k false) x) (view_read rings k r l e)

-- no caps
pub no_caps : (bottoms tops : List RingView) → bottoms ≡ [] → tops ≡ []
    → [] ≡ caps_on Below bottoms ++ caps_on Above tops
no_caps bottoms tops b t = sym (ap₂ (λ (x y : List RingView). caps_on Below x ++ caps_on Above y) b t)

-- the caps of the section at a place, and its triangles
pub caps_at : (C : Capping) (S : Parts) (ps : List PairParts) (caps : List CapList) → AreCaps C S ps caps
    → (s : ℕ) (c : CapList) → s < length S.sections → c ≡ get_or caps s c → AreCapsOf C S ps s c
caps_at C S ps caps h s c l e = subst (AreCapsOf C S ps s) (sym e) (h.each s c (omega (arith, l, h.count)))

pub with_caps : (C : Capping) (S : Parts) (ps : List PairParts) (xs : List Solution) (s : ℕ) (c : CapList)
    → AreCapsOf C S ps s c → c.triangles.items ++ strip_triangles s ps xs ≡ capped_section C S ps xs s
with_caps C S ps xs s c h =
    ap (λ (l : List (List ℕ)). l ++ strip_triangles s ps xs) h.triangles
    ∙ append_assoc (C.caps Below S ps s) (C.caps Above S ps s) (strip_triangles s ps xs)

-- one more section
pub sections_step : (f : ℕ → List (List ℕ)) (s : ℕ) (old now : List (List ℕ)) → old ≡ flat_map f (range_with_len 0 s)
    → now ≡ old ++ f s → now ≡ flat_map f (range_with_len 0 (s + 1))
sections_step f s old now e n =
    n ∙ ap₂ (λ (x y : List (List ℕ)). x ++ y) e (sym (append-nil (f s)))
    ∙ sym (flat_map-append f (range_with_len 0 s) (s ∷ [])) ∙ ap (flat_map f) (sym (range_more s))

pub sums_step : (f : ℕ → ℕ) (s old now : ℕ) → old ≡ sum_by f (range_with_len 0 s) → now ≡ old + f s
    → now ≡ sum_by f (range_with_len 0 (s + 1))
sums_step f s old now e n = omega (
  arith,
  e,
  n,
  ap (sum_by f) (range_more s),
  sum_by-append f (range_with_len 0 s) (s ∷ []),
  sum_by-cons f s [],
)
