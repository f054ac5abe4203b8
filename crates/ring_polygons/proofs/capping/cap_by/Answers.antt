use Rattle.std.proofs.Common.{arith, ◌≡◌, ◌+◌, ◌++◌, ◌<◌, ℕ, ℤ, take, List, [], ◌∷◌, ap, sym, ◌∙◌, length, subst, All, remove, cond, inl, inr, pos, int_le}
use Rattle.std.proofs.lemmas.List.Edits.{length-remove, get_or-remove_below, get_or-remove_above}
use Rattle.std.proofs.lemmas.Bool.{cases_lt}
use Rattle.fku_types.specs.declared.points.Point.{Point}
use Rattle.fku_types.proofs.TruthLaws.{one_at_most}
use Rattle.fku_types.specs.Points.{IsInRange}
use Rattle.plane_geom.specs.Rings.{origin}
use Rattle.plane_geom.specs.Planes.{turns}
use Rattle.ring_polygons.specs.Caps.{corner, sign, sign_of, is_folded, ear_place, places_by, area_of}
use Rattle.plane_geom.proofs.Sums.{total, back}
use Rattle.plane_geom.proofs.Counts.{leaves_over}
use Rattle.ring_polygons.proofs.CapLaws.{by_total, corners_by_of}
use Rattle.ring_polygons.proofs.CutLaws.{cut_count}
use Rattle.ring_polygons.proofs.AreaLaws.{cap_area}
use Rattle.ring_polygons.proofs.EarLaws.{cap_cut}
use Rattle.ring_polygons.proofs.Turned.{cut_all}
use Rattle.ring_polygons.specs.Ears.{IsCutBy}
use Rattle.ring_polygons.specs.declared.twins.Twins.{Twins}
use Rattle.ring_polygons.specs.declared.states.EarState.{EarState}
use Rattle.ring_polygons.specs.declared.states.EarState.TheVariants.{Open}
use Rattle.ring_polygons.specs.States.{IsTrueOf, AreTrue, state_at}
use Rattle.std.proofs.Math.Seq.{take-append_seam}
use Rattle.std.proofs.Math.ListN.{replicate}
use Rattle.std.proofs.lemmas.List.{get_or-replicate, length-replicate}
use Rattle.ring_polygons.proofs.CapSteps.{cut_starts, fold_starts, cut_goes_on, fold_goes_on, cut_ends, fold_ends}
use Rattle.ring_polygons.proofs.capping.cap_by.Goals as goal

-- a list without one item keeps what holds of each
rest_in_range : (points points' : List Point) (t : ℕ) → t < length points → points' ≡ remove points t
    → All IsInRange points → All IsInRange points'
rest_in_range points points' t l e h = subst (All IsInRange) (sym e) (λ k d b. elim (cases_lt k t) [
  | inl lt ↦ rw get_or-remove_below (h k d (omega arith))
  | inr ge ↦ rw get_or-remove_above (h (k + 1) d (omega (arith, length-remove points t l)))
])

-- nothing is known of the corners at first
all_open : (w : Twins) (s : ℤ) (ring : List Point) (states : List EarState) (n : ℕ) → states ≡ replicate n (Open 0)
    → n ≡ length ring → AreTrue w s ring states
all_open w s ring states n e h = record {
  one_each = omega (arith, ap length e, length-replicate n (Open 0), h);
  each = λ t b. subst (IsTrueOf w s ring t)
      (sym (ap (λ (l : List EarState). state_at l t) e ∙ get_or-replicate n t (Open 0) (Open 0) (omega (arith, h)))) tt;
}

-- a list that is written over another of its length
written : (n : ℕ) (xs rest : List EarState) → length xs ≡ n → take n (xs ++ rest) ≡ xs
written n xs rest e = ap (λ (k : ℕ). take k (xs ++ rest)) (sym e) ∙ take-append_seam xs rest

pub cutting-init : goal.cutting-init
cutting-init c =
    let ring = c.args.ring.now in
    let points = c.in_ok-points.points.items in
    let ids = c.in_ok-ids.ids.items in
    let p : points ≡ ring.points.items = c.in_ok-points.ensures.items_if_clones_equal (λ x y e. e)
    ∙ c.deref-2.ensures.value in
    let i : ids ≡ ring.ids.items = c.in_ok-ids.ensures.items_if_clones_equal (λ x y e. e) ∙ c.deref-3.ensures.value in
    let l = c.turns_left-left.ensures ∙ ap (λ (ps : List Point). int_le (pos 0) (turns ps)) c.deref.ensures.value in
    record {
      triangles = cut_starts c.args.twins c.turns_left-left.result ring.points.items points ring.ids.items ids
          c.in_ok-triangles.triangles.items l p i c.in_ok-triangles.ensures.items;
      folded = omega (arith, fold_starts c.args.twins c.turns_left-left.result ring.points.items points l p);
      same = omega (arith, ap length p, ap length i, ring.one_id_each);
      enough = omega (arith, ap length p, c.requires.enough);
      bound = omega (arith, ap length p, c.requires.few);
      range = subst (All IsInRange) (sym p) c.requires.in_range;
      states = all_open c.args.twins (sign c.turns_left-left.result) points c.in_ok-states.states.items c.len.result
          (c.in_ok-states.ensures.items_if_clones_equal (λ y e. e))
          (omega (arith, c.len.ensures, c.in_ok-points.points.ok.0));
    }

pub cutting-preserved : goal.cutting-preserved
cutting-preserved c =
    let left = c.turns_left-left.result in
    let points = c.cutting.points.items in
    let ids = c.cutting.ids.items in
    let v = c.cutting.invariant in
    let t = c.ear_place-place.result in
    let more : 3 < length points = omega arith in
    let place = c.ear_place-place.ensures.value
    ∙ ap (ear_place c.args.twins (sign left)) c.deref-in-cutting.ensures.value in
    let below : t < length points = omega
    (arith, ap length c.deref-in-cutting.ensures.value, c.ear_place-place.ensures.there) in
    let n = c.count_folded-folded.ensures
    ∙ ap (λ (ps : List Point). cond (is_folded (sign left) (corner origin ps t)) 1 0)
    c.deref-in-cutting-2.ensures.value in
    let one = c.corner.ensures ∙ ap (λ (is : List ℕ). corner 0 is t) c.deref-in-cutting-3.ensures.value in
    let p = c.remove.ensures.items in
    let i = c.remove-in-cutting.ensures.items in
    let ring_is = c.deref-in-cutting.ensures.value in
    let seen : List EarState = c.ear_place-place.new.states in
    let true_of : AreTrue c.args.twins (sign left) points seen =
    subst (λ (ps : List Point). AreTrue c.args.twins (sign left) ps seen) ring_is c.ear_place-place.ensures.states
    in
    let size : length seen ≡ c.cutting.states.len =
    omega (arith, true_of.one_each, v.states.one_each, c.cutting.states.ok.0) in
    let lent = c.deref_mut-in-cutting.ensures.value ∙ written c.cutting.states.len seen _ size in
    let forgot : AreTrue c.args.twins (sign left) (remove points t) (remove c.forget.new.states t) =
    c.forget.ensures c.args.twins (sign left) points more
    (subst (AreTrue c.args.twins (sign left) points) (sym lent) true_of) in
    let gone : c.remove-in-cutting-2.new.self.items ≡ remove c.forget.new.states t = c.remove-in-cutting-2.ensures.items
    ∙ ap (λ (l : List EarState). remove l t)
    (written c.cutting.states.len c.forget.new.states _ (omega (arith, c.forget.auto.states, ap length lent, size)))
    in
    record {
      triangles = cut_goes_on c.args.twins left points c.remove.new.self.items ids c.remove-in-cutting.new.self.items
          c.cutting.triangles.items c.push.new.self.items t c.corner.result more place one p i
          c.in_ok-push.ensures.items ∙ v.triangles;
      folded = omega (
        arith,
        v.folded,
        fold_goes_on c.args.twins left points c.remove.new.self.items t
            c.count_folded-folded.result more place n p,
      );
      same = omega (
        arith,
        ap length p,
        ap length i,
        length-remove points t below,
        length-remove ids t (omega (arith, v.same)),
        v.same,
      );
      enough = omega (arith, ap length p, length-remove points t below);
      bound = omega (
        arith,
        ap length p,
        length-remove points t below,
        v.bound,
        one_at_most (is_folded (sign left) (corner origin points t)),
        n,
      );
      range = rest_in_range points c.remove.new.self.items t below p v.range;
      states = subst (AreTrue c.args.twins (sign left) c.remove.new.self.items) (sym gone)
          (subst (λ (ps : List Point). AreTrue c.args.twins (sign left) ps (remove c.forget.new.states t)) (sym p)
          forgot);
    }

last_three : goal.returns-clause-triangles
last_three c =
    let left = c.turns_left-left.result in
    let points = c.cutting.points.items in
    let ids = c.cutting.ids.items in
    let v = c.cutting.invariant in
    let three : length points ≡ 3 = omega (arith, v.enough) in
    let one = c.corner-2.ensures ∙ ap (λ (is : List ℕ). corner 0 is 1) c.deref-5.ensures.value in
    cut_ends c.args.twins left points ids c.cutting.triangles.items c.push-2.new.self.items c.corner-2.result three
    (omega (arith, v.same, three)) one c.in_ok-push-2.ensures.items ∙ v.triangles

pub returns-clause-triangles : goal.returns-clause-triangles
returns-clause-triangles c = last_three c

pub returns-clause-folded : goal.returns-clause-folded
returns-clause-folded c =
    let left = c.turns_left-left.result in
    let points = c.cutting.points.items in
    let v = c.cutting.invariant in
    let n = c.count_folded-folded-2.ensures
    ∙ ap (λ (ps : List Point). cond (is_folded (sign left) (corner origin ps 1)) 1 0) c.deref-4.ensures.value in
    omega (
      arith,
      v.folded,
      fold_ends c.args.twins left points c.count_folded-folded-2.result (omega (arith, v.enough))
          n,
    )

pub returns-clause-left_over : goal.returns-clause-left_over
returns-clause-left_over c =
    let ring = c.args.ring.now in
    leaves_over c.push-2.new.self.items (ring.ids.items ∷ []) [] (λ f.
    omega (
      arith,
      ap (total f) (last_three c),
      ap (total (back f)) (last_three c),
      by_total f c.args.twins ring.points.items ring.ids.items (omega (arith, ring.one_id_each, c.requires.enough))
          ring.one_id_each,
    ))

pub returns-clause-ears : goal.returns-clause-ears
returns-clause-ears c =
    let ring = c.args.ring.now in
    subst (IsCutBy c.args.twins (sign_of ring.points.items) ring.points.items ring.ids.items) (sym (last_three c))
    (cap_cut c.args.twins ring.points.items ring.ids.items c.requires.enough)

pub returns-clause-count : goal.returns-clause-count
returns-clause-count c =
    let ring = c.args.ring.now in
    let corners = corners_by_of c.args.twins ring.points.items ring.ids.items
    (omega (arith, ring.one_id_each, c.requires.enough)) ring.one_id_each in
    omega (
      arith,
      ap length (last_three c),
      cut_count 0 (places_by c.args.twins ring.points.items) ring.ids.items corners,
      ring.one_id_each,
    )

pub returns-clause-vertices : goal.returns-clause-vertices
returns-clause-vertices c n below =
    let ring = c.args.ring.now in
    let corners = corners_by_of c.args.twins ring.points.items ring.ids.items
    (omega (arith, ring.one_id_each, c.requires.enough)) ring.one_id_each in
    subst (All (All (λ (v : ℕ). v < n))) (sym (last_three c))
    (cut_all (λ (v : ℕ). v < n) 0 (places_by c.args.twins ring.points.items) ring.ids.items corners below)

pub returns-clause-area : goal.returns-clause-area
returns-clause-area c vertices known =
    let ring = c.args.ring.now in
    ap (area_of vertices) (last_three c)
    ∙ cap_area c.args.twins vertices ring.points.items ring.ids.items c.requires.enough known
