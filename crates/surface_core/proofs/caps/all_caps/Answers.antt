use Rattle.std.proofs.Common.{arith, ◌≡◌, ◌+◌, ◌<◌, ◌≤◌, ◌++◌, ◌∷◌, [], ℕ, List, length, map, get_or, sym, ap, ap₂, ◌∙◌, subst, All}
use Rattle.std.proofs.lemmas.List.{length-map, length-append}
use Rattle.std.proofs.lemmas.List.Elements.{All-from_recursion}
use Rattle.fku_types.specs.declared.limits.TheConstants.{MAX_VERTICES}
use Rattle.plane_geom.specs.Rings.{RingView}
use Rattle.ring_polygons.specs.declared.capping.CapList.{CapList}
use Rattle.correspondence.specs.Contours.{points_of, point_lists}
use Rattle.correspondence.specs.Nesting.{oriented}
use Rattle.section_pairs.specs.Rings.{rings_at}
use Rattle.section_pairs.specs.Pairs.{pair_parts}
use Rattle.section_pairs.proofs.SectionRings.{section_vertices, count_is, first_is, few_ids, ids_more, kept_outlines, each_more}
use Rattle.section_pairs.proofs.Sorted.{pairs_sorted}
use Rattle.surface_core.specs.Surfaces.{joined_on, folded_of, by_contour}
use Rattle.surface_core.specs.Caps.{both_caps, AreCapsOf}
use Rattle.surface_core.proofs.CapClosing.{contours_close}
use Rattle.surface_core.proofs.JoinedPlaces.{count, places_on}
use Rattle.surface_core.proofs.SectionFacts.{are_few, held_views, outline_at}
use Rattle.surface_core.proofs.caps.all_caps.Goals as goal

pub section_caps-requires-clause-outlines : goal.section_caps-requires-clause-outlines
section_caps-requires-clause-outlines c =
    kept_outlines c.sections-all.result.now c.loop-place.place c.index-all-place.result c.sections-all.ensures.kept
    c.loop-place-test.true c.index-all-place.is

pub section_caps-requires-clause-ids : goal.section_caps-requires-clause-ids
section_caps-requires-clause-ids c =
    subst (λ (n : ℕ). n + section_vertices c.index-all-place.result ≤ MAX_VERTICES) (sym c.loop-place.invariant.first)
    (few_ids c.sections-all.result.now c.loop-place.place c.index-all-place.result c.sections-all.ensures.kept
    c.loop-place-test.true c.index-all-place.is)

pub section_caps-requires-clause-joined : goal.section_caps-requires-clause-joined
section_caps-requires-clause-joined c face =
    let S = c.args.sections.now in
    let s = c.loop-place.place in
    let section = c.index-all-place.result in
    let places = joined_on face (map pair_parts c.args.pairs.now) s in
    let same : count S s ≡ length section.contours.items =
    sym (ap length (outline_at c.sections-all.result.now S s section c.sections-all.ensures.data
    c.loop-place-test.true c.index-all-place.is)) ∙ length-map section.contours.items points_of in
    subst (λ (n : ℕ). All (λ k. k < n) places) same
    (All-from_recursion (λ k. k < count S s) places
    (places_on S (map pair_parts c.args.pairs.now) c.requires face s).1)

pub section_caps-requires-clause-sorted : goal.section_caps-requires-clause-sorted
section_caps-requires-clause-sorted c = pairs_sorted c.args.sections.now c.args.pairs.now c.requires

pub count_vertices-requires : goal.count_vertices-requires
count_vertices-requires c = (kept_outlines c.sections-all.result.now c.loop-place.place c.index-all-place.result
    c.sections-all.ensures.kept c.loop-place-test.true c.index-all-place.is).few

pub overflow_add-first_id : goal.overflow_add-first_id
overflow_add-first_id c =
    let section = c.index-all-place.result in
    let size : c.count_vertices.result ≡ section_vertices section = c.count_vertices.ensures in
    omega (
      arith,
      size,
      c.loop-place.invariant.first,
      few_ids c.sections-all.result.now c.loop-place.place section c.sections-all.ensures.kept c.loop-place-test.true
          c.index-all-place.is,
    )

pub loop-place-preserved : goal.loop-place-preserved
loop-place-preserved c =
    let S = c.args.sections.now in
    let ps = map pair_parts c.args.pairs.now in
    let s = c.loop-place.place in
    let all = c.sections-all.result.now in
    let section = c.index-all-place.result in
    let old = c.loop-place.caps.items in
    let new = c.push.new.self.items in
    let one = c.in_ok-section_caps.field-0 in
    let inv = c.loop-place.invariant in
    let made = c.in_ok-section_caps.ensures in
    let more : new ≡ old ++ one ∷ [] = c.in_ok-push.ensures.items in
    let size : c.count_vertices.result ≡ section_vertices section = c.count_vertices.ensures in
    let rings : oriented c.loop-place.first_id (point_lists section) ≡ rings_at S s =
    ap₂ oriented (inv.first ∙ first_is all S s c.sections-all.ensures.data)
    (outline_at all S s section c.sections-all.ensures.data c.loop-place-test.true c.index-all-place.is) in
    let here : AreCapsOf by_contour S ps s one =
    record {
      triangles = made.triangles ∙ ap (λ (r : List RingView). both_caps r ps s) rings;
      folded = made.folded
          ∙ ap (λ (r : List RingView). folded_of r ps s) rings;
    } in
    let last : AreCapsOf by_contour S ps (length old) one =
    subst (λ (k : ℕ). AreCapsOf by_contour S ps k one) (sym inv.count) here in
    record {
      first = omega (arith, size, inv.first, ids_more all s section c.loop-place-test.true c.index-all-place.is);
      count = omega (arith, ap length more, length-append old (one ∷ []), inv.count);
      each = subst (λ (xs : List CapList). (k : ℕ) (d : CapList) → k < length xs
          → AreCapsOf by_contour S ps k (get_or xs k d)) (sym more)
          (each_more (AreCapsOf by_contour S ps) old one inv.each last);
    }

pub returns : goal.returns
returns c =
    let S = c.args.sections.now in
    let all = c.sections-all.result.now in
    let kept = c.sections-all.ensures.kept in
    let same = c.sections-all.ensures.data in
    record {
      count = omega (
        arith,
        c.loop-place.invariant.count,
        c.loop-place-test.false,
        c.loop-place.auto.place-end,
        count_is all S.sections same,
      );
      each = c.loop-place.invariant.each;
      close = contours_close S (map pair_parts c.args.pairs.now) (held_views all S kept same) (are_few S all kept same)
          c.requires;
    }
