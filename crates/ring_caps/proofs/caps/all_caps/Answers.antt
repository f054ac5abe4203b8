use Rattle.std.proofs.Common.{◌≡◌, ◌<◌, ◌++◌, ◌∷◌, [], ℕ, List, ap, ap₂, ◌∙◌, sym, subst, arith, Err, length, map, get_or, flat_map, All}
use Rattle.std.specs.List.{range_with_len}
use Rattle.std.proofs.lemmas.Result.{err_from_is_err_and}
use Rattle.std.proofs.lemmas.List.{length-append}
use Rattle.std.proofs.lemmas.List.Elements.{All-from_recursion}
use Rattle.fku_types.specs.declared.points.Point.{Point}
use Rattle.fku_types.specs.declared.fault.Fault.{Fault}
use Rattle.plane_geom.specs.Rings.{RingView}
use Rattle.plane_geom.specs.RingViews.{ring_views}
use Rattle.correspondence.specs.Contours.{point_lists}
use Rattle.correspondence.specs.Outlines.{layer_at}
use Rattle.section_pairs.specs.Rings.{rings_at}
use Rattle.section_pairs.specs.Pairs.{pair_parts, IsShort}
use Rattle.section_pairs.specs.SectionFaults.{IsFirstFault, OrNoMemory}
use Rattle.surface_core.specs.Surfaces.{joined_on}
use Rattle.section_pairs.proofs.Sides.{err_told}
use Rattle.section_pairs.proofs.Sorted.{pairs_sorted}
use Rattle.section_pairs.proofs.SectionRings.{count_is, views_at, count_at, each_more}
use Rattle.surface_core.proofs.JoinedPlaces.{count, places_on}
use Rattle.ring_polygons.specs.declared.capping.CapList.{CapList}
use Rattle.surface_core.specs.Caps.{AreCapsOf}
use Rattle.ring_caps.specs.RingSurfaces.{both_group_caps, both_folded, by_group, both_sizes, section_sizes, group_sizes, HasLongGroup}
use Rattle.ring_caps.proofs.RingSums.{groups_close}
use Rattle.ring_caps.proofs.CapLoops.{sections_short, long_section}
use Rattle.surface_core.proofs.SectionFacts.{are_few, are_views, outline_at}
use Rattle.ring_caps.proofs.caps.all_caps.Goals as goal
use Rattle.ring_caps.proofs.caps.all_caps.Goals.{After-deref}

-- ---- the rings and the contours of the section
there : (c : After-deref) → c.loop-place.place < length c.in_ok-rings.rings.items
there c = omega (
  arith,
  c.loop-place-test.true,
  c.in_ok-rings.ensures.count,
  count_is c.sections-all.result.now c.args.sections.now.sections c.sections-all.ensures.data,
)

rings_are : (c : After-deref) → ring_views c.deref.result.now ≡ rings_at c.args.sections.now c.loop-place.place
rings_are c = views_at c.args.sections.now c.in_ok-rings.rings.items c.loop-place.place c.index.result.now
    c.deref.result.now c.in_ok-rings.ensures (there c) c.index.ensures c.deref.ensures.value

outlines_are : (c : After-deref)
    → point_lists c.index-all-place.result ≡ (layer_at c.args.sections.now c.loop-place.place).outlines
outlines_are c = outline_at c.sections-all.result.now c.args.sections.now c.loop-place.place c.index-all-place.result
    c.sections-all.ensures.data c.loop-place-test.true c.index-all-place.is

pub section_caps-requires-clause-count : goal.section_caps-requires-clause-count
section_caps-requires-clause-count c =
    let S = c.args.sections.now in
    let s = c.loop-place.place in
    count_at S s c.deref.result.now (rings_are c)
    ∙ ap length (sym (outlines_are c))

pub section_caps-requires-clause-joined : goal.section_caps-requires-clause-joined
section_caps-requires-clause-joined c face =
    let S = c.args.sections.now in
    let s = c.loop-place.place in
    let places = joined_on face (map pair_parts c.args.pairs.now) s in
    subst (λ (n : ℕ). All (λ k. k < n) places) (sym (count_at S s c.deref.result.now (rings_are c)))
    (All-from_recursion (λ k. k < count S s) places
    (places_on S (map pair_parts c.args.pairs.now) c.requires.pairs face s).1)

pub section_caps-requires-clause-sorted : goal.section_caps-requires-clause-sorted
section_caps-requires-clause-sorted c = pairs_sorted c.args.sections.now c.args.pairs.now c.requires.pairs

pub returns-in_err-more-clause-fault : goal.returns-in_err-more-clause-fault
returns-in_err-more-clause-fault c =
    let S = c.args.sections.now in
    let ps = map pair_parts c.args.pairs.now in
    let s = c.loop-place.place in
    let all = c.sections-all in
    let count = count_is all.result.now S.sections all.ensures.data in
    let fault = c.in_err-more.field-0.0 in
    let exit = err_from_is_err_and c.from_residual-in_err-more.result c.from_residual-in_err-more.ensures.1 in
    let at = (goal.at.returns-in_err-more-clause-fault c).After-deref in
    let sizes = ap₂ (λ (os : List (List Point)) (rs : List RingView). both_sizes s os rs ps) (outlines_are at)
    (rings_are at) in
    err_told c.from_residual-in_err-more.result fault
    (OrNoMemory (IsFirstFault IsShort HasLongGroup (group_sizes S ps)))
    (exit.1 ∙ ap (λ (e : Fault). Err e) exit.2)
    (long_section (section_sizes S ps) (length S.sections) s fault (omega (arith, c.loop-place-test.true, count))
    c.loop-place.invariant.short
    (subst (λ (ys : List (ℕ × ℕ)). OrNoMemory (IsFirstFault IsShort HasLongGroup ys) fault) sizes
    c.in_err-more.ensures.fault))

pub loop-place-preserved : goal.loop-place-preserved
loop-place-preserved c =
    let S = c.args.sections.now in
    let ps = map pair_parts c.args.pairs.now in
    let s = c.loop-place.place in
    let at = (goal.at.loop-place-preserved c).After-deref in
    let sizes = ap₂ (λ (os : List (List Point)) (rs : List RingView). both_sizes s os rs ps) (outlines_are at)
    (rings_are at) in
    let old = c.loop-place.caps.items in
    let one = c.in_ok-more.more in
    let new = c.add_caps.new.caps.items in
    let more : new ≡ old ++ one ∷ [] = c.in_ok-add_caps.ensures in
    let made = c.in_ok-more.ensures in
    let here : AreCapsOf by_group S ps s one = record {
      triangles = made.triangles ∙ ap₂ (λ (os : List (List Point)) (rs : List RingView). both_group_caps os rs ps s)
          (outlines_are at) (rings_are at);
      folded = made.folded ∙ ap₂ (λ (os : List (List Point)) (rs : List RingView). both_folded os rs ps s)
          (outlines_are at) (rings_are at);
    } in
    let last : AreCapsOf by_group S ps (length old) one =
    subst (λ (k : ℕ). AreCapsOf by_group S ps k one) (sym c.loop-place.invariant.count) here in
    record {
      count = omega (arith, ap length more, length-append old (one ∷ []), c.loop-place.invariant.count);
      each = subst (λ (xs : List CapList). (k : ℕ) (d : CapList) → k < length xs
          → AreCapsOf by_group S ps k (get_or xs k d)) (sym more)
          (each_more (AreCapsOf by_group S ps) old one c.loop-place.invariant.each last);
      short = sections_short (section_sizes S ps) s c.loop-place.invariant.short
          (subst (λ (ys : List (ℕ × ℕ)). All IsShort ys) sizes made.short);
    }

pub returns-clause-caps : goal.returns-clause-caps
returns-clause-caps c =
    let S = c.args.sections.now in
    let all = c.sections-all in
    let rings = c.in_ok-rings.rings.items in
    let views = are_views S rings c.in_ok-rings.ensures in
    record {
      rings = rings;
      are_rings = c.in_ok-rings.ensures;
      are_caps = record {
        count = omega (
          arith,
          c.loop-place.invariant.count,
          c.loop-place-test.false,
          c.loop-place.auto.place-end,
          count_is all.result.now S.sections all.ensures.data,
        );
        each = c.loop-place.invariant.each;
        close = groups_close S (map pair_parts c.args.pairs.now) views
            (are_few S all.result.now all.ensures.kept all.ensures.data) c.requires.pairs;
      };
    }

pub returns-clause-short : goal.returns-clause-short
returns-clause-short c =
    let S = c.args.sections.now in
    let ps = map pair_parts c.args.pairs.now in
    let end : c.loop-place.place ≡ length S.sections =
    omega (
      arith,
      c.loop-place-test.false,
      c.loop-place.auto.place-end,
      count_is c.sections-all.result.now S.sections c.sections-all.ensures.data,
    ) in
    subst (λ (n : ℕ). All IsShort (flat_map (section_sizes S ps) (range_with_len 0 n))) end c.loop-place.invariant.short
