use Rattle.std.proofs.Common.{◌≡◌, ◌<◌, List, length, map, sym, arith, subst}
use Rattle.std.specs.List.{AllZip}
use Rattle.section_core.specs.declared.objects.Object.{Object}
use Rattle.section_pairs.specs.declared.gap_pairs.GapPair.{GapPair}
use Rattle.section_pairs.specs.Pairs.{pair_parts}
use Rattle.section_pairs.specs.SectionFaults.{ArePairs}
use Rattle.surface_core.specs.Surfaces.{by_contour}
use Rattle.surface_core.specs.Objects.{sections_in, pair_lists}
use Rattle.surface_core.specs.Caps.{AreCaps, AreCapLists}
use Rattle.surface_core.proofs.ObjectFacts.{held_pairs}
use Rattle.surface_core.proofs.ObjectSteps.{pairs_at, as_many, lists_more, all_done}
use Rattle.surface_core.proofs.objects.caps_of_each.Goals as goal
use Rattle.surface_core.proofs.objects.caps_of_each.Goals.{After-items-items}

pairs : (c : After-items-items) → AllZip ArePairs (sections_in c.items-items.result.now) (pair_lists c.args.lists.now)
pairs c =
    let is = c.items-items.ensures in
    held_pairs c.args.objects.now c.items-items.result.now (pair_lists c.args.lists.now) is.parts is.under c.requires

same : (c : After-items-items) → length c.args.lists.now ≡ length c.items-items.result.now
same c = as_many c.items-items.result.now c.args.lists.now (pairs c)

pub bounds-lists-place : goal.bounds-lists-place
bounds-lists-place c =
    omega (arith, c.loop-place-test.true, same (goal.at.bounds-lists-place c).After-items-items)

pub all_caps-requires : goal.all_caps-requires
all_caps-requires c =
    pairs_at c.items-items.result.now c.args.lists.now (pairs (goal.at.all_caps-requires c).After-items-items)
    c.loop-place.place c.index-items-place.result c.index-lists-place.result c.deref.result.now
    c.loop-place-test.true c.index-items-place.is c.index-lists-place.is c.deref.ensures.value

pub loop-place-preserved : goal.loop-place-preserved
loop-place-preserved c =
    let items = c.items-items.result.now in
    let lists = c.args.lists.now in
    let i = c.loop-place.place in
    let o = c.index-items-place.result in
    let v = c.index-lists-place.result in
    let caps = c.in_ok-all_caps.field-0 in
    let l : i < length lists = omega
    (arith, c.loop-place-test.true, same (goal.at.loop-place-preserved c).After-items-items) in
    let own = subst (λ (ps : List GapPair). AreCaps by_contour o.sections (map pair_parts ps) caps.items)
    c.deref.ensures.value
    (subst (λ (x : Object). AreCaps by_contour x.sections (map pair_parts c.deref.result.now) caps.items)
    (sym c.index-items-place.is) c.in_ok-all_caps.ensures) in
    lists_more (AreCaps by_contour) items lists i o v c.loop-place.each.items c.push.new.self.items caps
    c.loop-place-test.true l c.index-items-place.is c.index-lists-place.is c.in_ok-push.ensures.items
    c.loop-place.invariant own

pub returns : goal.returns
returns c =
    let is = c.items-items.ensures in
    all_done c.args.objects.now c.items-items.result.now c.args.lists.now c.loop-place.place
    (λ objects pss. AreCapLists by_contour objects pss c.loop-place.each.items) is.parts is.under c.requires
    (omega (arith, c.loop-place-test.false)) c.loop-place.invariant
