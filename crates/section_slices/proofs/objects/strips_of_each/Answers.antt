use Rattle.std.proofs.Common.{List, Vec, map, sym, subst, arith, w32, to_z, of_z}
use Rattle.std.specs.Global.{Global}
use Rattle.section_core.specs.declared.objects.Object.{Object}
use Rattle.section_pairs.specs.declared.gap_pairs.GapPair.{GapPair}
use Rattle.section_pairs.specs.Pairs.{pair_parts}
use Rattle.section_pairs.specs.SectionFaults.{ArePairs}
use Rattle.surface_core.proofs.ObjectSteps.{as_many, zip_at, zip_more}
use Rattle.section_slices.specs.Slices.{AreStripsAt}
use Rattle.section_slices.proofs.ObjectSlices.{held}
use Rattle.section_slices.proofs.objects.strips_of_each.Goals as goal

pub bounds-lists-place : goal.bounds-lists-place
bounds-lists-place c = omega (arith, c.loop-place-test.true, as_many c.args.items.now c.args.lists.now c.requires)

pub strips_at-requires : goal.strips_at-requires
strips_at-requires c =
    let o = c.index-items-place.result in
    let pairs = zip_at (λ (x : Object). x.sections) (λ (w : Vec GapPair Global). map pair_parts w.items) ArePairs
    c.args.items.now c.args.lists.now c.requires c.loop-place.place o c.index-lists-place.result
    c.loop-place-test.true c.index-items-place.is c.index-lists-place.is in
    subst (λ (x : Object). ArePairs x.sections (map pair_parts c.deref.result.now)) c.index-items-place.is
    (subst (λ (ps : List GapPair). ArePairs o.sections (map pair_parts ps)) (sym c.deref.ensures.value) pairs)

pub loop-place-preserved : goal.loop-place-preserved
loop-place-preserved c =
    let o = c.index-items-place.result in
    let one = c.in_ok-strips_at.field-0 in
    let z = to_z w32 (of_z w32 c.args.z) in
    let here = subst (λ (x : Object). AreStripsAt z x.sections (held one)) (sym c.index-items-place.is)
    c.in_ok-strips_at.ensures in
    zip_more (λ (x : Object). x.sections) held (AreStripsAt z) c.args.items.now c.loop-place.place o
    c.loop-place.each.items c.push.new.self.items one c.loop-place-test.true c.index-items-place.is
    c.in_ok-push.ensures.items c.loop-place.invariant here
