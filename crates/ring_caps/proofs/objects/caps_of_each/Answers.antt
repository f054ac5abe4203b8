use Rattle.std.proofs.Common.{◌≡◌, ℕ, ◌<◌, List, length, map, get_or, sym, ap, ◌∙◌, arith, subst, All, Err}
use Rattle.std.specs.List.{AllZip}
use Rattle.std.proofs.lemmas.Result.{err_from_is_err_and}
use Rattle.fku_types.specs.declared.fault.Fault.{Fault}
use Rattle.section_core.specs.Parts.{Parts}
use Rattle.section_core.specs.declared.objects.Object.{Object}
use Rattle.section_pairs.specs.declared.gap_pairs.GapPair.{GapPair}
use Rattle.section_pairs.specs.Pairs.{pair_parts, IsShort}
use Rattle.section_pairs.specs.SectionFaults.{ArePairs, IsFirstFault, OrNoMemory}
use Rattle.surface_core.specs.Objects.{objects_in, sections_in, pair_lists}
use Rattle.surface_core.proofs.ObjectFacts.{held_pairs, objects_are}
use Rattle.surface_core.proofs.ObjectSteps.{pairs_at, as_many, lists_more, all_done}
use Rattle.section_pairs.proofs.Sides.{err_told}
use Rattle.ring_caps.specs.RingSurfaces.{all_group_sizes, group_sizes, HasLongGroup}
use Rattle.ring_caps.specs.Held.{AreGroupCaps, AreGroupCapLists}
use Rattle.ring_caps.proofs.GroupSteps.{short_more, long_here}
use Rattle.ring_caps.proofs.objects.caps_of_each.Goals as goal
use Rattle.ring_caps.proofs.objects.caps_of_each.Goals.{After-items-items, After-deref}

pairs : (c : After-items-items) → AllZip ArePairs (sections_in c.items-items.result.now) (pair_lists c.args.lists.now)
pairs c =
    let is = c.items-items.ensures in
    held_pairs c.args.objects.now c.items-items.result.now (pair_lists c.args.lists.now) is.parts is.under c.requires

same : (c : After-items-items) → length c.args.lists.now ≡ length c.items-items.result.now
same c = as_many c.items-items.result.now c.args.lists.now (pairs c)

pub bounds-lists-place : goal.bounds-lists-place
bounds-lists-place c =
    omega (arith, c.loop-place-test.true, same (goal.at.bounds-lists-place c).After-items-items)

pub all_caps-requires : goal.all_caps-requires
all_caps-requires c = record {
  pairs = pairs_at c.items-items.result.now c.args.lists.now (pairs (goal.at.all_caps-requires c).After-items-items)
      c.loop-place.place c.index-items-place.result c.index-lists-place.result c.deref.result.now
      c.loop-place-test.true c.index-items-place.is c.index-lists-place.is c.deref.ensures.value;
}

-- the groups of the object at this place
sizes_here : (o p : Object) (ps qs : List GapPair) → o ≡ p → qs ≡ ps
    → group_sizes p.sections (map pair_parts qs) ≡ group_sizes o.sections (map pair_parts ps)
sizes_here o p ps qs e f = ap (λ (x : Object). group_sizes x.sections (map pair_parts qs)) (sym e)
    ∙ ap (λ (rs : List GapPair). group_sizes o.sections (map pair_parts rs)) f

here : (c : After-deref)
    → group_sizes (get_or c.items-items.result.now c.loop-place.place c.index-items-place.result).sections
    (map pair_parts c.deref.result.now)
    ≡ group_sizes c.index-items-place.result.sections (map pair_parts c.index-lists-place.result.items)
here c = sizes_here c.index-items-place.result _ c.index-lists-place.result.items c.deref.result.now
    c.index-items-place.is c.deref.ensures.value

there : (c : After-deref) → c.loop-place.place < length c.args.lists.now
there c = omega (arith, c.loop-place-test.true, same (goal.at.After-deref c).After-items-items)

pub returns-in_err-caps-clause-fault : goal.returns-in_err-caps-clause-fault
returns-in_err-caps-clause-fault c =
    let items = c.items-items.result.now in
    let lists = c.args.lists.now in
    let i = c.loop-place.place in
    let o = c.index-items-place.result in
    let v = c.index-lists-place.result in
    let fault = c.in_err-caps.field-0.0 in
    let exit = err_from_is_err_and c.from_residual.result c.from_residual.ensures.1 in
    let is = c.items-items.ensures in
    let at = (goal.at.returns-in_err-caps-clause-fault c).After-deref in
    let told : List Parts → Type 0 = λ objects.
    OrNoMemory (IsFirstFault IsShort HasLongGroup (all_group_sizes objects (pair_lists lists))) fault in
    err_told c.from_residual.result fault
    (OrNoMemory (IsFirstFault IsShort HasLongGroup
    (all_group_sizes (objects_in c.args.objects.now) (pair_lists lists))))
    (exit.1 ∙ ap (λ (e : Fault). Err e) exit.2)
    (subst told (objects_are c.args.objects.now items is.parts is.under)
    (long_here items lists i o v fault c.loop-place-test.true (there at) c.index-items-place.is c.index-lists-place.is
    c.loop-place.invariant.short
    (subst (λ (ks : List (ℕ × ℕ)). OrNoMemory (IsFirstFault IsShort HasLongGroup ks) fault) (here at)
    c.in_err-caps.ensures.fault)))

pub loop-place-preserved : goal.loop-place-preserved
loop-place-preserved c =
    let items = c.items-items.result.now in
    let lists = c.args.lists.now in
    let i = c.loop-place.place in
    let o = c.index-items-place.result in
    let v = c.index-lists-place.result in
    let inv = c.loop-place.invariant in
    let made = c.in_ok-caps.ensures in
    let caps = c.in_ok-caps.caps in
    let at = (goal.at.loop-place-preserved c).After-deref in
    let own = subst (λ (ps : List GapPair). AreGroupCaps o.sections (map pair_parts ps) caps.items)
    c.deref.ensures.value (subst (λ (x : Object).
    AreGroupCaps x.sections (map pair_parts c.deref.result.now) caps.items) (sym c.index-items-place.is) made.caps)
    in
    record {
      caps = lists_more AreGroupCaps items lists i o v c.loop-place.each.items c.add_caps.new.each.items caps
          c.loop-place-test.true (there at) c.index-items-place.is c.index-lists-place.is c.in_ok-add_caps.ensures
          inv.caps own;
      short = short_more items lists i o v c.loop-place-test.true (there at) c.index-items-place.is
          c.index-lists-place.is inv.short (subst (λ (ks : List (ℕ × ℕ)). All IsShort ks) (here at) made.short);
    }

-- ---- at the end
pub returns-clause-caps : goal.returns-clause-caps
returns-clause-caps c =
    let is = c.items-items.ensures in
    all_done c.args.objects.now c.items-items.result.now c.args.lists.now c.loop-place.place
    (λ objects pss. AreGroupCapLists objects pss c.loop-place.each.items) is.parts is.under c.requires
    (omega (arith, c.loop-place-test.false)) c.loop-place.invariant.caps

pub returns-clause-short : goal.returns-clause-short
returns-clause-short c =
    let is = c.items-items.ensures in
    all_done c.args.objects.now c.items-items.result.now c.args.lists.now c.loop-place.place
    (λ objects pss. All IsShort (all_group_sizes objects pss)) is.parts is.under c.requires
    (omega (arith, c.loop-place-test.false)) c.loop-place.invariant.short
