use Rattle.std.proofs.Common.{ℕ, List, ap, ◌∙◌, sym, subst, arith, Err}
use Rattle.std.proofs.lemmas.Result.{err_from_is_err_and}
use Rattle.fku_types.specs.declared.fault.Fault.{Fault}
use Rattle.plane_geom.specs.RingViews.{ring_views}
use Rattle.section_pairs.specs.Rings.{pick}
use Rattle.section_pairs.specs.Pairs.{IsShort}
use Rattle.section_pairs.specs.SectionFaults.{IsFirstFault, OrNoMemory}
use Rattle.section_pairs.proofs.Sides.{err_told}
use Rattle.ring_caps.specs.GroupCaps.{group_cap, group_folded}
use Rattle.ring_caps.specs.RingSurfaces.{group_size, side_sizes, HasLongGroup}
use Rattle.ring_caps.specs.Held.{IsGroup, lists}
use Rattle.ring_caps.proofs.CapLoops.{group_at, tops_more, folded_more, sizes_more, long_group}
use Rattle.ring_caps.proofs.caps.side_caps.Goals as goal

pub group_cap-requires-clause-group : goal.group_cap-requires-clause-group
group_cap-requires-clause-group c =
    let rings = ring_views c.args.rings.now in
    subst (IsGroup rings) (sym c.deref.ensures.value)
    (group_at (IsGroup rings) c.args.groups.now c.loop-group.group-index c.group-item.result c.loop-group-test.true
    c.group-item.is c.requires.groups)

pub returns-in_err-more-clause-fault : goal.returns-in_err-more-clause-fault
returns-in_err-more-clause-fault c =
    let rings = ring_views c.args.rings.now in
    let s = c.args.section in
    let fault = c.in_err-more.field-0.0 in
    let exit = err_from_is_err_and c.from_residual.result c.from_residual.ensures.1 in
    err_told c.from_residual.result fault
    (OrNoMemory (IsFirstFault IsShort HasLongGroup (side_sizes s rings (lists c.args.groups.now))))
    (exit.1 ∙ ap (λ (e : Fault). Err e) exit.2)
    (long_group s rings c.args.groups.now c.loop-group.group-index c.group-item.result fault c.loop-group-test.true
    c.group-item.is c.loop-group.invariant.short
    (subst (λ (g : List ℕ). OrNoMemory (HasLongGroup (group_size s rings g)) fault) c.deref.ensures.value
    c.in_err-more.ensures.fault))

pub loop-group-preserved : goal.loop-group-preserved
loop-group-preserved c =
    let rings = ring_views c.args.rings.now in
    let s = c.args.section in
    let groups = c.args.groups.now in
    let i = c.loop-group.group-index in
    let v = c.group-item.result in
    let l = c.loop-group-test.true in
    let e = c.group-item.is in
    let d = c.deref.ensures.value in
    let inv = c.loop-group.invariant in
    let old = c.loop-group.list in
    let new = c.append.new.list in
    let more = c.in_ok-more.more in
    record {
      triangles = tops_more rings groups i v old.triangles.items new.triangles.items more.triangles.items l e
          inv.triangles (c.in_ok-more.ensures.triangles ∙ ap (λ (g : List ℕ). group_cap (pick rings g)) d)
          c.in_ok-append.ensures.triangles;
      folded = folded_more rings groups i v old.folded new.folded more.folded l e inv.folded
          (c.in_ok-more.ensures.folded ∙ ap (λ (g : List ℕ). group_folded (pick rings g)) d)
          c.in_ok-append.ensures.folded;
      small = omega (arith, inv.small, c.in_ok-more.ensures.small, c.in_ok-append.ensures.folded);
      short = sizes_more s rings groups i v l e inv.short
          (subst (λ (g : List ℕ). IsShort (group_size s rings g)) d c.in_ok-more.ensures.short);
    }
