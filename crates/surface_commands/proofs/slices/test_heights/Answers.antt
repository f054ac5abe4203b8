use Rattle.std.proofs.Common.{◌∙◌, ℤ, true≢false, sym, subst, take}
use Rattle.plane_geom.proofs.Signed.{passed_i32}
use Rattle.fku_types.specs.declared.fault.Fault.TheVariants.{Outside}
use Rattle.section_core.specs.Parts.{Parts}
use Rattle.surface_core.specs.Objects.{sections_in}
use Rattle.surface_core.proofs.ObjectFacts.{objects_are}
use Rattle.section_slices.specs.Slices.{IsHeightFault as IsFaultOfOne, IsOnSection, IsOutside}
use Rattle.section_slices.proofs.SliceLaws.{not_on_section}
use Rattle.surface_commands.specs.Slice.{IsHeightFaultOfAll, on_section, outside}
use Rattle.surface_commands.proofs.SliceLemmas.{OnNone, OutsideAll, lies_on, lies_outside, no_outside, no_section, none_more, object_at, of_all, outside_at, outside_more}
use Rattle.surface_commands.proofs.slices.test_heights.Goals as goal
use Rattle.surface_commands.proofs.slices.test_heights.Goals.{in-Ok, in-Err+else-not-is_outside}

pub returns-then-not-is_outside-clause-fault : goal.returns-then-not-is_outside-clause-fault
returns-then-not-is_outside-clause-fault c =
    let F = c.args.objects.now in
    let items = c.items-object-items.result.now in
    let i = c.loop-object.object-index in
    let o = c.object-item.result in
    let z = c.args.z in
    let fault = c.in-Err.fault in
    let here : IsFaultOfOne o.sections z fault =
    subst (λ (w : ℤ). IsFaultOfOne o.sections w fault) (passed_i32 z c.requires) c.in-Err.ensures.fault in
    let is = lies_on o.sections z fault (sym c.is_outside.ensures ∙ c.if-not-is_outside.true) here in
    let are = objects_are F items c.items-object-items.ensures.parts c.items-object-items.ensures.under in
    subst (IsHeightFaultOfAll F z) (sym is.0)
    (on_section i o.sections (object_at F items i o are c.loop-object-test.true c.object-item.is) is.1)

pub loop-object-preserved : goal.loop-object-preserved
loop-object-preserved c =
    let items = c.items-object-items.result.now in
    let i = c.loop-object.object-index in
    let o = c.object-item.result in
    let S = o.sections in
    let was = c.loop-object.invariant in
    elim c.match-test_height.branch [
      | in-Ok w ↦ record {
        on_none = none_more _ items i o c.loop-object-test.true c.object-item.is was.on_none
            (no_section S _ w.in-Ok.ensures.between);
        cut = λ e all. no_outside S _ w.in-Ok.ensures.between
            (outside_at _ items i o c.loop-object-test.true c.object-item.is all);
        none = λ e. absurd (true≢false (sym w.is_cut-is ∙ e));
      }
      | in-Err+else-not-is_outside w ↦
          let out = lies_outside S _ w.in-Err.fault (sym w.is_outside.ensures ∙ w.if-not-is_outside.false)
          w.in-Err.ensures.fault in
          record {
            on_none = none_more _ items i o c.loop-object-test.true c.object-item.is was.on_none
                (not_on_section S _ out);
            cut = λ e all. was.cut (sym w.is_cut-is ∙ e) all;
            none = λ e. outside_more _ items i o c.loop-object-test.true c.object-item.is
                (was.none (sym w.is_cut-is ∙ e)) out;
          }
    ]

pub returns-then-is_cut-clause-fits : goal.returns-then-is_cut-clause-fits
returns-then-is_cut-clause-fits c =
    let F = c.args.objects.now in
    let items = c.items-object-items.result.now in
    let i = c.loop-object.object-index in
    let z = c.args.z in
    let same = passed_i32 z c.requires in
    let are = objects_are F items c.items-object-items.ensures.parts c.items-object-items.ensures.under in
    let was = c.loop-object.invariant in
    record {
      on_none = of_all (λ (S : Parts). IsOnSection S z → ⊥) F items i are c.loop-object-test.false
          (subst (λ (w : ℤ). OnNone w (sections_in (take i items))) same was.on_none);
      some = λ all. subst (λ (w : ℤ). OutsideAll w (sections_in items) → ⊥) same (was.cut c.if-is_cut.true)
          (subst (OutsideAll z) (sym are) all);
    }

pub returns-else-is_cut-clause-fault : goal.returns-else-is_cut-clause-fault
returns-else-is_cut-clause-fault c =
    let F = c.args.objects.now in
    let items = c.items-object-items.result.now in
    let i = c.loop-object.object-index in
    let z = c.args.z in
    let same = passed_i32 z c.requires in
    let are = objects_are F items c.items-object-items.ensures.parts c.items-object-items.ensures.under in
    let all = subst (λ (w : ℤ). OutsideAll w (sections_in (take i items))) same
    (c.loop-object.invariant.none c.if-is_cut.false) in
    subst (λ (w : ℤ). IsHeightFaultOfAll F z (Outside w)) (sym same)
    (outside (of_all (λ (S : Parts). IsOutside S z) F items i are c.loop-object-test.false all))
