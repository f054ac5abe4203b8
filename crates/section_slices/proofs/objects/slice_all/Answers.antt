use Rattle.std.proofs.Common.{◌≡◌, ◌∙◌, ℤ, List, Vec, All, IfOk, length, map, flat_map, ap, sym, subst, arith, w32, to_z, of_z, to_z-of_z}
use Rattle.std.specs.Global.{Global}
use Rattle.std.specs.List.{AllZip}
use Rattle.section_core.specs.Parts.{Parts, FileParts}
use Rattle.section_core.specs.Objects.{object_parts, AreUnder}
use Rattle.section_core.specs.declared.objects.Object.{Object}
use Rattle.section_pairs.specs.declared.gap_pairs.GapPair.{GapPair}
use Rattle.section_pairs.specs.SectionFaults.{ArePairs}
use Rattle.surface_core.specs.Objects.{AreAllPairs, pair_lists, objects_in, sections_in}
use Rattle.surface_core.proofs.ObjectFacts.{objects_are}
use Rattle.section_slices.specs.Slices.{IsCut, IsOnSection}
use Rattle.section_slices.proofs.ObjectSlices.{held, few_strips}
use Rattle.section_slices.proofs.objects.slice_all.Goals as goal

-- the pairs of the objects, as the code holds them
pairs : (F : FileParts) (items : List Object) (lists : List (Vec GapPair Global)) → map object_parts items ≡ F.objects
    → AreUnder F.cost F.rule items → AreAllPairs F (pair_lists lists)
    → AllZip ArePairs (sections_in items) (pair_lists lists)
pairs F items lists parts under h =
    subst (λ (objects : List Parts). AllZip ArePairs objects (pair_lists lists)) (sym (objects_are F items parts under))
    h

pub strips_of_each-requires : goal.strips_of_each-requires
strips_of_each-requires g c =
    pairs c.args.objects.now c.items-items.result.now c.args.lists.now c.items-items.ensures.parts
    c.items-items.ensures.under c.requires.pairs

pub cuts_of_each-requires-clause-height : goal.cuts_of_each-requires-clause-height
cuts_of_each-requires-clause-height g c =
    subst (λ (z : ℤ). All (λ (S : Parts). IsOnSection S z → ⊥) (sections_in c.items-items.result.now))
    (sym (to_z-of_z c.ranges.z))
    (subst (λ (objects : List Parts). All (λ (S : Parts). IsOnSection S c.args.z → ⊥) objects)
    (sym (objects_are c.args.objects.now c.items-items.result.now c.items-items.ensures.parts
    c.items-items.ensures.under)) c.requires.height)

pub returns-clause-cuts : goal.returns-clause-cuts
returns-clause-cuts g c =
    let made = subst (λ (objects : List Parts).
    IfOk c.cuts_of_each.result (λ v. AllZip (IsCut (to_z w32 (of_z w32 c.args.z))) objects v.items))
    (objects_are c.args.objects.now c.items-items.result.now c.items-items.ensures.parts
    c.items-items.ensures.under) c.cuts_of_each.ensures.cuts in
    subst (λ (z : ℤ). IfOk c.cuts_of_each.result (λ v. AllZip (IsCut z) (objects_in c.args.objects.now) v.items))
    (to_z-of_z c.ranges.z) made

pub returns-in_err-solved-clause-not_more : goal.returns-in_err-solved-clause-not_more
returns-in_err-solved-clause-not_more g c =
    omega (
      arith,
      c.solve_each.ensures.not_more,
      ap length c.deref-2.ensures.value,
      few_strips (to_z w32 (of_z w32 c.args.z)) (sections_in c.items-items.result.now) (pair_lists c.args.lists.now)
          c.in_ok-each.each.items c.in_ok-all.all.items
          (pairs c.args.objects.now c.items-items.result.now c.args.lists.now c.items-items.ensures.parts
          c.items-items.ensures.under c.requires.pairs) c.in_ok-each.ensures
          (c.in_ok-all.ensures ∙ ap (flat_map held) c.deref.ensures.value),
    )

pub returns-clause-not_more : goal.returns-clause-not_more
returns-clause-not_more g c =
    omega (
      arith,
      c.solve_each.ensures.not_more,
      ap length c.deref-2.ensures.value,
      few_strips (to_z w32 (of_z w32 c.args.z)) (sections_in c.items-items.result.now) (pair_lists c.args.lists.now)
          c.in_ok-each.each.items c.in_ok-all.all.items
          (pairs c.args.objects.now c.items-items.result.now c.args.lists.now c.items-items.ensures.parts
          c.items-items.ensures.under c.requires.pairs) c.in_ok-each.ensures
          (c.in_ok-all.ensures ∙ ap (flat_map held) c.deref.ensures.value),
    )
