use Rattle.std.proofs.Common.{◌≡◌, true, false, ap, sym, ◌∙◌, refl}
use Rattle.std.specs.List.{list_any}
use Rattle.section_core.specs.Costs.{cost_parts}
use Rattle.section_core.specs.Finished.{has_any}
use Rattle.section_core.proofs.Filled.{finishes_ok, finishes_err}
use Rattle.section_core.proofs.sections.finished.Goals as goal

pub invariant_of-result : goal.invariant_of-result
invariant_of-result c =
    let e : list_any has_any c.args.sections.items ≡ true = ap (list_any has_any) (sym c.deref.ensures.value)
    ∙ sym c.has_contour.ensures ∙ c.if-has_contour.true in (
      record {
        are_parts = c.requires.are_parts;
        lawful = c.requires.lawful;
        contour =
            finishes_ok (cost_parts c.args.head.cost) c.args.head.rule c.args.sections.items c.args.links.items e;
      },
      c.requires.flat,
    )

pub returns-then-has_contour-clause-finishes : goal.returns-then-has_contour-clause-finishes
returns-then-has_contour-clause-finishes c =
    let e : list_any has_any c.args.sections.items ≡ true = ap (list_any has_any) (sym c.deref.ensures.value)
    ∙ sym c.has_contour.ensures ∙ c.if-has_contour.true in
    (refl, finishes_ok (cost_parts c.args.head.cost) c.args.head.rule c.args.sections.items c.args.links.items e)

pub returns-else-has_contour-clause-finishes : goal.returns-else-has_contour-clause-finishes
returns-else-has_contour-clause-finishes c =
    let e : list_any has_any c.args.sections.items ≡ false = ap (list_any has_any) (sym c.deref.ensures.value)
    ∙ sym c.has_contour.ensures ∙ c.if-has_contour.false in
    finishes_err (cost_parts c.args.head.cost) c.args.head.rule c.args.sections.items c.args.links.items e

pub returns-then-has_contour-clause-accepted : goal.returns-then-has_contour-clause-accepted
returns-then-has_contour-clause-accepted c = invariant_of-result c
