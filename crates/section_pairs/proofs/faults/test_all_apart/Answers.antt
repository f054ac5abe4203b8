use Rattle.std.proofs.Common.{arith, ap, sym, subst, subst₂, ◌∙◌, map, List, ℕ, Err}
use Rattle.std.specs.Prelude.{All}
use Rattle.std.proofs.lemmas.Result.{err_from_is_err_and}
use Rattle.fku_types.specs.declared.points.Point.{Point}
use Rattle.fku_types.specs.declared.fault.Fault.{Fault}
use Rattle.section_core.specs.Flat.{section_data}
use Rattle.correspondence.specs.Apart.{AreApart, IsCrossing}
use Rattle.section_pairs.specs.SectionFaults.{IsApartSection, HasCrossing, IsFirstFault}
use Rattle.section_pairs.proofs.Firsts.{all_more, all_whole, first_here, told}
use Rattle.section_pairs.proofs.SectionData.{outlines_are, names_are, item_at, known_apart}
use Rattle.section_pairs.proofs.faults.test_all_apart.Goals.{then-not-is_same_at+in_ok-test_apart, else-not-is_same_at}
use Rattle.section_pairs.proofs.faults.test_all_apart.Goals as goal

pub returns-in_err-test_apart : goal.returns-in_err-test_apart
returns-in_err-test_apart c =
    let sections = c.args.sections.now in
    let s = c.index-sections-place.result in
    let fault = c.in_err-test_apart.field-0.0 in
    let exit = err_from_is_err_and c.from_residual.result c.from_residual.ensures.1 in
    let crossing : HasCrossing (section_data s) fault =
    subst₂ (λ (names : List (List ℕ)) (lists : List (List Point)). IsCrossing names lists fault) (sym (names_are s))
    (sym (outlines_are s)) c.in_err-test_apart.ensures in
    told c.from_residual.result fault (All IsApartSection (map section_data sections))
    (IsFirstFault IsApartSection HasCrossing (map section_data sections))
    (exit.1 ∙ ap (λ (e : Fault). Err e) exit.2)
    (first_here section_data IsApartSection HasCrossing sections c.loop-place.place s fault c.loop-place-test.true
    c.index-sections-place.is c.loop-place.invariant crossing)

pub loop-place-preserved : goal.loop-place-preserved
loop-place-preserved c =
    let sections = c.args.sections.now in
    let i = c.loop-place.place in
    elim c.if-not-is_same_at.branch [
      | then-not-is_same_at+in_ok-test_apart w ↦
          all_more section_data IsApartSection sections i w.index-sections-place.result c.loop-place-test.true
          w.index-sections-place.is c.loop-place.invariant
          (subst AreApart (sym (outlines_are w.index-sections-place.result)) w.in_ok-test_apart.ensures)
      | else-not-is_same_at w ↦
          let x = item_at sections i c.loop-place-test.true in
          all_more section_data IsApartSection sections i x.0 c.loop-place-test.true x.1 c.loop-place.invariant
          (known_apart c.args.known.now sections i x.0 c.loop-place-test.true x.1
          (c.is_same_at.ensures.same w.if-not-is_same_at.false) c.requires.known)
    ]

pub returns : goal.returns
returns c = all_whole section_data IsApartSection c.args.sections.now c.loop-place.place (omega arith)
    c.loop-place.invariant
