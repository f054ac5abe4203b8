use Rattle.std.proofs.Common.{◌≡◌, ◌+◌, ◌<◌, ◌∷◌, List, drop, length, get_or, subst}
use Rattle.std.specs.List.{flat_map}
use Rattle.section_core.specs.declared.parts.Contour.{Contour}
use Rattle.section_core.specs.Made.{contour_pieces, IsNamed}
use Rattle.section_core.proofs.Walking.{GoesOn, goes_more, goes_err, all_next}
use Rattle.fku_types.proofs.ListLaws.{drop_next}
use Rattle.section_core.proofs.making.admit_contours.Goals as goal

pub returns-in-Err-clause-walks : goal.returns-in-Err-clause-walks
returns-in-Err-clause-walks c f t =
    let xs = c.args.section.now.contours.items in
    let i = c.loop-contour.contour-index in
    let item = c.contour-item.result in
    let next : drop i xs ≡ item ∷ drop (i + 1) xs =
    drop_next xs i item (subst (λ (ys : List Contour). i < length ys) c.deref-contour-items.ensures.value
    c.loop-contour-test.true) (subst (λ (ys : List Contour). item ≡ get_or ys i item)
    c.deref-contour-items.ensures.value c.contour-item.is) in
    let on = subst (λ (ys : List Contour).
    GoesOn f (flat_map (contour_pieces c.args.section.now.z) xs) c.loop-contour.tally
    (flat_map (contour_pieces c.args.section.now.z) ys)) next (c.loop-contour.invariant.goes f t) in
    goes_err f (flat_map (contour_pieces c.args.section.now.z) xs) c.loop-contour.tally c.admit_contour.new.tally
    c.admit_contour.new.tally (contour_pieces c.args.section.now.z item)
    (flat_map (contour_pieces c.args.section.now.z) (drop (i + 1) xs)) c.in-Err.fault on
    (c.in-Err.ensures.walks on.facts on.tallies)

pub loop-contour-preserved : goal.loop-contour-preserved
loop-contour-preserved c =
    let xs = c.args.section.now.contours.items in
    let i = c.loop-contour.contour-index in
    let item = c.contour-item.result in
    let next : drop i xs ≡ item ∷ drop (i + 1) xs =
    drop_next xs i item (subst (λ (ys : List Contour). i < length ys) c.deref-contour-items.ensures.value
    c.loop-contour-test.true) (subst (λ (ys : List Contour). item ≡ get_or ys i item)
    c.deref-contour-items.ensures.value c.contour-item.is) in
    record {
      goes = λ f t.
          let on = subst (λ (ys : List Contour).
          GoesOn f (flat_map (contour_pieces c.args.section.now.z) xs) c.loop-contour.tally
          (flat_map (contour_pieces c.args.section.now.z) ys)) next (c.loop-contour.invariant.goes f t) in
          goes_more f (flat_map (contour_pieces c.args.section.now.z) xs) c.loop-contour.tally c.admit_contour.new.tally
          (contour_pieces c.args.section.now.z item)
          (flat_map (contour_pieces c.args.section.now.z) (drop (i + 1) xs)) c.in-Ok.field-0 on
          (c.in-Ok.ensures.walks on.facts on.tallies);
      named = all_next IsNamed xs i item (drop (i + 1) xs) next c.loop-contour.invariant.named c.in-Ok.ensures.named;
    }
