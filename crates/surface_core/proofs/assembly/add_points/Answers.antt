use Rattle.std.proofs.Common.{◌<◌, ◌≤◌, ◌++◌, ◌∙◌, List, get_or, length, ap, subst}
use Rattle.fku_types.specs.declared.points.Point.{Point}
use Rattle.correspondence.specs.Contours.{points_of}
use Rattle.section_core.specs.declared.parts.Contour.{Contour}
use Rattle.fku_types.proofs.LoopSteps.{put_next, put_all}
use Rattle.surface_core.proofs.assembly.add_points.Goals as goal

pub loop-contour-preserved : goal.loop-contour-preserved
loop-contour-preserved c =
    let same = c.deref-contour-items.ensures.value in
    let i = c.loop-contour.contour-index in
    let contour = c.contour-item.result in
    let was = c.loop-contour.points.items in
    put_next points_of c.args.section.now.contours.items i contour c.args.points.now.items was
    c.extend_from_slice.new.self.items (subst (λ (xs : List Contour). i < length xs) same c.loop-contour-test.true)
    (c.contour-item.is ∙ ap (λ (xs : List Contour). get_or xs i contour) same) c.loop-contour.invariant
    (c.in_ok-extend_from_slice.ensures.items ∙ ap (λ (ps : List Point). was ++ ps) c.deref.ensures.value)

pub returns : goal.returns
returns c =
    let i = c.loop-contour.contour-index in
    put_all points_of c.args.section.now.contours.items i c.args.points.now.items c.loop-contour.points.items
    (subst (λ (xs : List Contour). length xs ≤ i) c.deref-contour-items.ensures.value c.loop-contour-test.false)
    c.loop-contour.invariant
