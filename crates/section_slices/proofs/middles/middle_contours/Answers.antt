use Rattle.std.proofs.Common.{◌∙◌, ◌++◌, ◌∷◌, [], ap, ap₂, sym, subst, arith, map, ℕ, List, Vec, Bool, All, to_z, of_z, w32}
use Rattle.std.specs.Global.{Global}
use Rattle.std.proofs.lemmas.List.{map-append}
use Rattle.fku_types.proofs.ListLaws.{all_pushed}
use Rattle.section_core.specs.declared.parts.Contour.{Contour}
use Rattle.section_core.specs.Parts.{ContourParts}
use Rattle.section_core.specs.Flat.{IsAtHeight}
use Rattle.section_core.specs.Views.{contour_parts}
use Rattle.section_pairs.specs.declared.gap_pairs.GapPair.{GapPair}
use Rattle.section_pairs.specs.Pairs.{pair_parts}
use Rattle.section_slices.specs.Densified.{is_in, pair_at, middle_contour, contour_through}
use Rattle.section_slices.specs.Marks.{outlines_of}
use Rattle.section_slices.proofs.Lists.{map_passed, map_failed}
use Rattle.section_slices.proofs.Outlines.{in_gap, not_in_gap, outline_read}
use Rattle.section_slices.proofs.middles.middle_contours.Goals.{then-pairs-place+in_ok-contour_through+in_ok-push, else-pairs-place}
use Rattle.section_slices.proofs.middles.middle_contours.Goals as goal

pub loop-place-preserved : goal.loop-place-preserved
loop-place-preserved c =
    let ps = c.args.pairs.now in
    let outlines = c.args.outlines.now in
    let g = c.args.gap in
    let i = c.loop-place.place in
    let p = c.index-pairs-place.result in
    let l = c.loop-place-test.true in
    let old = c.loop-place.contours.items in
    let new = c.if-pairs-place.contours.items in
    let inv = c.loop-place.invariant in
    let same_gap = ap (λ (q : GapPair). q.gap) c.index-pairs-place.is in
    let test : ℕ → Bool = λ k. is_in g (pair_at (map pair_parts ps) k) in
    elim c.if-pairs-place.branch [
      | then-pairs-place+in_ok-contour_through+in_ok-push w ↦ (
          let y = w.in_ok-contour_through.field-0 in
          let v = w.index-outlines-place.result in
          let more = ap (λ (u : Vec Contour Global). u.items) w.contours-is ∙ w.in_ok-push.ensures.items in
          let spots = w.deref.ensures.value ∙ sym
          (outline_read outlines i v (omega (arith, l, c.requires.outlines)) w.index-outlines-place.is) in
          let here = w.in_ok-contour_through.ensures.parts ∙ ap₂ contour_through w.middle_name-name.ensures spots in
          record {
            parts = ap (map contour_parts) more ∙ map-append contour_parts old (y ∷ [])
                ∙ ap₂ (λ (cs : List ContourParts) (k : ContourParts). cs ++ k ∷ []) inv.parts here
                ∙ sym (map_passed (middle_contour (outlines_of outlines)) test i
                (in_gap ps i g p l c.index-pairs-place.is (same_gap ∙ w.if-pairs-place.true)));
            level = all_pushed (IsAtHeight _) old new y more inv.level w.in_ok-contour_through.ensures.level;
          }
          )
      | else-pairs-place w ↦ (
          let same = ap (λ (u : Vec Contour Global). u.items) w.contours-is in
          record {
            parts = ap (map contour_parts) same ∙ inv.parts
                ∙ sym (map_failed (middle_contour (outlines_of outlines)) test i
                (not_in_gap ps i g p l c.index-pairs-place.is (λ h. w.if-pairs-place.false (sym same_gap ∙ h))));
            level = subst (λ (cs : List Contour). All (IsAtHeight (to_z w32 (of_z w32 c.args.z))) cs) (sym same)
                inv.level;
          }
          )
    ]
