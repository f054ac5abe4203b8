use Rattle.std.proofs.Common.{◌++◌, ◌∷◌, ◌∙◌, List, ℕ, [], map, ap₂, sym, subst, arith}
use Rattle.std.proofs.lemmas.List.FromFn.{map-range_with_len_more}
use Rattle.section_core.specs.declared.parts.Contour.{Contour}
use Rattle.correspondence.specs.Contours.{points_of}
use Rattle.correspondence.specs.Nesting.{depth, AreDepths}
use Rattle.correspondence.proofs.Nested.{depths_more, all_depths}
use Rattle.correspondence.proofs.nesting.depths.Goals as goal

pub loop-place-preserved : goal.loop-place-preserved
loop-place-preserved c = record {
  depths =
      c.in_ok-push.ensures.items ∙ ap₂ (λ (l : List ℕ) (k : ℕ). l ++ k ∷ []) c.loop-place.invariant.depths
      c.depth.ensures.depth
      ∙ sym (map-range_with_len_more (depth (map points_of c.as_slice-contours.result.now)) 0 c.loop-place.place
      c.loop-place.place (omega arith));
  counted = depths_more c.as_slice-contours.result.now c.loop-place.place c.depth.result c.depth.ensures.depth
      c.depth.ensures.counted c.loop-place.invariant.counted;
}

pub returns-clause-counted : goal.returns-clause-counted
returns-clause-counted c =
    let contours = c.as_slice-contours.result.now in
    subst (λ (cs : List Contour). AreDepths (map points_of cs) c.loop-place.depths.items)
    c.as_slice-contours.ensures.value
    (all_depths contours c.loop-place.depths.items c.loop-place.place (omega arith) c.loop-place.invariant.depths
    c.loop-place.invariant.counted)
