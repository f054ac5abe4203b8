use Rattle.std.proofs.Common.{◌++◌, ◌∷◌, ◌∙◌, List, ℕ, Option, [], map, ap₂, sym, arith}
use Rattle.std.proofs.lemmas.List.FromFn.{map-range_with_len_more}
use Rattle.correspondence.specs.Contours.{points_of}
use Rattle.ring_caps.specs.Groups.{parent}
use Rattle.ring_caps.proofs.groups.parents.Goals as goal

pub loop-place-preserved : goal.loop-place-preserved
loop-place-preserved c =
    c.in_ok-push.ensures.items ∙ ap₂ (λ (l : List (Option ℕ)) (o : Option ℕ). l ++ o ∷ []) c.loop-place.invariant
    c.parent.ensures
    ∙ sym (map-range_with_len_more (parent (map points_of c.as_slice-contours.result.now)) 0 c.loop-place.place
    c.loop-place.place (omega arith))
