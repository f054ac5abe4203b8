use Rattle.std.proofs.Common.{◌≡◌, ℕ, List, [], ◌++◌, map, slice_index_or, bytes_eq}
use Rattle.std.specs.List.{range_with_len}
use Rattle.std.specs.HashMap.{get}
use Rattle.correspondence.specs.declared.contour_places.ContourPlace.{ContourPlace}
use Rattle.correspondence.specs.Named.{Finds}
use Rattle.correspondence.proofs.ContourPlaceSteps.{standing}
use Rattle.correspondence.proofs.contour_places.add_section.Given as goal

abbrev pub invariant-loop-place : goal.invariant-loop-place
invariant-loop-place l = (names : List (List (List ℕ))) (places : List ContourPlace)
    → slice_index_or names l.section [] ≡ map (λ c. c.name) l.contours
    → Finds (get bytes_eq l.initial.contour_places) names places
    → Finds (get bytes_eq l.contour_places) names (places ++ map (standing l.section) (range_with_len 0 l.place))
