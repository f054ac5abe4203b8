use Rattle.std.proofs.Common.{◌<◌, pos, ap, ◌∙◌, arith, unsigned_abs}
use Rattle.std.proofs.lemmas.List.{get_or_default}
use Rattle.strip_graph.specs.Strips.{rows}
use Rattle.row_paths.proofs.OffsetLaws.{offset_below}
use Rattle.row_paths.proofs.SolutionLaws.{cost_below}
use Rattle.row_paths.proofs.laws.solutions_are_bounded.Goals as goal

pub returns-clause-cost : goal.returns-clause-cost
returns-clause-cost c = cost_below

pub returns-clause-offsets : goal.returns-clause-offsets
returns-clause-offsets c =
    λ s xs p h i d lt.
    (let some : i < rows s = omega (arith, lt, h.count) in
    omega (arith, offset_below s i p some, ap unsigned_abs (get_or_default xs i d (pos 0) lt ∙ h.are i some)))
