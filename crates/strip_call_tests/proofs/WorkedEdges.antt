-- Closed triangles, what triangles leave over, and reads and writes that take nothing: the definitions at worked
-- examples.
use Rattle.std.proofs.Common.{[], ◌∷◌, Some, refl, arith}
use Rattle.text_io.specs.declared.outside.Took.TheVariants as took
use Rattle.text_io.specs.declared.outside.Gave.TheVariants as gave
use Rattle.text_io.specs.Outside.{Takes, Gives}
use Rattle.plane_geom.specs.Rings.{IsClosed, LeavesOver}
use Rattle.plane_geom.proofs.Counts.{closed, leaves_over}

-- a tetrahedron
four_sides : IsClosed ((0 ∷ 2 ∷ 1 ∷ []) ∷ (0 ∷ 1 ∷ 3 ∷ []) ∷ (1 ∷ 2 ∷ 3 ∷ []) ∷ (2 ∷ 0 ∷ 3 ∷ []) ∷ [])
four_sides = closed ((0 ∷ 2 ∷ 1 ∷ []) ∷ (0 ∷ 1 ∷ 3 ∷ []) ∷ (1 ∷ 2 ∷ 3 ∷ []) ∷ (2 ∷ 0 ∷ 3 ∷ []) ∷ []) (λ f. omega arith)

-- two triangles leave over the square that they fill, forwards
square_forwards : LeavesOver ((3 ∷ 0 ∷ 1 ∷ []) ∷ (1 ∷ 2 ∷ 3 ∷ []) ∷ []) ((0 ∷ 1 ∷ 2 ∷ 3 ∷ []) ∷ []) []
square_forwards = leaves_over ((3 ∷ 0 ∷ 1 ∷ []) ∷ (1 ∷ 2 ∷ 3 ∷ []) ∷ []) ((0 ∷ 1 ∷ 2 ∷ 3 ∷ []) ∷ []) []
    (λ f. omega arith)

-- the end comes where nothing is left, and a failure takes and appends nothing
nothing_taken : Takes took.End (Some []) (Some []) (0 ∷ []) × Gives gave.Failed (Some (5 ∷ [])) (Some (5 ∷ [])) (6 ∷ [])
nothing_taken = ((refl, refl, refl), refl)
