-- How many loops a slice has.
use Rattle.std.proofs.Common.{◌≡◌, ℕ, List, [], ◌∷◌, length, refl, arith}
use Rattle.strip_graph.specs.Strips.{Strip}
use Rattle.row_paths.specs.Solutions.{Solution}
use Rattle.section_slices.specs.Slices.{loops_at}

-- one loop for each pair
pub length-loops_at : (d t : ℕ) (strips : List Strip) (xs : List Solution) → length xs ≡ length strips
    → length (loops_at d t strips xs) ≡ length strips
length-loops_at d t [] xs e = refl
length-loops_at d t (s ∷ strips) [] e = e
length-loops_at d t (s ∷ strips) (x ∷ xs) e = omega (arith, length-loops_at d t strips xs (omega (arith, e)))
