-- Lists of numbers that stand for costs, and sums that fit them.
use Rattle.std.proofs.Common.{◌≡◌, ℕ, ◌+◌, ◌-◌, ◌*◌, ◌^◌, ◌<◌, ◌≤◌, List, map, ◌++◌, take, drop, length, get_or, ap, sym, ◌∙◌, arith, mul-le-mul_right}
use Rattle.std.proofs.lemmas.List.{get_or-map}
use Rattle.std.proofs.Math.Seq.{take-append_seam}
use Rattle.std.proofs.Math.Nat.{mul-div-le, le-div_iff_mul-le}
use Rattle.fku_types.specs.declared.limits.TheConstants.{MAX_COMPOSITE_VERTICES}
use Rattle.strip_graph.specs.Strips.{Strip, rows, cols, step_cost_limit}
use Rattle.row_paths.specs.StripCosts.{largest}

-- what is read from a list, as a number
pub read_is : {X : Type 0} (value : X → ℕ) (xs : List X) (i : ℕ) (x : X) → x ≡ get_or xs i x → i < length xs
    → value x ≡ get_or (map value xs) i 0
read_is value xs i x is lt = ap value is ∙ sym (get_or-map value xs i x 0 lt)

-- a vector's items after all of them were written
pub written : {X : Type 0} (new old : List X) (len : ℕ) → len ≡ length new
    → take len (new ++ drop (length new) old) ≡ new
written new old len e = ap (λ (k : ℕ). take k (new ++ drop (length new) old)) e
    ∙ take-append_seam new (drop (length new) old)

-- the list is as long as before
pub kept : {X : Type 0} (new old from : List X) (len n : ℕ) → length new ≡ length from → from ≡ old → length from ≡ len
    → n ≤ length old → n ≤ length (take len (new ++ drop (length new) old))
kept new old from len n e f size le = rw (written new old len (sym (e ∙ size))) (omega (arith, e, ap length f, le))

-- a word of a strip has at most as many steps as rows and columns allow: its cost, plus one step's cost, fits
pub sum_fits : (most : ℕ) (p : Strip) (r c u v : ℕ) → r + c + 1 ≤ 2 * rows p + cols p → u ≤ (r + c) * largest most p
    → v ≤ largest most p → u + v ≤ most
sum_fits most p r c u v few small small' =
    omega (arith, mul-le-mul_right (largest most p) few, mul-div-le most (2 * rows p + cols p), small, small')

-- 128 bits suffice for each strip
pub wide_enough : (p : Strip) → 0 < rows p → rows p ≤ MAX_COMPOSITE_VERTICES → cols p ≤ MAX_COMPOSITE_VERTICES
    → step_cost_limit ≤ largest (2 ^ 128 - 1) p
wide_enough p some few narrow = (le-div_iff_mul-le {k = 2 * rows p + cols p} {x = step_cost_limit} {y = 2 ^ 128 - 1}
    (omega arith)).1 (omega arith)
