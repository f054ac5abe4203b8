-- A row of a region before a search goes along it, with its first place read.
use Rattle.std.proofs.Common.{◌≡◌, ℕ, ◌+◌, ◌-◌, ◌*◌, ◌<◌, ◌≤◌, min, Bool, List, length, get_or, map, refl, sym, arith}
use Rattle.strip_graph.specs.Words.{Arcs}
use Rattle.row_paths.specs.Searches.{HasCosts, HasWays}
use Rattle.row_paths.specs.Fans.{HasReached}
use Rattle.row_paths.proofs.AmountLaws.{read_is}
use Rattle.row_paths.proofs.Rows.{IsFilledFrom}
use Rattle.row_paths.proofs.FanLaws.{IsReachedTo}

-- from right to left
pub filled_first : {C : Type 0} (value : C → ℕ) (b : ℕ) (a : Arcs) (lo hi : ℕ → ℕ) (end n x from last : ℕ)
    (sums : List C) (cost : C) (ways : List Bool) → from ≡ last → cost ≡ get_or sums last cost → last < length sums
    → HasCosts b a lo hi end n x (map value sums) from → HasWays a lo hi end n x ways from
    → IsFilledFrom b a lo hi end n x (map value sums) ways ways last (value cost)
filled_first value b a lo hi end n x from last sums cost ways e is lt costs known = record {
  cost_is = sym (read_is value sums last cost is lt);
  costs = λ k more to. costs k (omega (arith, e, more)) to;
  ways = λ k more to. known k (omega (arith, e, more)) to;
  rest = λ k out. refl;
}

-- from left to right
pub reached_first : {C : Type 0} (value : C → ℕ) (b : ℕ) (a : Arcs) (lo hi : ℕ → ℕ) (i j x first : ℕ) (sums : List C)
    (cost : C) → cost ≡ get_or sums first cost → first < length sums → HasReached b a lo hi i j x (map value sums) first
    → IsReachedTo b a lo hi i j x (map value sums) first (value cost)
reached_first value b a lo hi i j x first sums cost is lt reached =
    record { cost_is = sym (read_is value sums first cost is lt); reached = reached }

-- no step is counted yet
pub none_left : (was last : ℕ) → was ≤ was + (last - last)
none_left was last = omega arith

pub none_left_of_two : (was last : ℕ) → was ≤ was + 2 * (last - last)
none_left_of_two was last = omega arith

pub low_first : (first last : ℕ) → min first last ≤ last
low_first first last = omega arith
