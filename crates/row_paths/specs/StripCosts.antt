-- The costs of the steps of a strip as tables.
use Rattle.std.specs.Prelude.{◌≡◌, ℕ, ◌+◌, ◌*◌, ◌/◌, ◌≤◌, ◌<◌, Bool, IsTrue, IsFalse, List, length, slice_index, Option, Some, None}
use Rattle.strip_graph.specs.declared.tilings.Step.TheVariants.{V, H}
use Rattle.strip_graph.specs.Words.{Arcs}
use Rattle.strip_graph.specs.Strips.{Strip, arcs, rows, cols, step_cost_limit}
use Rattle.strip_graph.specs.Layouts.{StripRow, IsByPlace}

-- the largest cost of a step with which no word of a strip costs more than `most`
abbrev pub largest : ℕ → Strip → ℕ
largest most p = most / (2 * rows p + cols p)

-- the costs of the steps V from the columns 0 to n of a row, and of the steps H from the columns 0 to n - 1: none is
-- more than b
pub record IsRowCosts (b : ℕ) (a : Arcs) (n row : ℕ) (downs rights : List ℕ) : Type 0 where
  pub downs_count : n < length downs
  pub rights_count : n ≤ length rights
  pub downs_are : (c : ℕ) → c ≤ n → slice_index downs c ≡ a row c V
  pub rights_are : (c : ℕ) → c < n → slice_index rights c ≡ a row c H
  pub downs_small : (c : ℕ) → c ≤ n → slice_index downs c ≤ b
  pub rights_small : (c : ℕ) → c < n → slice_index rights c ≤ b

-- the first costs of a table in rows of `size`, none more than b
pub record AreFirstCosts (b : ℕ) (cost : ℕ → ℕ → ℕ) (size : ℕ) (costs : List ℕ) : Type 0 where
  pub are : (r c : ℕ) → c < size → r * size + c < length costs → slice_index costs (r * size + c) ≡ cost r c
  pub small : (k : ℕ) → k < length costs → slice_index costs k ≤ b

-- a table of what V costs in the first m rows, and what H costs
pub record AreDowns (b : ℕ) (p : Strip) (costs : List ℕ) : Type 0 where
  pub count : length costs ≡ rows p * (cols p + 1)
  pub first : AreFirstCosts b (λ r c. arcs p r c V) (cols p + 1) costs

pub record AreRights (b : ℕ) (p : Strip) (costs : List ℕ) : Type 0 where
  pub count : length costs ≡ rows p * cols p
  pub first : AreFirstCosts b (λ r c. arcs p r c H) (cols p) costs

-- the costs of H as a table; or, if both steps to a place cost the same, as the costs of V
abbrev pub AreRightsOf : ℕ → Strip → Option (List ℕ) → Type 0
AreRightsOf b p None = IsByPlace p
AreRightsOf b p (Some rights) = AreRights b p rights

-- all costs of a strip, none more than b
pub record AreStripCosts (b : ℕ) (p : Strip) (downs : List ℕ) (rights : Option (List ℕ)) : Type 0 where
  pub by_v : AreDowns b p downs
  pub by_h : AreRightsOf b p rights

-- no cost of a strip is more than `most`, and no sum of a word's costs is more than `most_sum`
pub record AllFit (most most_sum : ℕ) (p : Strip) : Type 0 where
  pub costs : step_cost_limit ≤ most
  pub sums : step_cost_limit ≤ largest most_sum p

-- what is known of a strip's costs: that all fit, if they are computed at each reading; else the costs themselves
pub record AreKnown (computed : Bool) (most most_sum : ℕ) (p : Strip) (downs : List ℕ) (rights : Option (List ℕ)) : Type
    0 where
  pub fit : IsTrue computed → AllFit most most_sum p
  pub kept : IsFalse computed → AreStripCosts (largest most_sum p) p downs rights

-- the same of one row's costs
pub record AreKnownInRow (computed : Bool) (most most_sum : ℕ) (r : StripRow) (steps : Option StripRow)
    (downs rights : List ℕ) : Type 0 where
  pub fit : IsTrue computed → AllFit most most_sum r.strip
  pub computed_from : IsTrue computed → steps ≡ Some r
  pub kept : IsFalse computed → IsRowCosts (largest most_sum r.strip) (arcs r.strip) (cols r.strip) r.row downs rights
