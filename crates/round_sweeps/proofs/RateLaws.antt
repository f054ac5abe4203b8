-- Rates, row by row.
use Rattle.std.proofs.Common.{◌≡◌, ℕ, ◌+◌, ◌<◌, ◌≤◌, ℤ, pos, ◌≤ℤ◌, List, length, length-set, set, ap, ◌∙◌, arith}
use Rattle.std.proofs.lemmas.Int.{ints}
use Rattle.fku_types.proofs.ListLaws.{set_more}
use Rattle.round_sweeps.specs.Columns.{cost_limit, at_row}
use Rattle.round_sweeps.specs.Starts.{AreRates}
use Rattle.round_sweeps.proofs.ColumnLaws.{replaced}

-- rates of rows that are at most those of a list
pub record AreLowered (old new : List ℤ) : Type 0 where
  pub count : length new ≡ length old
  pub rates : AreRates new
  pub lower : (r : ℕ) → r < length old → at_row new r ≤ℤ at_row old r

pub lowered_more : (old new : List ℤ) (row : ℕ) (cost : ℤ) → AreLowered old new → row < length old → pos 0 ≤ℤ cost
    → cost ≤ℤ at_row new row → AreLowered old (set new row cost)
lowered_more old new row cost h lt least less = record {
  count = length-set new row cost ∙ h.count;
  rates = record {
    least = λ r in'. replaced (λ (x : ℤ). pos 0 ≤ℤ x) new row r cost within (λ _. least)
        (λ _. h.rates.least r (omega (arith, in', length-set new row cost)));
    most = λ r in'. replaced (λ (x : ℤ). x ≤ℤ cost_limit) new row r cost within
        (λ _. omega (arith, ints, less, h.rates.most row within))
        (λ _. h.rates.most r (omega (arith, in', length-set new row cost)));
  };
  lower = λ r in'. replaced (λ (x : ℤ). x ≤ℤ at_row old r) new row r cost within
      (λ d. omega (arith, ints, less, h.lower row lt, ap (at_row old) d)) (λ _. h.lower r in');
}
  where
    within : row < length new
    within = omega (arith, lt, h.count)

-- the first rows have their costs
pub record AreFirstRates (row : ℕ) (downs : ℕ → ℤ) (new : List ℤ) : Type 0 where
  pub are : (r : ℕ) → r < row → at_row new r ≡ downs r
  pub least : (r : ℕ) → r < row → pos 0 ≤ℤ at_row new r
  pub most : (r : ℕ) → r < row → at_row new r ≤ℤ cost_limit

pub first_none : (downs : ℕ → ℤ) (new : List ℤ) → AreFirstRates 0 downs new
first_none downs new = record {
  are = λ r lt. absurd (omega (arith, lt));
  least = λ r lt. absurd (omega (arith, lt));
  most = λ r lt. absurd (omega (arith, lt));
}

pub first_more : (row : ℕ) (downs : ℕ → ℤ) (new : List ℤ) (cost : ℤ) → AreFirstRates row downs new → row < length new
    → cost ≡ downs row → pos 0 ≤ℤ cost → cost ≤ℤ cost_limit → AreFirstRates (row + 1) downs (set new row cost)
first_more row downs new cost h lt e least most = record {
  are = set_more (λ (k : ℕ) (x : ℤ). x ≡ downs k) (pos 0) new row cost lt h.are e;
  least = set_more (λ (k : ℕ) (x : ℤ). pos 0 ≤ℤ x) (pos 0) new row cost lt h.least least;
  most = set_more (λ (k : ℕ) (x : ℤ). x ≤ℤ cost_limit) (pos 0) new row cost lt h.most most;
}

pub first_all : (row : ℕ) (downs : ℕ → ℤ) (new : List ℤ) → AreFirstRates row downs new → length new ≤ row → AreRates new
first_all row downs new h le = record
    { least = λ r lt. h.least r (omega (arith, lt, le)); most = λ r lt. h.most r (omega (arith, lt, le)) }
