-- Rows less than three times round.
use Rattle.std.proofs.Common.{◌≡◌, ℕ, ◌+◌, ◌-◌, ◌*◌, ◌%◌, ◌<◌, ◌≤◌, ℤ, pos, ◌+ℤ◌, ◌*ℤ◌, suc, ap, ap₂, ◌∙◌, arith}
use Rattle.std.proofs.lemmas.Int.{ints}
use Rattle.std.proofs.lemmas.Nat.{div-mul-add, mod-mul-add}
use lib.IntN.{suc_ℤ-*ℤ, zero-*ℤ}
use Rattle.strip_graph.specs.Feasible.{lifted_row}

row_at : (m : ℕ) (s : ℤ) (x : ℕ → ℤ) (q k : ℕ) → k < m → lifted_row m s x (q * m + k) ≡ x k +ℤ (pos q *ℤ s)
row_at m s x q k lt = ap₂ (λ (y z : ℕ). x y +ℤ (pos z *ℤ s)) (mod-mul-add q m k lt) (div-mul-add q m k lt)

pub row_low : (m : ℕ) (s : ℤ) (x : ℕ → ℤ) (r : ℕ) → r < m → lifted_row m s x r ≡ x r
row_low m s x r lt =
    let e : r ≡ 0 * m + r = omega arith in
    omega (arith, ints, ap (lifted_row m s x) e, row_at m s x 0 r lt, zero-*ℤ s)

pub row_high : (m : ℕ) (s : ℤ) (x : ℕ → ℤ) (r : ℕ) → m ≤ r → r < 2 * m → lifted_row m s x r ≡ x (r - m) +ℤ s
row_high m s x r ge lt =
    let e : r ≡ 1 * m + (r - m) = omega (arith, ge) in
    let one : 1 ≡ suc 0 = omega arith in
    let more : (pos 1 *ℤ s) ≡ ((pos 0 *ℤ s) +ℤ s) = rw one (suc_ℤ-*ℤ (pos 0) s) in
    omega (arith, ints, ap (lifted_row m s x) e, row_at m s x 1 (r - m) (omega (arith, ge, lt)), more, zero-*ℤ s)

pub row_higher : (m : ℕ) (s : ℤ) (x : ℕ → ℤ) (r : ℕ) → 2 * m ≤ r → r < 3 * m
    → lifted_row m s x r ≡ (x (r - 2 * m) +ℤ s) +ℤ s
row_higher m s x r ge lt =
    let e : r ≡ 2 * m + (r - 2 * m) = omega (arith, ge) in
    let two : 2 ≡ suc 1 = omega arith in
    let one : 1 ≡ suc 0 = omega arith in
    let more : (pos 1 *ℤ s) ≡ ((pos 0 *ℤ s) +ℤ s) = rw one (suc_ℤ-*ℤ (pos 0) s) in
    let again : (pos 2 *ℤ s) ≡ ((pos 1 *ℤ s) +ℤ s) = rw two (suc_ℤ-*ℤ (pos 1) s) in
    omega (
      arith,
      ints,
      ap (lifted_row m s x) e,
      row_at m s x 2 (r - 2 * m) (omega (arith, ge, lt)),
      again,
      more,
      zero-*ℤ s,
    )

-- the row of the ring
pub ring_low : (m r : ℕ) → r < m → r % m ≡ r
ring_low m r lt = let e : r ≡ 0 * m + r = omega arith in ap (λ (x : ℕ). x % m) e ∙ mod-mul-add 0 m r lt

pub ring_high : (m r : ℕ) → m ≤ r → r < 2 * m → r % m ≡ r - m
ring_high m r ge lt = let e : r ≡ 1 * m + (r - m) = omega (arith, ge) in ap (λ (x : ℕ). x % m) e
    ∙ mod-mul-add 1 m (r - m) (omega (arith, ge, lt))
