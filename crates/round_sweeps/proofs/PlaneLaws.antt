-- Squared spans by columns.
use Rattle.std.proofs.Common.{◌≡◌, ◌∙◌, ℕ, ◌+◌, ◌*◌, ◌%◌, ◌<◌, ◌≤◌, ℤ, pos, ◌-ℤ◌, ◌≤ℤ◌, unsigned_abs, List, length, ap, sym, arith}
use Rattle.std.proofs.lemmas.Int.{ints}
use Rattle.std.proofs.lemmas.Nat.{mod-mul-add}
use Rattle.fku_types.specs.Points.{IsCoordinate}
use Rattle.strip_graph.proofs.Bounds.{square-le}
use Rattle.round_sweeps.specs.Columns.{at_row, AreColumnCosts}
use Rattle.round_sweeps.specs.Planes.{AreCoordinates, rise_limit, span_cost, span_at, span_arcs}
use Rattle.round_sweeps.proofs.RoundLaws.{ring_low}

-- row m is row 0
pub row_round : (m r : ℕ) → r < m → (r + m) % m ≡ r
row_round m r lt = let e : r + m ≡ 1 * m + r = omega arith in ap (λ (x : ℕ). x % m) e ∙ mod-mul-add 1 m r lt

pub span_columns : (xs ys us vs : List ℤ) (rise : ℤ) (c : ℕ) → length ys ≡ length xs → AreCoordinates xs
    → AreCoordinates ys → IsCoordinate (at_row us c) → IsCoordinate (at_row vs c) → pos 0 ≤ℤ rise → rise ≤ℤ rise_limit
    → AreColumnCosts (span_arcs xs ys us vs rise) (length xs) c (span_cost xs ys (at_row us c) (at_row vs c) rise)
    (span_cost xs ys (at_row us c) (at_row vs c) rise)
span_columns xs ys us vs rise c same xs_fit ys_fit u v least most = record {
  down = λ r lt. place c (r + 1) ∙ ap (λ (k : ℕ). pos (span_at xs ys us vs rise k c))
      (sym (ring_low (length xs) (r + 1) lt));
  round = λ r e. place c 0 ∙ ap (λ (k : ℕ). pos (span_at xs ys us vs rise k c)) (sym (first r e));
  right = λ r k lt e. place c r ∙ ap (λ (j : ℕ). pos (span_at xs ys us vs rise r j)) e
      ∙ ap (λ (j : ℕ). pos (span_at xs ys us vs rise j (k + 1))) (sym (ring_low (length xs) r lt));
  small = λ r lt.
      (let x : unsigned_abs (at_row xs r -ℤ at_row us c) ≤ 1999998 = omega (arith, ints, xs_fit r lt, u) in
      let y : unsigned_abs (at_row ys r -ℤ at_row vs c) ≤ 1999998 =
      omega (arith, ints, ys_fit r (omega (arith, lt, same)), v) in
      omega (
        arith,
        ints,
        most,
        square-le (at_row xs r -ℤ at_row us c) 1999998 x,
        square-le (at_row ys r -ℤ at_row vs c) 1999998 y,
      ));
}
  where
    place : (j r : ℕ) → span_cost xs ys (at_row us j) (at_row vs j) rise r ≡ pos (span_at xs ys us vs rise r j)
    place j r = omega (arith, ints, least)

    first : (r : ℕ) → r + 1 ≡ length xs → (r + 1) % length xs ≡ 0
    first r e =
        let d : r + 1 ≡ 0 + length xs = omega (arith, e) in
        ap (λ (k : ℕ). k % length xs) d ∙ row_round (length xs) 0 (omega (arith, e))
