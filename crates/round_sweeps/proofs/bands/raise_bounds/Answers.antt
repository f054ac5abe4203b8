use Rattle.std.proofs.Common.{◌≡◌, ◌∙◌, ℤ, ℕ, ◌+◌, ◌-◌, ◌*◌, ◌%◌, ◌<◌, ◌≤◌, pos, ◌≤ℤ◌, List, length, take, ap, arith, to_z, of_z, w64}
use Rattle.std.proofs.lemmas.Int.{ints, to_z-of_z}
use Rattle.std.proofs.lemmas.List.{length-take-le}
use Rattle.strip_graph.specs.declared.tilings.Step.{Step}
use Rattle.strip_graph.specs.Words.{HasLetters, word_cost}
use Rattle.strip_graph.specs.Feasible.{lifted}
use Rattle.round_sweeps.specs.Columns.{at_row, table_at}
use Rattle.round_sweeps.specs.Searches.{gone}
use Rattle.round_sweeps.specs.Bands.{IsBand}
use Rattle.round_sweeps.proofs.OfColumnLaws.{numbers_at}
use Rattle.round_sweeps.proofs.BandLaws.{first_at, first_bounded, band_bound, raised}
use Rattle.round_sweeps.proofs.bands.raise_bounds.Given as given
use Rattle.round_sweeps.proofs.bands.raise_bounds.Goals as goal
use Rattle.round_sweeps.proofs.bands.raise_bounds.Goals.{In-loop-row}

pub number_at-number-requires-clause-bounded : goal.number_at-number-requires-clause-bounded
number_at-number-requires-clause-bounded g c =
    let m : ℕ = c.args.rows in
    let table = c.args.table.now in
    let len : length (take m table) ≡ m = length-take-le m table (omega (arith, c.requires.search.table_fits.room)) in
    rw len (first_bounded m table (c.requires.search.table_fits.inside 0 (omega arith)))

-- the number of the end of a row's turn, and the sum at its start
end_in : (g : given.Over) (c : In-loop-row g)
    → (pos 0 ≤ℤ at_row c.args.ends.now (c.args.rows + c.loop-row.row))
    × (at_row c.args.ends.now (c.args.rows + c.loop-row.row) ≤ℤ gone)
end_in g c =
    let at : c.args.rows + c.loop-row.row ≤ 2 * c.args.rows - 1 = omega (arith, c.loop-row-test.true) in
    (c.requires.ends.least _ at, c.requires.ends.most _ at)

-- no cast changes such a number
kept : (x : ℤ) → (pos 0 ≤ℤ x) × (x ≤ℤ gone) → to_z w64 (of_z w64 x) ≡ x
kept x h = omega (arith, ints, h.0, h.1)

sum_in : (g : given.Over) (c : In-loop-row g)
    → (pos 0 ≤ℤ at_row c.search_band.new.sums c.loop-row.row)
    × (at_row c.search_band.new.sums c.loop-row.row ≤ℤ gone)
sum_in g c =
    let at : c.loop-row.row ≤ 2 * c.args.rows - 1 = omega (arith, c.loop-row-test.true) in
    (c.search_band.ensures.sums.least _ at, c.search_band.ensures.sums.most _ at)

pub bound_of-bound-requires-clause-end_least : goal.bound_of-bound-requires-clause-end_least
bound_of-bound-requires-clause-end_least g c =
    let e = end_in g (goal.at.bound_of-bound-requires-clause-end_least g c).In-loop-row in omega (arith, ints, e.0, e.1)

pub bound_of-bound-requires-clause-end_most : goal.bound_of-bound-requires-clause-end_most
bound_of-bound-requires-clause-end_most g c =
    let e = end_in g (goal.at.bound_of-bound-requires-clause-end_most g c).In-loop-row in omega (arith, ints, e.0, e.1)

pub bound_of-bound-requires-clause-sum_least : goal.bound_of-bound-requires-clause-sum_least
bound_of-bound-requires-clause-sum_least g c =
    let e = sum_in g (goal.at.bound_of-bound-requires-clause-sum_least g c).In-loop-row in omega (arith, ints, e.0, e.1)

pub bound_of-bound-requires-clause-sum_most : goal.bound_of-bound-requires-clause-sum_most
bound_of-bound-requires-clause-sum_most g c =
    let e = sum_in g (goal.at.bound_of-bound-requires-clause-sum_most g c).In-loop-row in omega (arith, ints, e.0, e.1)

pub more_of-requires-clause-other : goal.more_of-requires-clause-other
more_of-requires-clause-other g c = omega (arith, ints, c.bound_of-bound.ensures.least, c.bound_of-bound.ensures.most)

pub loop-row-preserved : goal.loop-row-preserved
loop-row-preserved g c =
    let a = g.S.StripColumns.costs c.args.costs.now in
    let m : ℕ = c.args.rows in
    let n : ℕ = c.args.cols in
    let i : ℕ = c.args.start in
    let k : ℕ = c.loop-row.row in
    let s = c.args.round in
    let table = c.args.table.now in
    let phi = lifted m s (table_at m table) in
    let h = c.loop-row.invariant.known in
    let lt : k < m = omega (arith, c.loop-row-test.true) in
    let at : ℕ = c.ring_row-at.result in
    let in' : at < m = c.ring_row-at.ensures.range in
    let len : length c.loop-row.bounds ≡ m = omega (arith, c.loop-row.auto.bounds, c.requires.bounds) in
    let el : to_z w64 (of_z w64 c.args.limit) ≡ c.args.limit = to_z-of_z w64 c.args.limit c.ranges.limit in
    let er : to_z w64 (of_z w64 s) ≡ s = to_z-of_z w64 s c.ranges.round in
    let count : length (take m table) ≡ m = length-take-le m table (omega (arith, c.requires.search.table_fits.room)) in
    let number : c.number_at-number.result ≡ phi (i + k) 0 = (rw (count, er) at c.number_at-number.ensures.value)
    ∙ numbers_at m 0 s i table (take m table) (omega (arith, lt)) (first_at m table) k in
    let b = c.bound_of-bound.ensures in
    let n_is : to_z w64 (of_z w64 c.number_at-number.result) ≡ c.number_at-number.result =
    omega (arith, ints, c.number_at-number.ensures.least, c.number_at-number.ensures.most) in
    let e_is : to_z w64 (of_z w64 (at_row c.args.ends.now (m + k))) ≡ at_row c.args.ends.now (m + k) =
    kept _ (end_in g (goal.at.loop-row-preserved g c).In-loop-row) in
    let s_is : to_z w64 (of_z w64 (at_row c.search_band.new.sums k)) ≡ at_row c.search_band.new.sums k =
    kept _ (sum_in g (goal.at.loop-row-preserved g c).In-loop-row) in
    let b_is = kept c.bound_of-bound.result (b.least, b.most) in
    let old = h.fit at in' in
    let o_is : to_z w64 (of_z w64 (at_row c.loop-row.bounds at)) ≡ at_row c.loop-row.bounds at =
    omega (arith, ints, old) in
    let v_is : to_z w64 (of_z w64 c.more_of.result) ≡ c.more_of.result = omega (arith, ints, c.more_of.ensures.fits) in
    let band : IsBand a phi i (2 * m - 1) n c.args.limit 0 (at_row c.args.ends.now) (at_row c.search_band.new.sums) =
    rw (el, er) at c.search_band.ensures.band in
    let bounds : (w : List Step) → HasLetters m n w → c.bound_of-bound.result ≤ℤ pos (word_cost a ((i + k) % m) 0 w) =
    band_bound a m n phi i k c.args.limit c.args.ends.now c.search_band.new.sums c.bound_of-bound.result
    (record { row = c.requires.strip.periodic.row; col = c.requires.strip.periodic_cols }) c.requires.search.start lt
    band
    (λ cost f. b.bound cost (λ le. omega
    (arith, ints, s_is, e_is, f (omega (arith, ints, le, n_is, e_is, el, number))))) in
    record {
      known = rw v_is (raised a m n at c.loop-row.bounds c.more_of.result h len in'
          (λ w l. omega (
            arith,
            ints,
            c.more_of.ensures.most (pos (word_cost a at 0 w))
                (omega (arith, ints, o_is, h.turns at in' w l))
                (omega (arith, ints, b_is, bounds w l, ap (λ (x : ℕ). word_cost a x 0 w) c.ring_row-at.ensures.value)),
          ))
          c.more_of.ensures.fits);
    }
