use Rattle.std.proofs.Common.{◌≡◌, ◌<◌, ℕ, ℤ, pos, length, arith}
use Rattle.std.proofs.lemmas.Int.{ints}
use Rattle.fku_types.proofs.ListLaws.{set_more}
use Rattle.round_sweeps.specs.Searches.{gone}
use Rattle.round_sweeps.proofs.BackLaws.{begun_sums, begun_window}
use Rattle.round_sweeps.proofs.turns.begin_search.Goals as goal

pub loop-row-preserved : goal.loop-row-preserved
loop-row-preserved c =
    let row : ℕ = c.loop-row.row in
    let lt : row < length c.loop-row.sums = omega (arith, c.loop-row-test.true, c.loop-row.auto.sums, c.requires) in
    record {
      gone = set_more (λ (k : ℕ) (x : ℤ). x ≡ gone) (pos 0) c.loop-row.sums row _ lt c.loop-row.invariant.gone
          (omega (arith, ints));
    }

pub returns-clause-sums : goal.returns-clause-sums
returns-clause-sums c =
    begun_sums c.args.rows c.loop-row.sums (omega (arith, c.loop-row.auto.sums, c.requires))
    (λ k lt. c.loop-row.invariant.gone k (omega (arith, lt, c.loop-row-test.false)))

pub returns-clause-window : goal.returns-clause-window
returns-clause-window c =
    begun_window c.args.rows c.loop-row.sums (omega (arith, c.loop-row.auto.sums, c.requires))
    (λ k lt. c.loop-row.invariant.gone k (omega (arith, lt, c.loop-row-test.false)))
