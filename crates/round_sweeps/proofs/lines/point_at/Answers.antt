use Rattle.std.proofs.Common.{◌≡◌, ℕ, ◌+◌, ◌%◌, ◌<◌, ◌∙◌, length, ap, sym, arith, mod-eq_of_lt, slice_index_or}
use Rattle.plane_geom.specs.Rings.{around, origin}
use Rattle.round_sweeps.proofs.PlaneLaws.{row_round}
use Rattle.round_sweeps.proofs.lines.point_at.Goals as goal

pub returns-then-index-ring-clause-value : goal.returns-then-index-ring-clause-value
unfolding around
returns-then-index-ring-clause-value c =
    ap (λ (k : ℕ). slice_index_or c.args.ring.now k origin) (sym (mod-eq_of_lt c.if-index-ring.true))

pub returns-else-index-ring-clause-value : goal.returns-else-index-ring-clause-value
unfolding around
returns-else-index-ring-clause-value c =
    let n : ℕ = length c.args.ring.now in
    let e : c.args.index ≡ 0 + n = omega (arith, c.requires.index, c.if-index-ring.false) in
    let some : 0 < n = omega (arith, c.requires.ring.enough) in
    let zero : c.args.index % n ≡ 0 = ap (λ (k : ℕ). k % n) e ∙ row_round n 0 some in
    ap (λ (k : ℕ). slice_index_or c.args.ring.now k origin) (sym zero)
