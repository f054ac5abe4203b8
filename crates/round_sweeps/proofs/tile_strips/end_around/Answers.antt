use Rattle.std.proofs.Common.{◌≡◌, ℕ, ◌+◌, ◌%◌, length, ap, sym, ◌∙◌, arith, mod-eq_of_lt}
use Rattle.std.proofs.Math.Nat.{add-mod_right}
use Rattle.round_sweeps.specs.Tiles.{end_at}
use Rattle.round_sweeps.proofs.tile_strips.end_around.Goals as goal

pub returns-then-index-ends-clause-value : goal.returns-then-index-ends-clause-value
returns-then-index-ends-clause-value c = ap (end_at c.args.ends.now) (sym (mod-eq_of_lt c.if-index-ends.true))

pub returns-else-index-ends-clause-value : goal.returns-else-index-ends-clause-value
returns-else-index-ends-clause-value c =
    let n : ℕ = length c.args.ends.now in
    let e : c.args.index ≡ 0 + n = omega (arith, c.requires.index, c.if-index-ends.false) in
    let zero : c.args.index % n ≡ 0 = ap (λ (k : ℕ). k % n) e ∙ add-mod_right 0 n ∙ mod-eq_of_lt c.requires.some in
    ap (end_at c.args.ends.now) (sym zero)
