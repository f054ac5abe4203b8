use Rattle.std.proofs.Common.{arith, ◌≡◌, ℕ, ◌+◌, ◌-◌, ◌%◌, ◌<◌, ◌≤◌, length, ap, sym, ◌∙◌, mod-eq_of_lt, slice_index_or}
use mathlib.Core.Path.{refl}
use Rattle.std.proofs.Math.Nat.{add-mod_right}
use Rattle.plane_geom.specs.Rings.{around, origin}
use Rattle.strip_graph.proofs.lengths.around.Goals as goal

-- once past the end
past : (k n : ℕ) → n ≤ k → k - n < n → k - n ≡ k % n
past k n le lt =
    let e : k - n + n ≡ k = omega arith in
    sym (mod-eq_of_lt lt) ∙ sym (add-mod_right (k - n) n) ∙ ap (λ (x : ℕ). x % n) e

pub returns-then-index-count-clause-value : goal.returns-then-index-count-clause-value
unfolding around
returns-then-index-count-clause-value c =
    ap (λ (k : ℕ). slice_index_or c.args.points.now k origin) (sym (mod-eq_of_lt c.if-index-count.true))

pub returns-then-index-count-2-clause-value : goal.returns-then-index-count-2-clause-value
unfolding around
returns-then-index-count-2-clause-value c =
    ap (λ (k : ℕ). slice_index_or c.args.points.now k origin)
    (past c.args.index (length c.args.points.now) c.if-index-count.false c.if-index-count-2.true)

pub returns-else-index-count-2-clause-value : goal.returns-else-index-count-2-clause-value
unfolding around
returns-else-index-count-2-clause-value c = refl
