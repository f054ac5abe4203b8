use Rattle.std.proofs.Common.{rules, arith, ◌≡◌, ℕ, ◌+◌, ◌-◌, ◌*◌, ap, ap₂, subst, ◌∙◌}
use Rattle.strip_graph.specs.Strips.{arcs, rows, cols}
use Rattle.row_paths.specs.Counts.{digits, readings}
use Rattle.row_paths.specs.Turns.{IsPathOf, area_between}
use Rattle.row_paths.proofs.TurnLaws.{spare_takes}
use Rattle.row_paths.proofs.divisions.spare_readings.Goals as goal

pub returns : goal.returns
returns g c =
    let m = rows c.args.strip.now in
    let n = cols c.args.strip.now in
    let lo = c.args.gap.now.lo.now in
    let hi = c.args.gap.now.hi.now in
    let last = c.args.gap.now.last in
    let m' : c.rows-rows.result ≡ m = search rules in
    let n' : c.cols.result ≡ n = search rules in
    let words : 2 * c.rows-rows.result - 3 ≡ 2 * m - 3 = omega (arith, m') in
    let first : c.args.gap.now.first ≡ 0 = c.requires.first in
    let path = subst (λ (k : ℕ). IsPathOf (arcs c.args.strip.now) m n k hi) first c.requires.gap.from in
    let whole : 2 * c.from.result * (c.from-2.result + 1) ≡ 2 * m * (n + 1) =
    ap₂ (λ (x y : ℕ). 2 * x * (y + 1)) (c.from.ensures ∙ m') (c.from-2.ensures ∙ n') in
    let takes = spare_takes (arcs c.args.strip.now) m n last c.from-3.result c.places_between.result
    (2 * c.from.result * (c.from-2.result + 1)) c.saturating_sub-unused.result lo hi
    (omega (arith, c.rows-rows.ensures.ring.enough)) c.requires.last path
    (c.from-3.ensures ∙ c.digit_count.ensures ∙ ap digits words)
    (c.places_between.ensures.places ∙ ap (λ (k : ℕ). area_between m lo hi k last) first) whole
    c.saturating_sub-unused.ensures in
    omega (arith, takes, ap (λ (k : ℕ). readings (last - k - 1) (area_between m lo hi k last) (m + n + 2)) first)
