use Rattle.std.proofs.Common.{rules, arith, ◌≡◌, ℕ, ◌+◌, ◌*◌, sym, subst₂}
use Rattle.strip_graph.specs.Strips.{arcs, rows, cols}
use Rattle.row_paths.specs.Searches.{bound_at, last_at, IsRegion, StaysIn}
use Rattle.row_paths.specs.Turns.{start_of, end_of}
use Rattle.row_paths.proofs.TurnLaws.{between_region, between_stays, lower_path, path_within, rows_take}
use Rattle.row_paths.proofs.solving.turn_word.Goals as goal

pub invariant_of-region : goal.invariant_of-region
invariant_of-region g c =
    let a = arcs c.args.strip.now in
    let m = rows c.args.strip.now in
    let n = cols c.args.strip.now in
    let lo = c.lower_bound.result.now in
    let hi = c.args.gap.now.hi.now in
    let m' : c.rows.result ≡ m = search rules in
    let n' : c.cols.result ≡ n = search rules in
    let end : c.args.row + c.rows.result ≡ end_of m (2 * c.args.row) = omega (arith, m') in
    let l = lower_path a m n c.args.gap.now.first (2 * c.args.row) c.args.gap.now.last (2 * m + 1) c.args.gap.now.lo.now
    hi lo c.requires.to c.requires.gap.hi c.requires.gap.lo c.requires.gap.from c.requires.gap.to
    c.lower_bound.ensures in
    record {
      lo_fits = omega (arith, m', l.3, c.requires.gap.last, c.requires.to);
      hi_fits = omega (arith, m', c.requires.gap.hi, c.requires.gap.last, c.requires.to);
      few = omega (arith, m', c.requires.gap.last, c.requires.to, c.rows.ensures.ring.few);
      narrow = omega (arith, n', c.cols.ensures.ring.few);
      order = omega arith;
      shape = subst₂ (λ (k e : ℕ). IsRegion (bound_at lo) (last_at hi) k e) (sym n') (sym end)
          (between_region a m n c.args.gap.now.first (2 * c.args.row) l.0 lo hi c.requires.from l.1 c.requires.gap.from
          l.2);
    }

pub find_word-requires-clause-within : goal.find_word-requires-clause-within
find_word-requires-clause-within g c =
    let a = arcs c.args.strip.now in
    let m = rows c.args.strip.now in
    let n = cols c.args.strip.now in
    let lo = c.lower_bound.result.now in
    let hi = c.args.gap.now.hi.now in
    let m' : c.rows.result ≡ m = search rules in
    let start : start_of (2 * c.args.row) ≡ c.args.row = omega arith in
    let end : end_of m (2 * c.args.row) ≡ c.args.row + c.rows.result = omega (arith, m') in
    let l = lower_path a m n c.args.gap.now.first (2 * c.args.row) c.args.gap.now.last (2 * m + 1) c.args.gap.now.lo.now
    hi lo c.requires.to c.requires.gap.hi c.requires.gap.lo c.requires.gap.from c.requires.gap.to
    c.lower_bound.ensures in
    subst₂ (λ (s e : ℕ). StaysIn a (bound_at lo) (last_at hi) n s e) start end
    (between_stays a m n c.args.gap.now.first (2 * c.args.row) l.0 lo hi c.requires.from l.1 c.requires.gap.from
    l.2)

pub returns-clause-count : goal.returns-clause-count
returns-clause-count g c =
    let m = rows c.args.strip.now in
    let n = cols c.args.strip.now in
    let hi = c.args.gap.now.hi.now in
    let m' : c.rows.result ≡ m = search rules in
    omega (
      arith,
      c.find_word.ensures.count,
      rows_take m n c.args.row (c.args.row + c.rows.result) c.lower_bound.result.now hi
          (path_within (arcs c.args.strip.now) m n c.args.gap.now.first hi c.requires.gap.from)
          (omega (arith, m', c.rows.ensures.ring.enough)),
    )
