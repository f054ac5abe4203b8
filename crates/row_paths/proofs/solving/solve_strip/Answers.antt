use Rattle.std.proofs.Common.{arith, ◌≡◌, ℕ, ◌+◌, ◌-◌, ◌*◌, ◌<◌, ◌≤◌, List, length, get_or, refl, ap, sym, ◌∙◌, subst, subst₂}
use Rattle.std.proofs.lemmas.List.{get_or_read}
use Rattle.strip_graph.specs.Strips.{Strip, arcs, rows, cols}
use Rattle.row_paths.specs.declared.gaps.Gap.{Gap}
use Rattle.row_paths.specs.Counts.{readings, most_readings}
use Rattle.row_paths.proofs.Counting.{readings-all}
use Rattle.row_paths.proofs.SolveLaws.{solved, round_fits}
use Rattle.row_paths.specs.Turns.{IsFirstLeast, IsGap, IsPathOf}
use Rattle.row_paths.proofs.SolutionLaws.{solves_from}
use Rattle.row_paths.proofs.solving.solve_strip.Goals as goal

-- the first and the last word, with all others between them
is_gap : (p : Strip) (gap : Gap) (r : ℕ) (first last : List ℕ) → r ≡ rows p → 2 ≤ rows p → gap.first ≡ 0
    → gap.last ≡ 2 * (r - 1) → gap.hi.now ≡ first → gap.lo.now ≡ last → length first ≡ 2 * rows p + 1
    → length last ≡ 2 * rows p + 1
    → IsPathOf (arcs p) (rows p) (cols p) 0 first → IsPathOf (arcs p) (rows p) (cols p) (2 * (rows p - 1)) last
    → IsGap p gap
is_gap p gap r first last e some f f' hi lo size size' from to =
    let m : 2 * (rows p - 1) ≡ gap.last = omega (arith, e, f') in
    record {
      order = omega (arith, e, some, f, f');
      last = omega (arith, e, some, f');
      hi = ap length hi ∙ size;
      lo = ap length lo ∙ size';
      from = subst₂ (λ (q : ℕ) (l : List ℕ). IsPathOf (arcs p) (rows p) (cols p) q l) (sym f) (sym hi) from;
      to = subst₂ (λ (q : ℕ) (l : List ℕ). IsPathOf (arcs p) (rows p) (cols p) q l) m (sym lo) to;
    }

pub find_last-requires-clause-length : goal.find_last-requires-clause-length
find_last-requires-clause-length g c = ap length c.deref.ensures.value ∙ c.in_ok-first.ensures.length

pub find_last-requires-clause-path : goal.find_last-requires-clause-path
find_last-requires-clause-path g c =
    subst (λ (l : List ℕ). IsPathOf (arcs c.args.strip.now) (rows c.args.strip.now) (cols c.args.strip.now) 0 l)
    (sym c.deref.ensures.value) c.in_ok-first.ensures.path

pub turn_costs-requires-clause-gap : goal.turn_costs-requires-clause-gap
turn_costs-requires-clause-gap g c =
    is_gap c.args.strip.now _ c.rows-rows.result c.in_ok-first.first.path.items c.in_ok-last.last.path.items
    c.rows-rows.ensures.value (omega (arith, c.rows-rows.ensures.ring.enough)) refl refl c.deref-2.ensures.value
    c.deref-3.ensures.value c.in_ok-first.ensures.length c.in_ok-last.ensures.length c.in_ok-first.ensures.path
    c.in_ok-last.ensures.path

pub turn_word-requires-clause-gap : goal.turn_word-requires-clause-gap
turn_word-requires-clause-gap g c =
    is_gap c.args.strip.now _ c.rows-rows.result c.in_ok-first.first.path.items c.in_ok-last.last.path.items
    c.rows-rows.ensures.value (omega (arith, c.rows-rows.ensures.ring.enough)) refl refl c.deref-2.ensures.value
    c.deref-3.ensures.value c.in_ok-first.ensures.length c.in_ok-last.ensures.length c.in_ok-first.ensures.path
    c.in_ok-last.ensures.path

-- two words, the costs of all turns and a third word leave readings for three tables of costs and one row
spared : (m n old first last all word : ℕ) → 2 ≤ m → first ≤ old + (2 * m * (n + 1) + 2 * (m + n + 2))
    → last ≤ first + (2 * m * (n + 1) + 2 * (m + n + 2))
    → all ≤ last + readings (2 * m - 3) (2 * m * (n + 1)) (m + n + 2)
    → word ≤ all + (2 * m * (n + 1) + 2 * (m + n + 2))
    → word + 3 * (2 * m * (n + 1)) + (n + 1) ≤ old + most_readings m n
spared m n old first last all word some a b d e =
    omega (arith, readings-all (2 * m - 3) m n (2 * m * (n + 1)) (omega arith) (omega arith), a, b, d, e)

pub returns-in_err-costs-clause-count : goal.returns-in_err-costs-clause-count
returns-in_err-costs-clause-count g c =
    spared (rows c.args.strip.now) (cols c.args.strip.now) _ _ _ _ _ (omega (arith, c.rows-rows.ensures.ring.enough))
    c.find_first.ensures.count c.find_last.ensures.count c.turn_costs.ensures.count (omega arith)

pub returns-in_err-rounds-clause-count : goal.returns-in_err-rounds-clause-count
returns-in_err-rounds-clause-count g c =
    spared (rows c.args.strip.now) (cols c.args.strip.now) _ _ _ _ _ (omega (arith, c.rows-rows.ensures.ring.enough))
    c.find_first.ensures.count c.find_last.ensures.count c.turn_costs.ensures.count (omega arith)

pub returns-in_err-word-clause-count : goal.returns-in_err-word-clause-count
returns-in_err-word-clause-count g c =
    spared (rows c.args.strip.now) (cols c.args.strip.now) _ _ _ _ _ (omega (arith, c.rows-rows.ensures.ring.enough))
    c.find_first.ensures.count c.find_last.ensures.count c.turn_costs.ensures.count c.turn_word.ensures.count

pub returns-clause-count : goal.returns-clause-count
returns-clause-count g c =
    spared (rows c.args.strip.now) (cols c.args.strip.now) _ _ _ _ _ (omega (arith, c.rows-rows.ensures.ring.enough))
    c.find_first.ensures.count c.find_last.ensures.count c.turn_costs.ensures.count c.turn_word.ensures.count

-- the first least cost is read
read : (xs ys : List ℕ) (i x : ℕ) → ys ≡ xs → IsFirstLeast ys i → x ≡ get_or xs i x → x ≡ get_or xs i 0
read xs ys i x same least e = get_or_read xs i x (subst (λ (l : List ℕ). i < length l) same least.within) e 0

pub of-solved-requires : goal.of-solved-requires
of-solved-requires g c =
    let m = c.rows-rows.ensures.value in
    let row = c.first_least-row.result in
    let within = subst (λ (l : List ℕ). row < length l) c.deref-5.ensures.value c.first_least-row.ensures.within in
    omega (
      arith,
      read c.in_ok-rounds.rounds.items _ row c.index.result.now c.deref-5.ensures.value c.first_least-row.ensures
          c.index.ensures,
      round_fits c.args.strip.now c.in_ok-costs.costs.items c.deref-4.result.now c.in_ok-rounds.rounds.items row
          c.rows-rows.ensures.strip c.deref-4.ensures.value c.in_ok-costs.ensures.costs
          (λ k lt. c.in_ok-rounds.ensures.are k (omega (arith, m, lt)))
          (omega (arith, within, c.in_ok-rounds.ensures.count, m)),
    )

pub returns-clause-solves : goal.returns-clause-solves
returns-clause-solves g c =
    let p = c.args.strip.now in
    let row = c.first_least-row.result in
    let m = c.rows-rows.ensures.value in
    let k = solved p c.in_ok-costs.costs.items c.deref-4.result.now c.in_ok-rounds.rounds.items c.deref-5.result.now row
    c.in_ok-word.word.items c.cols-cols.ensures.ring c.deref-4.ensures.value c.deref-5.ensures.value
    c.in_ok-costs.ensures.costs
    (omega (arith, c.in_ok-rounds.ensures.count, m)) (λ k lt. c.in_ok-rounds.ensures.are k (omega (arith, m, lt)))
    c.first_least-row.ensures c.in_ok-word.ensures.word in
    let x = read c.in_ok-rounds.rounds.items _ row c.index.result.now c.deref-5.ensures.value c.first_least-row.ensures
    c.index.ensures in
    solves_from p c.of-solved.result row c.in_ok-word.word.items c.index.result.now c.of-solved.ensures.row
    c.of-solved.ensures.word c.of-solved.ensures.cost k.0 (omega (arith, x, k.1))
