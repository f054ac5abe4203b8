use Rattle.std.proofs.Common.{rules, ◌≡◌, ◌<◌, ◌≤◌, arith, ℕ, ◌+◌, ◌-◌, ◌*◌, List, length, ap, sym, subst, ◌∙◌}
use Rattle.fku_types.specs.declared.limits.TheConstants.{MAX_COMPOSITE_VERTICES}
use Rattle.strip_graph.specs.Strips.{arcs, rows, cols}
use Rattle.row_paths.specs.Turns.{start_of, end_of, area_between, IsPathOf}
use Rattle.row_paths.specs.Counts.{area, readings}
use Rattle.row_paths.specs.Searches.{bound_at, last_at}
use Rattle.row_paths.proofs.Counting.{readings-some}
use Rattle.row_paths.proofs.TurnLaws.{between_region, between_stays, divided_takes, divided_starts, costs_more}
use Rattle.row_paths.proofs.turns.+between.Given as given
use Rattle.row_paths.proofs.turns.+between.Goals as goal
use Rattle.row_paths.proofs.turns.+between.Goals.{In_ok-found, After-deref}

below : {q q' : ℕ} → q < q' → q ≤ q'
below lt = omega arith

few_words : (last m : ℕ) → last + 2 ≤ 2 * m → m ≤ MAX_COMPOSITE_VERTICES → last < 8192
few_words last m le few = omega arith

-- the readings of two tables, and of a middle word with the parts found so far
fan_takes : (new old spare places w q q' : ℕ) → 2 ≤ q' - q → new ≤ old + 2 * (places + w)
    → new + spare ≤ old + spare + readings (q' - q - 1) places w
fan_takes new old spare places w q q' some count =
    omega (arith, readings-some (q' - q - 1) places w (omega arith), count)

division_takes : (new left mid spare old r : ℕ) → mid ≡ old → new + left ≤ mid + spare → new + left ≤ old + spare + r
division_takes new left mid spare old r same count = omega arith

middle_takes : (new cut left mid spare old k r : ℕ) → mid ≡ old → cut + left + 2 * k ≤ mid + spare + r
    → new ≤ cut + 2 * k → new + left ≤ old + spare + r
middle_takes new cut left mid spare old k r same takes count = omega arith

above_takes : (new less turn cut left mid spare old k r1 r1' r2 r : ℕ) → mid ≡ old
    → cut + left + 2 * k + r1 + r2 ≤ mid + spare + r → r1' ≡ r1 → turn ≤ cut + 2 * k → new + less ≤ turn + left + r1'
    → new + less ≤ old + spare + r
above_takes new less turn cut left mid spare old k r1 r1' r2 r same takes e count count' = omega arith

all_takes : (new least over less turn cut left mid spare old k r1 r1' r2 r2' r : ℕ) → mid ≡ old
    → cut + left + 2 * k + r1 + r2 ≤ mid + spare + r → r1' ≡ r1 → r2' ≡ r2 → turn ≤ cut + 2 * k
    → over + less ≤ turn + left + r1' → new + least ≤ over + less + r2' → new + least ≤ old + spare + r
all_takes new least over less turn cut left mid spare old k r1 r1' r2 r2' r same takes e e' count count' count'' =
    omega arith

pub find_turn-requires-clause-region : goal.find_turn-requires-clause-region
find_turn-requires-clause-region g t c =
    between_region (arcs c.args.strip.now) (rows c.args.strip.now) (cols c.args.strip.now) c.args.gap.now.first
    c.in_ok-division.division.middle c.args.gap.now.last c.args.gap.now.lo.now c.args.gap.now.hi.now
    (below c.in_ok-division.ensures.after) (below c.in_ok-division.ensures.before) c.requires.gap.from c.requires.gap.to

pub find_turn-requires-clause-within : goal.find_turn-requires-clause-within
find_turn-requires-clause-within g t c =
    between_stays (arcs c.args.strip.now) (rows c.args.strip.now) (cols c.args.strip.now) c.args.gap.now.first
    c.in_ok-division.division.middle c.args.gap.now.last c.args.gap.now.lo.now c.args.gap.now.hi.now
    (below c.in_ok-division.ensures.after) (below c.in_ok-division.ensures.before) c.requires.gap.from c.requires.gap.to

pub between-requires-2 : goal.between-requires-2
between-requires-2 g t c κs within =
    let q = c.in_ok-division.division.middle in
    let more = costs_more (arcs c.args.strip.now) (rows c.args.strip.now) (cols c.args.strip.now) q
    c.in_ok-found.found.cost c.between.new.costs.items c.push.new.self.items c.in_ok-push.ensures.items
    c.in_ok-found.ensures.cost c.in_ok-between.ensures.costs in
    let path = subst (λ (l : List ℕ). IsPathOf (arcs c.args.strip.now) (rows c.args.strip.now) (cols c.args.strip.now) q
    l) (sym c.deref-2.ensures.value) c.in_ok-found.ensures.path in (
      search rules,
      (
        search rules,
        (
          search rules,
          (
            search rules,
            (
              c.between.ensures.table,
              (
                record {
                  order = c.in_ok-division.ensures.before;
                  last = c.requires.gap.last;
                  hi =
                      ap length c.deref-2.ensures.value ∙ c.in_ok-found.ensures.length;
                  lo = c.requires.gap.lo;
                  from = path;
                  to =
                      c.requires.gap.to;
                },
                more,
              ),
            ),
          ),
        ),
      ),
    )

pub returns-in_err-fan-clause-count : goal.returns-in_err-fan-clause-count
returns-in_err-fan-clause-count g t c =
    fan_takes _ _ c.args.spare.now _ _ c.args.gap.now.first c.args.gap.now.last c.if-gap-lt2.false c.fan.ensures.count

pub returns-then-branch-clause-count : goal.returns-then-branch-clause-count
returns-then-branch-clause-count g t c =
    fan_takes _ _ c.args.spare.now _ _ c.args.gap.now.first c.args.gap.now.last c.if-gap-lt2.false c.fan.ensures.count

pub returns-in_err-division-clause-count : goal.returns-in_err-division-clause-count
returns-in_err-division-clause-count g t c =
    division_takes _ _ _ _ _ _ (c.in_ok-fan.ensures.none c.if-branch.false) c.divide.ensures.count

pub returns-in_err-found-clause-count : goal.returns-in_err-found-clause-count
returns-in_err-found-clause-count g t c =
    let m = rows c.args.strip.now in
    let n = cols c.args.strip.now in
    let q = c.in_ok-division.division.middle in
    let starts = divided_starts m n c.args.gap.now.first q c.args.gap.now.last (c.divide.new.steps + c.divide.new.spare)
    (c.fan.new.steps + c.args.spare.now) c.args.gap.now.lo.now c.args.gap.now.hi.now
    c.in_ok-division.ensures.after c.in_ok-division.ensures.before c.in_ok-division.ensures.count in
    middle_takes _ _ _ _ _ _ _ _ (c.in_ok-fan.ensures.none c.if-branch.false) starts c.find_turn.ensures.count

-- what the middle word and the words above and below it may take
takes : (g : given.Over) (t : ℕ) (c : In_ok-found g t)
    → let m : ℕ = rows c.args.strip.now in
    let w : ℕ = m + cols c.args.strip.now + 2 in
    let lo = c.args.gap.now.lo.now in
    let hi = c.args.gap.now.hi.now in
    let mid = c.in_ok-found.found.path.items in
    let q : ℕ = c.in_ok-division.division.middle in
    c.divide.new.steps + c.divide.new.spare
    + 2 * area (bound_at lo) (last_at hi) (start_of q) (end_of m q + 1 - start_of q)
    + readings (q - c.args.gap.now.first - 1) (area_between m mid hi c.args.gap.now.first q) w
    + readings (c.args.gap.now.last - q - 1) (area_between m lo mid q c.args.gap.now.last) w
    ≤ c.fan.new.steps + c.args.spare.now
    + readings (c.args.gap.now.last - c.args.gap.now.first - 1)
    (area_between m lo hi c.args.gap.now.first c.args.gap.now.last) w
takes g t c =
    let m = rows c.args.strip.now in
    let d = c.in_ok-division.ensures in
    divided_takes (arcs c.args.strip.now) m (cols c.args.strip.now) c.args.gap.now.first
    c.in_ok-division.division.middle c.args.gap.now.last (c.divide.new.steps + c.divide.new.spare)
    (c.fan.new.steps + c.args.spare.now) c.args.gap.now.lo.now c.args.gap.now.hi.now c.in_ok-found.found.path.items
    d.after d.before (few_words c.args.gap.now.last m c.requires.gap.last c.rows-rows.ensures.ring.few)
    c.requires.gap.from c.in_ok-found.ensures.path c.requires.gap.to d.count d.paid

-- the same words above, by their own bound
left : (g : given.Over) (t : ℕ) (c : After-deref g t)
    → let m : ℕ = rows c.args.strip.now in
    let q : ℕ = c.in_ok-division.division.middle in
    readings (q - c.args.gap.now.first - 1)
    (area_between m c.deref.result.now c.args.gap.now.hi.now c.args.gap.now.first q)
    (m + cols c.args.strip.now + 2)
    ≡ readings (q - c.args.gap.now.first - 1)
    (area_between m c.in_ok-found.found.path.items c.args.gap.now.hi.now c.args.gap.now.first q)
    (m + cols c.args.strip.now + 2)
left g t c =
    let m = rows c.args.strip.now in
    let q = c.in_ok-division.division.middle in
    ap (λ (l : List ℕ). readings (q - c.args.gap.now.first - 1)
    (area_between m l c.args.gap.now.hi.now c.args.gap.now.first q) (m + cols c.args.strip.now + 2))
    c.deref.ensures.value

pub returns-in_err-between-clause-count : goal.returns-in_err-between-clause-count
returns-in_err-between-clause-count g t c =
    let at = goal.at.returns-in_err-between-clause-count g t c in
    above_takes _ _ _ _ _ _ _ _ _ _ _ _ _ (c.in_ok-fan.ensures.none c.if-branch.false) (takes g t at.In_ok-found)
    (left g t at.After-deref) c.find_turn.ensures.count c.between.ensures.count

pub returns-in_err-push-clause-count : goal.returns-in_err-push-clause-count
returns-in_err-push-clause-count g t c =
    let at = goal.at.returns-in_err-push-clause-count g t c in
    above_takes _ _ _ _ _ _ _ _ _ _ _ _ _ (c.in_ok-fan.ensures.none c.if-branch.false) (takes g t at.In_ok-found)
    (left g t at.After-deref) c.find_turn.ensures.count c.between.ensures.count

pub returns-clause-count : goal.returns-clause-count
returns-clause-count g t c =
    let m = rows c.args.strip.now in
    let n = cols c.args.strip.now in
    let q = c.in_ok-division.division.middle in
    let at = goal.at.returns-clause-count g t c in
    let right = ap (λ (l : List ℕ). readings (c.args.gap.now.last - q - 1)
    (area_between m c.args.gap.now.lo.now l q c.args.gap.now.last) (m + n + 2)) c.deref-2.ensures.value in
    all_takes _ _ _ _ _ _ _ _ _ _ _ _ _ _ _ _ (c.in_ok-fan.ensures.none c.if-branch.false)
    (takes g t at.In_ok-found) (left g t at.After-deref) right c.find_turn.ensures.count c.between.ensures.count
    c.between-2.ensures.count
