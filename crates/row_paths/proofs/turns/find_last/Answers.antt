use Rattle.std.proofs.Common.{rules, arith, ◌≡◌, ℕ, ◌+◌, ◌-◌, ◌*◌, ◌≤◌, List, length, ap, sym, subst, ◌∙◌}
use Rattle.strip_graph.specs.Strips.{Strip, arcs, rows, cols}
use Rattle.strip_graph.proofs.Around.{arcs-periodic}
use Rattle.row_paths.specs.Turns.{start_of, end_of, IsPathOf}
use Rattle.row_paths.proofs.Lowered.{lowered, lowered_count, lowered_path}
use Rattle.row_paths.proofs.TurnLaws.{between_region, between_stays, path_within, rows_take}
use Rattle.row_paths.proofs.turns.find_last.Given as given
use Rattle.row_paths.proofs.turns.find_last.Goals as goal
use Rattle.row_paths.proofs.turns.find_last.Goals.{After-deref}

-- the lower bound is the first word once round below
below : (p : Strip) (k : ℕ) (path path' path'' : List ℕ) → k ≡ rows p → path' ≡ lowered k path → path'' ≡ path'
    → rows p + 2 ≤ length path → IsPathOf (arcs p) (rows p) (cols p) 0 path
    → IsPathOf (arcs p) (rows p) (cols p) (2 * rows p) path''
below p k path path' path'' e is same fits first =
    subst (λ (l : List ℕ). IsPathOf (arcs p) (rows p) (cols p) (2 * rows p) l)
    (sym (same ∙ is ∙ ap (λ (m : ℕ). lowered m path) e))
    (lowered_path (arcs p) (rows p) (cols p) path (arcs-periodic p) fits first)

pub find_turn-requires-clause-lo : goal.find_turn-requires-clause-lo
find_turn-requires-clause-lo g c =
    let m : c.rows-rows.result ≡ rows c.args.strip.now = search rules in
    omega (
      arith,
      m,
      ap length c.deref.ensures.value,
      ap length c.in_ok-below.ensures,
      lowered_count c.rows-rows.result c.args.first.now
          (omega (arith, m, c.requires.length, c.rows-rows.ensures.ring.enough)),
    )

last : (g : given.Over) (c : After-deref g)
    → IsPathOf (arcs c.args.strip.now) (rows c.args.strip.now) (cols c.args.strip.now) (2 * rows c.args.strip.now)
    c.deref.result.now
last g c =
    below c.args.strip.now c.rows-rows.result c.args.first.now c.in_ok-below.below.items c.deref.result.now
    c.rows-rows.ensures.value c.in_ok-below.ensures c.deref.ensures.value
    (omega (arith, c.requires.length, c.rows-rows.ensures.ring.enough)) c.requires.path

pub find_turn-requires-clause-region : goal.find_turn-requires-clause-region
find_turn-requires-clause-region g c =
    let p = c.args.strip.now in
    between_region (arcs p) (rows p) (cols p) 0 (2 * (c.rows-rows.result - 1)) (2 * rows p) c.deref.result.now
    c.args.first.now (omega arith) (omega (arith, c.rows-rows.ensures.value)) c.requires.path
    (last g (goal.at.find_turn-requires-clause-region g c).After-deref)

pub find_turn-requires-clause-within : goal.find_turn-requires-clause-within
find_turn-requires-clause-within g c =
    let p = c.args.strip.now in
    between_stays (arcs p) (rows p) (cols p) 0 (2 * (c.rows-rows.result - 1)) (2 * rows p) c.deref.result.now
    c.args.first.now (omega arith) (omega (arith, c.rows-rows.ensures.value)) c.requires.path
    (last g (goal.at.find_turn-requires-clause-within g c).After-deref)

pub returns-clause-count : goal.returns-clause-count
returns-clause-count g c =
    let p = c.args.strip.now in
    let m : c.rows-rows.result ≡ rows p = search rules in
    let q : ℕ = 2 * (c.rows-rows.result - 1) in
    omega (
      arith,
      c.find_turn.ensures.count,
      rows_take (rows p) (cols p) (start_of q) (end_of (rows p) q) c.deref.result.now c.args.first.now
          (path_within (arcs p) (rows p) (cols p) 0 c.args.first.now c.requires.path) (omega (arith, m)),
    )
