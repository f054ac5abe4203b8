use Rattle.std.proofs.Common.{◌≡◌, ◌∙◌, Bor, List, map, length, sym, ap, subst, arith}
use Rattle.std.specs.Prelude.{All}
use Rattle.std.proofs.lemmas.List.{length-map}
use Rattle.strip_graph.specs.Strips.{Strip}
use Rattle.pair_pool.specs.Solvers.{SolvesEach, referents}
use Rattle.section_edits.specs.declared.plans.Origin.{Origin}
use Rattle.section_edits.specs.Fresh.{fresh}
use Rattle.section_edits.specs.Plans.{IsAmong, solution_from}
use Rattle.section_edits.proofs.Planning.{strips_of, strips_count, all_among, all_solved, fresh_not_more}
use Rattle.section_edits.proofs.plans.resolve.Goals as goal
use Rattle.section_edits.proofs.plans.resolve.Given as given
use Rattle.section_edits.proofs.plans.resolve.Goals.{After-solve_each, After-deref-3}

-- as many pairs were solved as are new
count : (g : given.Over) (c : After-solve_each g)
    → length c.deref.result.now ≡ fresh (strips_of c.args.kept.now) (strips_of c.args.pairs.now)
count g c = omega (
  arith,
  ap length c.deref.ensures.value,
  c.in_ok-plan.ensures.fresh,
  length-map c.in_ok-plan.plan.solving.items (λ (q : Bor Strip). q.now),
)

solved : (g : given.Over) (c : After-deref-3 g)
    → SolvesEach (referents c.in_ok-plan.plan.solving.items) c.deref-3.result.now
solved g c =
    subst (SolvesEach (referents c.in_ok-plan.plan.solving.items)) (sym c.deref-3.ensures.value)
    (subst (λ (l : List (Bor Strip)). SolvesEach (referents l) c.in_ok-solved.solved.items) c.deref.ensures.value
    c.in_ok-solved.ensures.solved)

pub solutions-requires : goal.solutions-requires
solutions-requires g c =
    let xs = c.args.kept_solved.now in
    let ys = c.deref-3.result.now in
    subst (λ (os : List Origin). All (IsAmong (length xs) (length ys)) os) (sym c.deref-2.ensures.value)
    (all_among (strips_of c.args.kept.now) (strips_of c.args.pairs.now)
    (referents c.in_ok-plan.plan.solving.items) c.in_ok-plan.plan.origins.items xs ys c.in_ok-plan.ensures
    c.requires.kept (solved g (goal.at.solutions-requires g c).After-deref-3))

pub returns-clause-solved : goal.returns-clause-solved
returns-clause-solved g c =
    let xs = c.args.kept_solved.now in
    let ys = c.deref-3.result.now in
    all_solved (strips_of c.args.kept.now) (strips_of c.args.pairs.now)
    (referents c.in_ok-plan.plan.solving.items) c.in_ok-plan.plan.origins.items xs ys
    c.in_ok-solutions.solutions.items c.in_ok-plan.ensures c.requires.kept
    (solved g (goal.at.returns-clause-solved g c).After-deref-3)
    (c.in_ok-solutions.ensures ∙ ap (map (solution_from xs ys)) c.deref-2.ensures.value)

pub overflow_cast-fresh : goal.overflow_cast-fresh
overflow_cast-fresh g c =
    omega (
      arith,
      c.requires.few,
      c.len-fresh.ensures,
      c.in_ok-plan.ensures.fresh,
      length-map c.in_ok-plan.plan.solving.items (λ (q : Bor Strip). q.now),
      fresh_not_more (strips_of c.args.kept.now) (strips_of c.args.pairs.now),
      strips_count c.args.pairs.now,
    )

pub returns-in_err-solved-clause-not_more : goal.returns-in_err-solved-clause-not_more
returns-in_err-solved-clause-not_more g c = omega (
  arith,
  c.solve_each.ensures.not_more,
  count g (goal.at.returns-in_err-solved-clause-not_more g c).After-solve_each,
)

pub returns-in_err-solutions-clause-not_more : goal.returns-in_err-solutions-clause-not_more
returns-in_err-solutions-clause-not_more g c = omega (
  arith,
  c.solve_each.ensures.not_more,
  count g (goal.at.returns-in_err-solutions-clause-not_more g c).After-solve_each,
)

pub returns-clause-not_more : goal.returns-clause-not_more
returns-clause-not_more g c = omega (
  arith,
  c.solve_each.ensures.not_more,
  count g (goal.at.returns-clause-not_more g c).After-solve_each,
)

pub returns-clause-fresh : goal.returns-clause-fresh
returns-clause-fresh g c = omega (
  arith,
  c.len-fresh.ensures,
  c.in_ok-plan.ensures.fresh,
  length-map c.in_ok-plan.plan.solving.items (λ (q : Bor Strip). q.now),
)

pub returns-clause-few : goal.returns-clause-few
returns-clause-few g c =
    omega (
      arith,
      c.len-fresh.ensures,
      c.in_ok-plan.ensures.fresh,
      length-map c.in_ok-plan.plan.solving.items (λ (q : Bor Strip). q.now),
      fresh_not_more (strips_of c.args.kept.now) (strips_of c.args.pairs.now),
      strips_count c.args.pairs.now,
    )
