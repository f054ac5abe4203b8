use Rattle.std.proofs.Common.{◌≡◌, ◌∙◌, ℕ, Result, Ok, Err, length, map, ap, arith}
use Rattle.std.specs.Prelude.{OnOk}
use Rattle.std.proofs.lemmas.List.{length-map}
use Rattle.pair_pool.specs.Solvers.{referents}
use Rattle.section_pairs.specs.Pairs.{PairParts, pair_parts}
use Rattle.section_slices.specs.Densified.{dense_pairs}
use Rattle.section_slices.proofs.sections.solved_parts.Given as given
use Rattle.section_slices.proofs.sections.solved_parts.Goals as goal
use Rattle.section_slices.proofs.sections.solved_parts.Goals.{After-solve_each}

-- as many strips were solved as the dense gaps have pairs
count : (g : given.Over) (c : After-solve_each g)
    → length (dense_pairs c.args.sections.now (map pair_parts c.args.pairs.now)) ≡ length c.deref-2.result.now
count g c =
    let ps = dense_pairs c.args.sections.now (map pair_parts c.args.pairs.now) in
    omega (
      arith,
      ap length (ap referents c.deref-2.ensures.value ∙ c.in_ok-strips.ensures),
      length-map c.deref-2.result.now (λ p. p.now),
      length-map ps (λ (p : PairParts). p.strip),
    )

on_any : {T E : Type 0} (P : Type 0) (r : Result T E) → P → OnOk r P
on_any P (Ok v) h = h
on_any P (Err e) h = tt

pub returns-in_err-solved-clause-not_more : goal.returns-in_err-solved-clause-not_more
returns-in_err-solved-clause-not_more g c = omega (
  arith,
  c.solve_each.ensures.not_more,
  count g (goal.at.returns-in_err-solved-clause-not_more g c).After-solve_each,
)

pub returns-clause-counted : goal.returns-clause-counted
returns-clause-counted g c =
    on_any _ c.made_parts.result (rw (count g (goal.at.returns-clause-counted g c).After-solve_each)
    c.in_ok-solved.ensures.counted)

pub returns-clause-not_more : goal.returns-clause-not_more
returns-clause-not_more g c = omega (
  arith,
  c.solve_each.ensures.not_more,
  count g (goal.at.returns-clause-not_more g c).After-solve_each,
)
