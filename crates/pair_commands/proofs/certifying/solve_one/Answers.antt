use Rattle.std.proofs.Common.{◌≡◌, [], ◌∷◌, Some, refl, arith, rules}
use Rattle.pair_commands.proofs.CertLemmas.{only_solution}
use Rattle.pair_commands.proofs.certifying.solve_one.Goals as goal

pub returns-clause-solved : goal.returns-clause-solved
returns-clause-solved g c =
    let all = c.in_ok-solved.solved in
    let is : c.pop.result ≡ Some c.unwrap.result = search rules in
    only_solution c.args.pair.now (c.args.pair.now ∷ []) all.items all.len c.pop.result c.unwrap.result refl
    c.in_ok-solved.ensures.solved (omega (arith, all.ok.0)) c.pop.ensures.value is
