use Rattle.std.proofs.Common.{rules, arith, ◌≡◌, ℕ, ◌+◌, pos, get_or, ap₂, ◌∙◌, ap, FitsSigned}
use Rattle.std.proofs.lemmas.Int.{ints}
use Rattle.strip_graph.specs.Strips.{rows, cols}
use Rattle.strip_graph.specs.Certificates.{value_at}
use Rattle.cert_checker.proofs.Rows.{turn_at}
use Rattle.cert_checker.proofs.checking.turn_holds.Goals as goal
use mir.Syntax.{w128}

pub returns : goal.returns
returns c =
    let m = rows c.args.pair.now in
    let n = cols c.args.pair.now in
    let pi = c.args.pi.now in
    let fits : FitsSigned w128 c.args.cost = search rules in
    let is_n : c.len-cols.result ≡ n = search rules in
    let is_m : c.len-rows.result ≡ m = search rules in
    let from = get_or c.row_of.result.now 0 (pos 0) in
    let to = get_or c.row_of-2.result.now c.len-cols.result (pos 0) in
    let e : from ≡ value_at n pi c.args.row 0 = c.row_of.ensures.values 0 (omega arith)
    ∙ ap (λ (x : ℕ). value_at x pi c.args.row 0) is_n in
    let f : to ≡ value_at n pi (c.args.row + m) n = c.row_of-2.ensures.values c.len-cols.result (omega arith)
    ∙ ap₂ (λ (x y : ℕ). value_at x pi (c.args.row + y) x) is_n is_m in
    let turn = turn_at m n c.args.row pi from to c.args.cost c.requires.row e f in (
      (λ t. turn.0 (omega (arith, ints, fits, c.rises_at_least.ensures.0 t))),
      (λ h. c.rises_at_least.ensures.1 (omega (arith, ints, fits, turn.1 h))),
    )
