use Rattle.std.proofs.Common.{◌≡◌, ◌∙◌, ℕ, length, map, sym, ap, ap₂, arith, subst, All}
use Rattle.std.proofs.lemmas.List.{length-map}
use Rattle.strip_graph.specs.Spans.{spans, round, IsOf}
use Rattle.strip_graph.specs.Strips.{rows, cols}
use Rattle.strip_graph.proofs.SpanLaws.{all_of, length-spans}
use Rattle.strip_graph.proofs.pairs.Pair.spans.Goals as goal

pub returns-clause-one_a_step : goal.returns-clause-one_a_step
returns-clause-one_a_step c = length-map _ _ ∙ length-spans c.args.tiling.now.row 0 c.deref.result.now
    ∙ ap length c.deref.ensures.value

pub returns-clause-range : goal.returns-clause-range
returns-clause-range c =
    let m = rows c.args.self.now in
    let n = cols c.args.self.now in
    let ss = spans c.args.tiling.now.row 0 c.deref.result.now in
    let em : c.len.result ≡ m = omega (arith, c.len.ensures, ap length c.low.ensures.points) in
    let en : c.len-2.result ≡ n = omega (arith, c.len-2.ensures, ap length c.high.ensures.points) in
    subst (All (IsOf m n)) (ap₂ (λ (a b : ℕ). map (round a b) ss) (sym em) (sym en))
    (all_of m n ss (omega (arith, c.requires)) (omega (arith, c.high.ensures.ring.enough)))
