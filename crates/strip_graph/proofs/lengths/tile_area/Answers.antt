use Rattle.std.proofs.Common.{◌≡◌, ◌*◌, ◌^◌, ◌≤◌, refl, sym, subst, ◌∙◌, Option, Bor, ℕ}
use Rattle.std.specs.Prelude.{IfSome}
use Rattle.strip_graph.specs.declared.areas.Edge.{Edge}
use Rattle.strip_graph.specs.Edges.{IsEdge}
use Rattle.strip_graph.specs.Strips.{area_square}
use Rattle.strip_graph.proofs.Bounds.{area_square-below}
use Rattle.strip_graph.proofs.lengths.tile_area.Goals as goal

pub returns-in-Some-clause-value : goal.returns-in-Some-clause-value
returns-in-Some-clause-value c =
    let known = subst (λ (o : Option (Bor Edge)). IfSome o (λ e. IsEdge e.now c.args.a c.args.b c.args.c.z))
    c.in-Some.is c.requires.edge in
    c.area_square.ensures.value ∙ known.area c.args.c refl

pub returns-in-Some-clause-range : goal.returns-in-Some-clause-range
returns-in-Some-clause-range c =
    let known = subst (λ (o : Option (Bor Edge)). IfSome o (λ e. IsEdge e.now c.args.a c.args.b c.args.c.z))
    c.in-Some.is c.requires.edge in
    let is : c.area_square.result ≡ area_square c.args.a c.args.b c.args.c = c.area_square.ensures.value
    ∙ known.area c.args.c refl in
    subst (λ (n : ℕ). n ≤ 192 * 10 ^ 24) (sym is)
    (area_square-below c.args.a c.args.b c.args.c c.requires.a c.requires.b c.requires.c)
