use Rattle.std.proofs.Common.{◌≡◌, ℕ, true, ap, sym, ◌∙◌, subst, arith}
use Rattle.std.specs.Prelude.{nat_eq}
use Rattle.std.proofs.lemmas.Bool.Decides.{nat_tests}
use Rattle.strip_graph.specs.Layouts.{IsByPlace, is_by_span}
use Rattle.strip_graph.specs.Strips.{Strip}
use Rattle.strip_graph.proofs.LayoutLaws.{IsBySpan, arcs_by_place}
use Rattle.strip_graph.proofs.layout.Layout.is_by_place.Goals as goal

is_zero : (n : ℕ) → nat_eq n 0 ≡ true → n ≡ 0
is_zero n e = grind (arith, nat_tests)

pub returns-in-Span-clause-by_place : goal.returns-in-Span-clause-by_place
returns-in-Span-clause-by_place c e =
    subst IsByPlace c.self.view_is (arcs_by_place c.self.inside.pair.now
    (subst IsBySpan (sym c.in-Span.is ∙ c.cost.ensures.value) tt))

pub returns-in-Mix-clause-by_place : goal.returns-in-Mix-clause-by_place
returns-in-Mix-clause-by_place c e =
    subst IsByPlace c.self.view_is (arcs_by_place c.self.inside.pair.now
    (subst IsBySpan (sym c.in-Mix.is ∙ c.cost.ensures.value) (is_zero c.in-Mix.area e)))

pub returns-in-Span-clause-rule : goal.returns-in-Span-clause-rule
returns-in-Span-clause-rule c = ap is_by_span (sym c.in-Span.is ∙ c.cost.ensures.value)
    ∙ ap (λ (s : Strip). is_by_span s.cost) c.self.view_is

pub returns-in-Area-clause-rule : goal.returns-in-Area-clause-rule
returns-in-Area-clause-rule c = ap is_by_span (sym c.in-Area.is ∙ c.cost.ensures.value)
    ∙ ap (λ (s : Strip). is_by_span s.cost) c.self.view_is

pub returns-in-Mix-clause-rule : goal.returns-in-Mix-clause-rule
returns-in-Mix-clause-rule c = ap is_by_span (sym c.in-Mix.is ∙ c.cost.ensures.value)
    ∙ ap (λ (s : Strip). is_by_span s.cost) c.self.view_is
