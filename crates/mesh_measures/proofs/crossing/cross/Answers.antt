use Rattle.std.proofs.Common.{◌∙◌, ◌||◌, Bool, ap, sym, subst, IsTrue, ◌↔◌}
use Rattle.mesh_measures.specs.Crossings.{pierces, cross}
use Rattle.mesh_measures.specs.Meetings.{Cross}
use Rattle.mesh_measures.proofs.Meaning.{cross_means}
use Rattle.mesh_measures.proofs.Mutual.{mutual_cross, not_itself}
use Rattle.mesh_measures.proofs.crossing.cross.Goals as goal

pub returns-then-pierces-clause-value : goal.returns-then-pierces-clause-value
unfolding cross
returns-then-pierces-clause-value c =
    let s = c.args.s.now in
    let t = c.args.t.now in
    c.if-pierces.true ∙ sym (ap (λ (b : Bool). b || pierces t s) (sym c.pierces.ensures ∙ c.if-pierces.true))

pub returns-then-pierces-clause-mutual : goal.returns-then-pierces-clause-mutual
returns-then-pierces-clause-mutual c = mutual_cross c.args.s.now c.args.t.now
    ∙ sym (returns-then-pierces-clause-value c)

pub returns-then-pierces-clause-itself : goal.returns-then-pierces-clause-itself
returns-then-pierces-clause-itself c = not_itself c.args.s.now

pub returns-else-pierces-clause-value : goal.returns-else-pierces-clause-value
unfolding cross
returns-else-pierces-clause-value c =
    let s = c.args.s.now in
    let t = c.args.t.now in
    c.pierces-else-pierces.ensures ∙ sym
    (ap (λ (b : Bool). b || pierces t s) (sym c.pierces.ensures ∙ c.if-pierces.false))

pub returns-else-pierces-clause-mutual : goal.returns-else-pierces-clause-mutual
returns-else-pierces-clause-mutual c = mutual_cross c.args.s.now c.args.t.now
    ∙ sym (returns-else-pierces-clause-value c)

pub returns-else-pierces-clause-itself : goal.returns-else-pierces-clause-itself
returns-else-pierces-clause-itself c = not_itself c.args.s.now

pub returns-then-pierces-clause-means : goal.returns-then-pierces-clause-means
returns-then-pierces-clause-means c =
    subst (λ (b : Bool). IsTrue b ↔ Cross c.args.s.now c.args.t.now) (sym (returns-then-pierces-clause-value c))
    (cross_means c.args.s.now c.args.t.now)

pub returns-else-pierces-clause-means : goal.returns-else-pierces-clause-means
returns-else-pierces-clause-means c =
    subst (λ (b : Bool). IsTrue b ↔ Cross c.args.s.now c.args.t.now) (sym (returns-else-pierces-clause-value c))
    (cross_means c.args.s.now c.args.t.now)
