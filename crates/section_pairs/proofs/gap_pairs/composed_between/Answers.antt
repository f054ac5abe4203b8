use Rattle.std.proofs.Common.{ℕ, ◌+◌, All, sym, subst}
use Rattle.correspondence.specs.declared.gaps.Component.{Component}
use Rattle.correspondence.specs.Correspondences.{Correspond}
use Rattle.section_pairs.specs.Rings.{ArePicked}
use Rattle.section_pairs.proofs.SectionRings.{count_at}
use Rattle.section_pairs.proofs.GapPlaces.{below_places, above_places}
use Rattle.section_pairs.proofs.gap_pairs.composed_between.Goals as goal

pub component_pairs-requires-clause-below : goal.component_pairs-requires-clause-below
component_pairs-requires-clause-below c =
    let S = c.args.sections.now in
    let cs = c.args.components.now in
    subst (λ (n : ℕ). All (λ (p : Component). ArePicked n p.below.items) cs)
    (sym (count_at S c.args.gap c.args.low.now c.requires.low))
    (below_places (Correspond S c.args.gap) _ _ cs c.requires.members.components)

pub component_pairs-requires-clause-above : goal.component_pairs-requires-clause-above
component_pairs-requires-clause-above c =
    let S = c.args.sections.now in
    let cs = c.args.components.now in
    subst (λ (n : ℕ). All (λ (p : Component). ArePicked n p.above.items) cs)
    (sym (count_at S (c.args.gap + 1) c.args.high.now c.requires.high))
    (above_places (Correspond S c.args.gap) _ _ cs c.requires.members.components)
