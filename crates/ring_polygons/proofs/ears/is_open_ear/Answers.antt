use Rattle.std.proofs.Common.{refl, sym, ◌∙◌}
use Rattle.ring_polygons.specs.declared.states.EarState.TheVariants.{NotConvex, Hindered}
use Rattle.ring_polygons.specs.Caps.{sign}
use Rattle.ring_polygons.proofs.EarTests.{not_along, hindered, unhindered}
use Rattle.ring_polygons.proofs.StateLaws.{set_true}
use Rattle.ring_polygons.proofs.ears.is_open_ear.Goals as goal

pub returns-then-not-turns_along-clause-value : goal.returns-then-not-turns_along-clause-value
returns-then-not-turns_along-clause-value c =
    sym (not_along c.args.twins (sign c.args.left) c.args.points.now c.args.place
    (sym c.turns_along.ensures ∙ c.if-not-turns_along.true))

pub returns-then-not-turns_along-clause-states : goal.returns-then-not-turns_along-clause-states
returns-then-not-turns_along-clause-states c =
    set_true c.args.twins (sign c.args.left) c.args.points.now c.args.states.now c.args.place NotConvex c.requires.place
    c.requires.states (sym c.turns_along.ensures ∙ c.if-not-turns_along.true)

pub returns-in-Some-clause-value : goal.returns-in-Some-clause-value
returns-in-Some-clause-value c = sym
    (hindered c.args.twins (sign c.args.left) c.args.points.now c.args.place c.in-Some.other c.in-Some.ensures.found.0
    c.in-Some.ensures.found.1)

pub returns-in-Some-clause-states : goal.returns-in-Some-clause-states
returns-in-Some-clause-states c = set_true c.args.twins (sign c.args.left) c.args.points.now c.args.states.now
    c.args.place (Hindered c.in-Some.other) c.requires.place c.requires.states c.in-Some.ensures.found

pub returns-in-None-clause-value : goal.returns-in-None-clause-value
returns-in-None-clause-value c = sym
    (unhindered c.args.twins (sign c.args.left) c.args.points.now c.args.place
    (sym c.turns_along.ensures ∙ c.if-not-turns_along.false) (c.in-None.ensures.free refl))
